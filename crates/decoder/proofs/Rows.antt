-- The row of each instruction once more, cut at bit 24: what a reader looks at first, and the rest in as few fields as it tells apart.
use Rattle.std.proofs.Common.{◌≡◌, ℕ, ◌/◌, ◌%◌, ◌^◌, List, [], ◌∷◌, refl, arith}
use Rattle.a64.specs.Signed.{twos}
use Rattle.a64.specs.Words.{after, word, flag, load_bit, key_bit, sp_bit, wide_bit, mode_bits}
use Rattle.a64.specs.declared.inst.AddSub.{AddSub}
use Rattle.a64.specs.declared.inst.PairClass.{PairClass}
use Rattle.a64.specs.declared.inst.PairMode.{PairMode}
use Rattle.a64.specs.declared.inst.Class.{Class}
use Rattle.a64.specs.declared.inst.MoveWideOp.{MoveWideOp}
use Rattle.a64.specs.declared.inst.Key.{Key}
use Rattle.a64.specs.declared.inst.Modifier.{Modifier}
use Rattle.a64.specs.declared.inst.Inst.{Inst}
use Rattle.a64.specs.declared.inst.Inst.TheVariants.{AddSubImm, AddSubExt, AddsShifted, Pair, Single, LdrUImm, LdrReg, StrWReg, SturW, MovWide, Paci, Auti, BtiC, Ret, RetAuth, BGt, Other}

-- Bits 31 to 24. An underscore stands where a field of the manual ends.
abbrev pub add_sub_imm_head : AddSub → ℕ
add_sub_imm_head AddSub.Add = 0b1_0_0_10001
add_sub_imm_head AddSub.Sub = 0b1_1_0_10001

abbrev pub add_sub_ext_head : AddSub → ℕ
add_sub_ext_head AddSub.Add = 0b1_0_0_01011
add_sub_ext_head AddSub.Sub = 0b1_1_0_01011

-- opc, 101, V and the first two of the three bits of the mode: post-indexed 001, signed offset 010, pre-indexed 011
abbrev pub pair_head : PairClass → PairMode → ℕ
pair_head PairClass.X PairMode.Post = 0b10_101_0_00
pair_head PairClass.X PairMode.Offset = 0b10_101_0_01
pair_head PairClass.X PairMode.Pre = 0b10_101_0_01
pair_head PairClass.D PairMode.Post = 0b01_101_1_00
pair_head PairClass.D PairMode.Offset = 0b01_101_1_01
pair_head PairClass.D PairMode.Pre = 0b01_101_1_01

abbrev pub pair_mode_bit : PairMode → ℕ
pair_mode_bit PairMode.Post = 1
pair_mode_bit PairMode.Offset = 0
pair_mode_bit PairMode.Pre = 1

-- size, 111, V, 00
abbrev pub single_head : Class → ℕ
single_head Class.X = 0b11_111_0_00
single_head Class.D = 0b11_111_1_00
single_head Class.Q = 0b00_111_1_00

abbrev pub mov_head : MoveWideOp → ℕ
mov_head MoveWideOp.MovZ = 0b1_10_10010
mov_head MoveWideOp.MovK = 0b1_11_10010

abbrev pub head : Inst → ℕ
head (AddSubImm op rd rn imm) = add_sub_imm_head op
head (AddSubExt op rd rn rm) = add_sub_ext_head op
head (AddsShifted rd rn rm) = 0b1_0_1_01011
head (Pair dir class mode rt rt2 rn offset) = pair_head class mode
head (Single dir class mode rt rn offset) = single_head class
head (LdrUImm rt rn offset) = 0b11_111_0_01
head (LdrReg rt rn rm) = 0b11_111_0_00
head (StrWReg rt rn rm) = 0b10_111_0_00
head (SturW rt rn offset) = 0b10_111_0_00
head (MovWide op rd imm) = mov_head op
head (Paci key modifier) = 0b11010101
head (Auti key modifier) = 0b11010101
head BtiC = 0b11010101
head Ret = 0b1101011_0
head (RetAuth key) = 0b1101011_0
head (BGt offset) = 0b0101010_0
head (Other w) = w / 2 ^ 24

-- Bits 23 to 0.
abbrev pub rest : Inst → List (ℕ × ℕ)
rest (AddSubImm op rd rn imm) = (1, 0) ∷ (1, flag imm.shift12) ∷ (12, imm.bits) ∷ (5, rn.enc) ∷ (5, rd.enc) ∷ []
rest (AddSubExt op rd rn rm) = (3, 0b00_1) ∷ (5, rm.enc) ∷ (6, 0b011_000) ∷ (5, rn.enc) ∷ (5, rd.enc) ∷ []
rest (AddsShifted rd rn rm) = (3, 0b00_0) ∷ (5, rm.enc) ∷ (6, 0b000000) ∷ (5, rn.enc) ∷ (5, rd.enc) ∷ []
rest (Pair dir class mode rt rt2 rn offset) =
    (1, pair_mode_bit mode) ∷ (1, load_bit dir) ∷ (7, twos 10 offset.value / 8) ∷ (5, rt2.enc) ∷ (5, rn.enc) ∷ (5, rt.enc) ∷ []
rest (Single dir class mode rt rn offset) =
    (1, wide_bit class) ∷ (1, load_bit dir) ∷ (1, 0) ∷ (9, twos 9 offset.value) ∷ (2, mode_bits mode) ∷ (5, rn.enc) ∷ (5, rt.enc) ∷ []
rest (LdrUImm rt rn offset) = (2, 0b01) ∷ (12, offset.value / 8) ∷ (5, rn.enc) ∷ (5, rt.enc) ∷ []
rest (LdrReg rt rn rm) = (2, 0b01) ∷ (1, 1) ∷ (5, rm.enc) ∷ (6, 0b011_0_10) ∷ (5, rn.enc) ∷ (5, rt.enc) ∷ []
rest (StrWReg rt rn rm) = (2, 0b00) ∷ (1, 1) ∷ (5, rm.enc) ∷ (6, 0b011_0_10) ∷ (5, rn.enc) ∷ (5, rt.enc) ∷ []
rest (SturW rt rn offset) = (2, 0b00) ∷ (1, 0) ∷ (9, twos 9 offset.value) ∷ (2, 0b00) ∷ (5, rn.enc) ∷ (5, rt.enc) ∷ []
rest (MovWide op rd imm) = (1, 1) ∷ (2, imm.shift) ∷ (16, imm.bits) ∷ (5, rd.enc) ∷ []
rest (Paci key modifier) = (12, 0b00000011_0010) ∷ (4, 0b0011) ∷ (1, 0) ∷ (1, key_bit key) ∷ (1, sp_bit modifier) ∷ (5, 0b11111) ∷ []
rest (Auti key modifier) = (12, 0b00000011_0010) ∷ (4, 0b0011) ∷ (1, 1) ∷ (1, key_bit key) ∷ (1, sp_bit modifier) ∷ (5, 0b11111) ∷ []
rest BtiC = (24, 0b00000011_0010_0100_010_11111) ∷ []
rest Ret = (24, 0b0_10_11111_0000_0_0_11110_00000) ∷ []
rest (RetAuth key) = (13, 0b0_10_11111_0000_1) ∷ (1, key_bit key) ∷ (10, 0b11111_11111) ∷ []
rest (BGt offset) = (19, twos 19 offset) ∷ (5, 0b0_1100) ∷ []
rest (Other w) = (24, w % 2 ^ 24) ∷ []

abbrev pub cut_word : Inst → ℕ
cut_word i = after (head i) (rest i)

pub same_word : (i : Inst) → word i ≡ cut_word i
same_word (AddSubImm AddSub.Add rd rn imm) = refl
same_word (AddSubImm AddSub.Sub rd rn imm) = refl
same_word (AddSubExt AddSub.Add rd rn rm) = omega arith
same_word (AddSubExt AddSub.Sub rd rn rm) = omega arith
same_word (AddsShifted rd rn rm) = omega arith
same_word (Pair dir PairClass.X PairMode.Post rt rt2 rn offset) = refl
same_word (Pair dir PairClass.X PairMode.Offset rt rt2 rn offset) = refl
same_word (Pair dir PairClass.X PairMode.Pre rt rt2 rn offset) = refl
same_word (Pair dir PairClass.D PairMode.Post rt rt2 rn offset) = refl
same_word (Pair dir PairClass.D PairMode.Offset rt rt2 rn offset) = refl
same_word (Pair dir PairClass.D PairMode.Pre rt rt2 rn offset) = refl
same_word (Single dir Class.X mode rt rn offset) = refl
same_word (Single dir Class.D mode rt rn offset) = refl
same_word (Single dir Class.Q mode rt rn offset) = refl
same_word (LdrUImm rt rn offset) = refl
same_word (LdrReg rt rn rm) = omega arith
same_word (StrWReg rt rn rm) = omega arith
same_word (SturW rt rn offset) = refl
same_word (MovWide MoveWideOp.MovZ rd imm) = refl
same_word (MovWide MoveWideOp.MovK rd imm) = refl
same_word (Paci Key.A Modifier.Zero) = refl
same_word (Paci Key.A Modifier.Sp) = refl
same_word (Paci Key.B Modifier.Zero) = refl
same_word (Paci Key.B Modifier.Sp) = refl
same_word (Auti Key.A Modifier.Zero) = refl
same_word (Auti Key.A Modifier.Sp) = refl
same_word (Auti Key.B Modifier.Zero) = refl
same_word (Auti Key.B Modifier.Sp) = refl
same_word BtiC = refl
same_word Ret = refl
same_word (RetAuth Key.A) = refl
same_word (RetAuth Key.B) = refl
same_word (BGt offset) = omega arith
same_word (Other w) = omega arith
