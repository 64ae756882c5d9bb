-- The words of the named instructions, as the Arm Architecture Reference Manual draws them.
use Rattle.std.specs.Prelude.{◌≡◌, ℕ, ◌+◌, ◌*◌, ◌/◌, ◌%◌, ◌^◌, ◌<◌, Bool, true, false, not, ◌&&◌, ◌||◌, ◌⊎◌, List, [], ◌∷◌, ◌==◌, ◌≢◌}
use Rattle.a64.specs.Signed.{twos, Within}
use Rattle.a64.specs.declared.inst.Reg.{Reg}
use Rattle.a64.specs.declared.inst.AddSub.{AddSub}
use Rattle.a64.specs.declared.inst.Dir.{Dir}
use Rattle.a64.specs.declared.inst.PairClass.{PairClass}
use Rattle.a64.specs.declared.inst.PairMode.{PairMode}
use Rattle.a64.specs.declared.inst.Class.{Class}
use Rattle.a64.specs.declared.inst.Mode.{Mode}
use Rattle.a64.specs.declared.inst.MoveWideOp.{MoveWideOp}
use Rattle.a64.specs.declared.inst.Key.{Key}
use Rattle.a64.specs.declared.inst.Modifier.{Modifier}
use Rattle.a64.specs.declared.inst.Inst.{Inst}
use Rattle.a64.specs.declared.inst.Inst.TheVariants.{AddSubImm, AddSubExt, AddsShifted, Pair, Single, LdrUImm, LdrReg, StrWReg, SturW, MovWide, Paci, Auti, BtiC, Ret, RetAuth, BGt, Other}

-- The bits of small fields, under the manual's names.
abbrev pub flag : Bool → ℕ
flag false = 0
flag true = 1

-- op: 0 adds, 1 subtracts
abbrev pub op_bit : AddSub → ℕ
op_bit AddSub.Add = 0
op_bit AddSub.Sub = 1

-- L: 0 stores, 1 loads
abbrev pub load_bit : Dir → ℕ
load_bit Dir.Store = 0
load_bit Dir.Load = 1

-- opc and V of a pair
abbrev pub pair_opc : PairClass → ℕ
pair_opc PairClass.X = 0b10
pair_opc PairClass.D = 0b01

abbrev pub pair_v : PairClass → ℕ
pair_v PairClass.X = 0
pair_v PairClass.D = 1

-- bits 25 to 23 of a pair
abbrev pub pair_index : PairMode → ℕ
pair_index PairMode.Post = 0b001
pair_index PairMode.Offset = 0b010
pair_index PairMode.Pre = 0b011

-- size, V and the first bit of opc of a single register
abbrev pub size : Class → ℕ
size Class.X = 0b11
size Class.D = 0b11
size Class.Q = 0b00

abbrev pub vector_bit : Class → ℕ
vector_bit Class.X = 0
vector_bit Class.D = 1
vector_bit Class.Q = 1

abbrev pub wide_bit : Class → ℕ
wide_bit Class.X = 0
wide_bit Class.D = 0
wide_bit Class.Q = 1

-- bits 11 and 10 of a single register
abbrev pub mode_bits : Mode → ℕ
mode_bits Mode.Post = 0b01
mode_bits Mode.Pre = 0b11

abbrev pub move_opc : MoveWideOp → ℕ
move_opc MoveWideOp.MovZ = 0b10
move_opc MoveWideOp.MovK = 0b11

abbrev pub key_bit : Key → ℕ
key_bit Key.A = 0
key_bit Key.B = 1

abbrev pub sp_bit : Modifier → ℕ
sp_bit Modifier.Zero = 0
sp_bit Modifier.Sp = 1

-- A row of the manual: each field from bit 31 down, as its width and its value.
abbrev pub row : Inst → List (ℕ × ℕ)
row (AddSubImm op rd rn imm) =
    (1, 1) ∷ (1, op_bit op) ∷ (1, 0) ∷ (6, 0b100010) ∷ (1, flag imm.shift12) ∷ (12, imm.bits) ∷ (5, rn.enc) ∷ (5, rd.enc) ∷ []
row (AddSubExt op rd rn rm) =
    (1, 1) ∷ (1, op_bit op) ∷ (1, 0) ∷ (5, 0b01011) ∷ (2, 0b00) ∷ (1, 1) ∷ (5, rm.enc) ∷ (3, 0b011) ∷ (3, 0b000) ∷ (5, rn.enc) ∷ (5, rd.enc) ∷ []
row (AddsShifted rd rn rm) =
    (1, 1) ∷ (1, 0) ∷ (1, 1) ∷ (5, 0b01011) ∷ (2, 0b00) ∷ (1, 0) ∷ (5, rm.enc) ∷ (6, 0b000000) ∷ (5, rn.enc) ∷ (5, rd.enc) ∷ []
row (Pair dir class mode rt rt2 rn offset) =
    (2, pair_opc class) ∷ (3, 0b101) ∷ (1, pair_v class) ∷ (3, pair_index mode) ∷ (1, load_bit dir)
    ∷ (7, twos 10 offset.value / 8) ∷ (5, rt2.enc) ∷ (5, rn.enc) ∷ (5, rt.enc) ∷ []
row (Single dir class mode rt rn offset) =
    (2, size class) ∷ (3, 0b111) ∷ (1, vector_bit class) ∷ (2, 0b00) ∷ (1, wide_bit class) ∷ (1, load_bit dir) ∷ (1, 0)
    ∷ (9, twos 9 offset.value) ∷ (2, mode_bits mode) ∷ (5, rn.enc) ∷ (5, rt.enc) ∷ []
row (LdrUImm rt rn offset) =
    (2, 0b11) ∷ (3, 0b111) ∷ (1, 0) ∷ (2, 0b01) ∷ (2, 0b01) ∷ (12, offset.value / 8) ∷ (5, rn.enc) ∷ (5, rt.enc) ∷ []
row (LdrReg rt rn rm) =
    (2, 0b11) ∷ (3, 0b111) ∷ (1, 0) ∷ (2, 0b00) ∷ (2, 0b01) ∷ (1, 1) ∷ (5, rm.enc) ∷ (3, 0b011) ∷ (1, 0) ∷ (2, 0b10) ∷ (5, rn.enc) ∷ (5, rt.enc) ∷ []
row (StrWReg rt rn rm) =
    (2, 0b10) ∷ (3, 0b111) ∷ (1, 0) ∷ (2, 0b00) ∷ (2, 0b00) ∷ (1, 1) ∷ (5, rm.enc) ∷ (3, 0b011) ∷ (1, 0) ∷ (2, 0b10) ∷ (5, rn.enc) ∷ (5, rt.enc) ∷ []
row (SturW rt rn offset) =
    (2, 0b10) ∷ (3, 0b111) ∷ (1, 0) ∷ (2, 0b00) ∷ (2, 0b00) ∷ (1, 0) ∷ (9, twos 9 offset.value) ∷ (2, 0b00) ∷ (5, rn.enc) ∷ (5, rt.enc) ∷ []
row (MovWide op rd imm) = (1, 1) ∷ (2, move_opc op) ∷ (6, 0b100101) ∷ (2, imm.shift) ∷ (16, imm.bits) ∷ (5, rd.enc) ∷ []
row (Paci key modifier) = (20, 0b11010101000000110010) ∷ (4, 0b0011) ∷ (1, 0) ∷ (1, key_bit key) ∷ (1, sp_bit modifier) ∷ (5, 0b11111) ∷ []
row (Auti key modifier) = (20, 0b11010101000000110010) ∷ (4, 0b0011) ∷ (1, 1) ∷ (1, key_bit key) ∷ (1, sp_bit modifier) ∷ (5, 0b11111) ∷ []
row BtiC = (20, 0b11010101000000110010) ∷ (4, 0b0100) ∷ (3, 0b010) ∷ (5, 0b11111) ∷ []
row Ret = (7, 0b1101011) ∷ (1, 0) ∷ (1, 0) ∷ (2, 0b10) ∷ (5, 0b11111) ∷ (4, 0b0000) ∷ (1, 0) ∷ (1, 0) ∷ (5, 0b11110) ∷ (5, 0b00000) ∷ []
row (RetAuth key) = (7, 0b1101011) ∷ (1, 0) ∷ (1, 0) ∷ (2, 0b10) ∷ (5, 0b11111) ∷ (4, 0b0000) ∷ (1, 1) ∷ (1, key_bit key) ∷ (5, 0b11111) ∷ (5, 0b11111) ∷ []
row (BGt offset) = (8, 0b01010100) ∷ (19, twos 19 offset) ∷ (1, 0) ∷ (4, 0b1100) ∷ []
row (Other w) = (32, w) ∷ []

-- The fields one behind the other, after what stands before them.
abbrev pub after : ℕ → List (ℕ × ℕ) → ℕ
after h [] = h
after h (f ∷ fs) = after (h * 2 ^ f.0 + f.1) fs

-- The word of an instruction.
abbrev pub word : Inst → ℕ
word i = after 0 (row i)

-- A base that is written back is the register that is moved; SP never is.
abbrev pub overlaps : Reg → Reg → Bool
overlaps rn rt = not (rn.enc == 31) && rt.enc == rn.enc

abbrev pub is_load : Dir → Bool
is_load Dir.Store = false
is_load Dir.Load = true

-- The base is written back and could be one of the registers moved: X registers, pre- and post-indexed.
abbrev pub pair_writes : PairClass → PairMode → Bool
pair_writes PairClass.X PairMode.Post = true
pair_writes PairClass.X PairMode.Pre = true
pair_writes PairClass.X PairMode.Offset = false
pair_writes PairClass.D PairMode.Post = false
pair_writes PairClass.D PairMode.Pre = false
pair_writes PairClass.D PairMode.Offset = false

abbrev pub is_x : Class → Bool
is_x Class.X = true
is_x Class.D = false
is_x Class.Q = false

-- What the manual calls constrained unpredictable: a pair loaded into one register, or a base that is written back and moved.
abbrev pub pair_clash_of : Dir → PairClass → PairMode → Reg → Reg → Reg → Bool
pair_clash_of dir class mode rt rt2 rn = (is_load dir && rt.enc == rt2.enc) || (pair_writes class mode && (overlaps rn rt || overlaps rn rt2))

abbrev pub single_clash_of : Class → Reg → Reg → Bool
single_clash_of class rt rn = is_x class && overlaps rn rt

-- A register's number has five bits.
abbrev pub Numbered : Reg → Type 0
Numbered r = r.enc < 32

-- An instruction that the manual has: its operands fit their fields, and it is not constrained unpredictable.
abbrev pub Formed : Inst → Type 0
Formed (AddSubImm op rd rn imm) = Numbered rd × Numbered rn × (imm.bits < 4096)
Formed (AddSubExt op rd rn rm) = Numbered rd × Numbered rn × Numbered rm
Formed (AddsShifted rd rn rm) = Numbered rd × Numbered rn × Numbered rm
Formed (Pair dir class mode rt rt2 rn offset) =
    Numbered rt × Numbered rt2 × Numbered rn × Within 10 offset.value × (twos 10 offset.value % 8 ≡ 0) × (pair_clash_of dir class mode rt rt2 rn ≡ false)
Formed (Single dir class mode rt rn offset) = Numbered rt × Numbered rn × Within 9 offset.value × (single_clash_of class rt rn ≡ false)
Formed (LdrUImm rt rn offset) = Numbered rt × Numbered rn × (offset.value < 32768) × (offset.value % 8 ≡ 0)
Formed (LdrReg rt rn rm) = Numbered rt × Numbered rn × Numbered rm
Formed (StrWReg rt rn rm) = Numbered rt × Numbered rn × Numbered rm
Formed (SturW rt rn offset) = Numbered rt × Numbered rn × Within 9 offset.value
Formed (MovWide op rd imm) = Numbered rd × (imm.shift < 4) × (imm.bits < 65536)
Formed (Paci key modifier) = Unit {0}
Formed (Auti key modifier) = Unit {0}
Formed BtiC = Unit {0}
Formed Ret = Unit {0}
Formed (RetAuth key) = Unit {0}
Formed (BGt offset) = Within 19 offset
Formed (Other w) = ⊥

-- The word w reads as i: the manual has i with this word; or it has no instruction with this word, and i is `Other` with its value.
abbrev pub Reads : ℕ → Inst → Type 0
Reads w i = (Formed i × (word i ≡ w)) ⊎ ((i ≡ Other w) × ((j : Inst) → Formed j → word j ≢ w))
