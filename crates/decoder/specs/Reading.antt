-- The reading of a word, worked out. `Words` says what a reading is, and `proofs/Laws` shows that this is it.
use Rattle.std.specs.Prelude.{ℕ, ◌*◌, ◌/◌, ◌%◌, ◌^◌, cond, ◌&&◌, ◌==◌}
use Rattle.a64.specs.Signed.{from_twos}
use Rattle.a64.specs.Words.{pair_clash_of, single_clash_of, wide_bit}
use Rattle.a64.specs.declared.inst.Reg.{Reg}
use Rattle.a64.specs.declared.inst.AddSub.{AddSub}
use Rattle.a64.specs.declared.inst.Dir.{Dir}
use Rattle.a64.specs.declared.inst.PairClass.{PairClass}
use Rattle.a64.specs.declared.inst.PairMode.{PairMode}
use Rattle.a64.specs.declared.inst.Class.{Class}
use Rattle.a64.specs.declared.inst.Mode.{Mode}
use Rattle.a64.specs.declared.inst.MoveWideOp.{MoveWideOp}
use Rattle.a64.specs.declared.inst.Key.{Key}
use Rattle.a64.specs.declared.inst.Modifier.{Modifier}
use Rattle.a64.specs.declared.inst.Inst.{Inst}
use Rattle.a64.specs.declared.inst.Inst.TheVariants.{AddSubImm, AddSubExt, AddsShifted, Pair, Single, LdrUImm, LdrReg, StrWReg, SturW, MovWide, Paci, Auti, BtiC, Ret, RetAuth, BGt, Other}

-- width bits of w, from bit at up
abbrev pub field_of : ℕ → ℕ → ℕ → ℕ
field_of w at width = w / 2 ^ at % 2 ^ width

-- the register whose number stands from bit at up
abbrev pub reg_of : ℕ → ℕ → Reg
reg_of w at = record { enc = field_of w at 5 }

abbrev pub dir_of : ℕ → Dir
dir_of n = cond (n == 0) Dir.Store Dir.Load

abbrev pub key_of : ℕ → Key
key_of n = cond (n == 0) Key.A Key.B

abbrev pub modifier_of : ℕ → Modifier
modifier_of n = cond (n == 0) Modifier.Zero Modifier.Sp

abbrev pub add_sub_imm_of : AddSub → ℕ → Inst
add_sub_imm_of op w =
    cond (field_of w 23 1 == 0)
    (AddSubImm op (reg_of w 0) (reg_of w 5) (record { bits = field_of w 10 12; shift12 = (field_of w 22 1 == 1) }))
    (Other w)

abbrev pub add_sub_ext_of : AddSub → ℕ → Inst
add_sub_ext_of op w =
    cond (field_of w 21 3 == 1 && field_of w 10 6 == 24)
    (AddSubExt op (reg_of w 0) (reg_of w 5) (reg_of w 16))
    (Other w)

abbrev pub adds_shifted_of : ℕ → Inst
adds_shifted_of w =
    cond (field_of w 21 3 == 0 && field_of w 10 6 == 0)
    (AddsShifted (reg_of w 0) (reg_of w 5) (reg_of w 16))
    (Other w)

abbrev pub pair : PairClass → PairMode → ℕ → Inst
pair class mode w =
    cond (pair_clash_of (dir_of (field_of w 22 1)) class mode (reg_of w 0) (reg_of w 10) (reg_of w 5))
    (Other w)
    (Pair (dir_of (field_of w 22 1)) class mode (reg_of w 0) (reg_of w 10) (reg_of w 5) (record { value = from_twos 10 (8 * field_of w 15 7) }))

abbrev pub pair_post_of : PairClass → ℕ → Inst
pair_post_of class w = cond (field_of w 23 1 == 1) (pair class PairMode.Post w) (Other w)

abbrev pub pair_pre_of : PairClass → ℕ → Inst
pair_pre_of class w = cond (field_of w 23 1 == 1) (pair class PairMode.Pre w) (pair class PairMode.Offset w)

abbrev pub indexed : Class → Mode → ℕ → Inst
indexed class mode w =
    cond (single_clash_of class (reg_of w 0) (reg_of w 5))
    (Other w)
    (Single (dir_of (field_of w 22 1)) class mode (reg_of w 0) (reg_of w 5) (record { value = from_twos 9 (field_of w 12 9) }))

abbrev pub single : Class → ℕ → Inst
single class w =
    cond (field_of w 23 1 == wide_bit class && field_of w 21 1 == 0)
    (cond (field_of w 10 2 == 3) (indexed class Mode.Pre w) (cond (field_of w 10 2 == 1) (indexed class Mode.Post w) (Other w)))
    (Other w)

abbrev pub ldr_reg_of : ℕ → Inst
ldr_reg_of w =
    cond (field_of w 22 2 == 1 && field_of w 10 6 == 26)
    (LdrReg (reg_of w 0) (reg_of w 5) (reg_of w 16))
    (Other w)

abbrev pub load_x_of : ℕ → Inst
load_x_of w = cond (field_of w 21 1 == 1) (ldr_reg_of w) (single Class.X w)

abbrev pub ldr_u_imm : ℕ → Inst
ldr_u_imm w =
    cond (field_of w 22 2 == 1)
    (LdrUImm (reg_of w 0) (reg_of w 5) (record { value = 8 * field_of w 10 12 }))
    (Other w)

abbrev pub store_w_of : ℕ → Inst
store_w_of w =
    cond (field_of w 22 2 == 0)
    (cond (field_of w 21 1 == 1)
    (cond (field_of w 10 6 == 26) (StrWReg (reg_of w 0) (reg_of w 5) (reg_of w 16)) (Other w))
    (cond (field_of w 10 2 == 0) (SturW (reg_of w 0) (reg_of w 5) (record { value = from_twos 9 (field_of w 12 9) })) (Other w)))
    (Other w)

abbrev pub mov_wide_of : MoveWideOp → ℕ → Inst
mov_wide_of op w =
    cond (field_of w 23 1 == 1)
    (MovWide op (reg_of w 0) (record { bits = field_of w 5 16; shift = field_of w 21 2 }))
    (Other w)

abbrev pub hint : ℕ → Inst
hint w =
    cond (field_of w 0 24 == 0x03245f)
    BtiC
    (cond (field_of w 12 12 == 0x032 && field_of w 8 4 == 3 && field_of w 0 5 == 31)
    (cond (field_of w 7 1 == 0)
    (Paci (key_of (field_of w 6 1)) (modifier_of (field_of w 5 1)))
    (Auti (key_of (field_of w 6 1)) (modifier_of (field_of w 5 1))))
    (Other w))

abbrev pub ret : ℕ → Inst
ret w =
    cond (field_of w 0 24 == 0x5f03c0)
    Ret
    (cond (field_of w 11 13 == 0xbe1 && field_of w 0 10 == 0x3ff) (RetAuth (key_of (field_of w 10 1))) (Other w))

abbrev pub branch : ℕ → Inst
branch w = cond (field_of w 0 5 == 12) (BGt (from_twos 19 (field_of w 5 19))) (Other w)

abbrev pub by_head : ℕ → ℕ → Inst
by_head h w =
    cond (h == 0x91) (add_sub_imm_of AddSub.Add w)
    (cond (h == 0xd1) (add_sub_imm_of AddSub.Sub w)
    (cond (h == 0x8b) (add_sub_ext_of AddSub.Add w)
    (cond (h == 0xcb) (add_sub_ext_of AddSub.Sub w)
    (cond (h == 0xab) (adds_shifted_of w)
    (cond (h == 0xa8) (pair_post_of PairClass.X w)
    (cond (h == 0xa9) (pair_pre_of PairClass.X w)
    (cond (h == 0x6c) (pair_post_of PairClass.D w)
    (cond (h == 0x6d) (pair_pre_of PairClass.D w)
    (cond (h == 0xf8) (load_x_of w)
    (cond (h == 0xfc) (single Class.D w)
    (cond (h == 0x3c) (single Class.Q w)
    (cond (h == 0xf9) (ldr_u_imm w)
    (cond (h == 0xb8) (store_w_of w)
    (cond (h == 0xd2) (mov_wide_of MoveWideOp.MovZ w)
    (cond (h == 0xf2) (mov_wide_of MoveWideOp.MovK w)
    (cond (h == 0xd5) (hint w)
    (cond (h == 0xd6) (ret w)
    (cond (h == 0x54) (branch w)
    (Other w)))))))))))))))))))

abbrev pub reading : ℕ → Inst
reading w = by_head (w / 2 ^ 24) w
