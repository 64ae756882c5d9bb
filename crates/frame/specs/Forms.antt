-- The instructions that frames are made of, as an assembler writes them.
use Rattle.std.specs.Prelude.{ℕ, false, pos, negsuc}
use Rattle.a64.specs.declared.imm.UImm12Scaled.{UImm12Scaled}
use Rattle.a64.specs.declared.inst.Reg.{Reg}
use Rattle.a64.specs.declared.inst.AddSub.{AddSub}
use Rattle.a64.specs.declared.inst.Dir.{Dir}
use Rattle.a64.specs.declared.inst.PairClass.{PairClass}
use Rattle.a64.specs.declared.inst.PairMode.{PairMode}
use Rattle.a64.specs.declared.inst.Class.{Class}
use Rattle.a64.specs.declared.inst.Mode.{Mode}
use Rattle.a64.specs.declared.inst.Inst.{Inst}
use Rattle.a64.specs.declared.inst.Inst.TheVariants.{AddSubImm, Pair, Single, LdrUImm, LdrReg}
use Rattle.steps.specs.Forms.{reg, sp, spilltmp}

-- x29 and x30, the frame pointer and the link register.
abbrev pub fp : Reg
fp = reg 29

abbrev pub lr : Reg
lr = reg 30

-- add fp, sp, #0: FP is where SP is
abbrev pub mov_fp_sp_of : Inst
mov_fp_sp_of = AddSubImm AddSub.Add fp sp (record { bits = 0; shift12 = false })

-- stp ta, tb, [sp, #-16]!
abbrev pub push_pair_of : PairClass → ℕ → ℕ → Inst
push_pair_of c a b = Pair Dir.Store c PairMode.Pre (reg a) (reg b) sp (record { value = negsuc 15 })

-- ldp ta, tb, [sp], #16
abbrev pub pop_pair_of : PairClass → ℕ → ℕ → Inst
pop_pair_of c a b = Pair Dir.Load c PairMode.Post (reg a) (reg b) sp (record { value = pos 16 })

-- str ta, [sp, #-16]!
abbrev pub push_one_of : Class → ℕ → Inst
push_one_of c a = Single Dir.Store c Mode.Pre (reg a) sp (record { value = negsuc 15 })

-- ldr ta, [sp], #16
abbrev pub pop_one_of : Class → ℕ → Inst
pop_one_of c a = Single Dir.Load c Mode.Post (reg a) sp (record { value = pos 16 })

-- A pair pushed or popped.
abbrev pub move_pair_of : Dir → PairClass → ℕ → ℕ → Inst
move_pair_of Dir.Store c a b = push_pair_of c a b
move_pair_of Dir.Load c a b = pop_pair_of c a b

-- One register pushed or popped.
abbrev pub move_one_of : Dir → Class → ℕ → Inst
move_one_of Dir.Store c a = push_one_of c a
move_one_of Dir.Load c a = pop_one_of c a

-- stp fp, lr, [sp]
abbrev pub store_fp_lr : Inst
store_fp_lr = Pair Dir.Store PairClass.X PairMode.Offset fp lr sp (record { value = pos 0 })

-- ldr fp, [sp, #offset]
abbrev pub load_fp : UImm12Scaled → Inst
load_fp offset = LdrUImm fp sp offset

-- ldr fp, [sp, x16]
abbrev pub load_fp_far : Inst
load_fp_far = LdrReg fp sp spilltmp
