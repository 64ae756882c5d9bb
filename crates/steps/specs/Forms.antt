-- The instructions that constants, adjustments and probes are made of, as an assembler writes them.
use Rattle.std.specs.Prelude.{ℕ, pos}
use Rattle.a64.specs.declared.imm.Imm12.{Imm12}
use Rattle.a64.specs.declared.inst.Reg.{Reg}
use Rattle.a64.specs.declared.inst.AddSub.{AddSub}
use Rattle.a64.specs.declared.inst.MoveWideOp.{MoveWideOp}
use Rattle.a64.specs.declared.inst.Inst.{Inst}
use Rattle.a64.specs.declared.inst.Inst.TheVariants.{AddSubImm, AddsShifted, StrWReg, SturW, MovWide}

-- A register by its number.
abbrev pub reg : ℕ → Reg
reg n = record { enc = n }

-- x16 and x17, the temporaries.
abbrev pub spilltmp : Reg
spilltmp = reg 16

abbrev pub tmp2 : Reg
tmp2 = reg 17

-- Number 31 is SP as a base and in ADD and SUB of an immediate or an extended register, and the zero register elsewhere.
abbrev pub sp : Reg
sp = reg 31

abbrev pub zr : Reg
zr = reg 31

-- movz, movk rd, #bits, lsl #16*shift
abbrev pub movz : Reg → ℕ → ℕ → Inst
movz rd bits shift = MovWide MoveWideOp.MovZ rd (record { bits = bits; shift = shift })

abbrev pub movk : Reg → ℕ → ℕ → Inst
movk rd bits shift = MovWide MoveWideOp.MovK rd (record { bits = bits; shift = shift })

-- stur wzr, [sp]
abbrev pub probe_sp : Inst
probe_sp = SturW zr sp (record { value = pos 0 })

-- sub x16, x16, #step
abbrev pub step_down : Imm12 → Inst
step_down step = AddSubImm AddSub.Sub spilltmp spilltmp step

-- str wzr, [sp, x16]
abbrev pub probe_below : Inst
probe_below = StrWReg zr sp spilltmp

-- adds xzr, x16, x17
abbrev pub compare_end : Inst
compare_end = AddsShifted zr spilltmp tmp2
