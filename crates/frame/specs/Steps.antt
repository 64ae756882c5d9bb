-- The slots of the code.
use Rattle.a64.specs.declared.inst.Class.{Class}
use Rattle.a64.specs.declared.inst.Dir.{Dir}
use Rattle.a64.specs.declared.inst.Inst.{Inst}
use Rattle.a64.specs.declared.inst.PairClass.{PairClass}
use Rattle.layout.specs.Slots.{Slot, pair_x, one_x, pair_d, one_d, one_q}
use Rattle.frame.specs.Pieces.{pop, push}
use Rattle.frame.specs.declared.slots.SaveSlot.{SaveSlot}
use Rattle.frame.specs.declared.slots.SaveSlot.TheVariants.{Pair, One}

-- The slot that the code speaks of.
abbrev pub as_slot : SaveSlot → Slot
as_slot (Pair PairClass.X a b) = pair_x a.number b.number
as_slot (Pair PairClass.D a b) = pair_d a.number b.number
as_slot (One Class.X a) = one_x a.number
as_slot (One Class.D a) = one_d a.number
as_slot (One Class.Q a) = one_q a.number

-- 16 bytes of the save area, pushed or popped.
abbrev pub move_of : Dir → Slot → Inst
move_of Dir.Store s = push s
move_of Dir.Load s = pop s
