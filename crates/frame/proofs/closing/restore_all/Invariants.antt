use Rattle.std.proofs.Common.{take}
use Rattle.layout.specs.Slots.{slots_of}
use Rattle.sheet.specs.Checks.{plain}
use Rattle.item_list.specs.Items.{code}
use Rattle.item_list.specs.Lists.{Puts}
use Rattle.frame.specs.Pieces.{restore_slots}
use Rattle.frame.proofs.closing.restore_all.Given as goal

abbrev pub invariant-loop-k : goal.invariant-loop-k
invariant-loop-k l = Puts l.initial.list l.list (code (restore_slots (take l.k (slots_of (plain l.layout.sheet)))))
