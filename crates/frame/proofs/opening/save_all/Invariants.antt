use Rattle.std.proofs.Common.{◌*◌, drop}
use Rattle.layout.specs.Slots.{slots_of}
use Rattle.sheet.specs.Checks.{plain}
use Rattle.item_list.specs.Lists.{Puts}
use Rattle.frame.specs.Pieces.{save_slots}
use Rattle.frame.proofs.opening.save_all.Given as goal

abbrev pub invariant-loop-k : goal.invariant-loop-k
invariant-loop-k l = Puts l.initial.list l.list (save_slots (plain l.layout.sheet) (drop l.k (slots_of (plain l.layout.sheet))) (16 * l.k))
