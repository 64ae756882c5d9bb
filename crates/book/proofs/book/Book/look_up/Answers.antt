use Rattle.std.proofs.Common.{ap, ◌∙◌}
use Rattle.shelf.specs.Slots.{slot_for}
use Rattle.plainbook.proofs.Standing.{numbers_are}
use Rattle.book.proofs.book.Book.look_up.Goals as goal

pub returns : goal.returns
returns g c = λ k fs s. c.slot_of.ensures ∙ ap (slot_for c.args.number) (numbers_are _ 0 0 fs s.lists)
