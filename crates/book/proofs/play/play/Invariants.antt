use Rattle.std.proofs.Common.{◌≡◌, ℕ, ◌≤◌, [], length, vec_items, vec_len, vec_capacity}
use Rattle.shelf.specs.Listed.{listed}
use Rattle.plainbook.specs.Plain.{priced}
use Rattle.plainbook.specs.Stands.{Stands}
use Rattle.plainbook.proofs.Playing.{Midway}
use Rattle.book.proofs.play.play.Given as goal

abbrev pub invariant-loop-call : goal.invariant-loop-call
invariant-loop-call g l =
    ((r : ℕ) → Stands (priced g.S.InstPrice.Price.units g.S.NotePrice.Price.units) r (g.S.Sink.held l.initial.book.sink) (listed l.initial.book.shelf) [] →
    Midway (priced g.S.InstPrice.Price.units g.S.NotePrice.Price.units) r (g.S.Sink.held l.book.sink) (listed l.book.shelf) l.calls l.call-index (vec_items l.answers))
    × (vec_len l.answers ≡ l.call-index)
    × (length l.calls ≤ vec_capacity l.answers)
