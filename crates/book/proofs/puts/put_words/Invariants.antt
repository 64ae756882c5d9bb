use Rattle.std.proofs.Common.{◌≡◌, take}
use Rattle.sink.specs.Items.{with_items}
use Rattle.plainbook.specs.Plain.{body_of, priced}
use Rattle.book.proofs.puts.put_words.Given as goal

abbrev pub invariant-loop-w : goal.invariant-loop-w
invariant-loop-w g l =
    g.S.Sink.held l.sink
    ≡ with_items (priced g.S.InstPrice.Price.units g.S.NotePrice.Price.units) (g.S.Sink.held l.initial.sink) (body_of (take l.w-index l.words))
