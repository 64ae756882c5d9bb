use Rattle.std.proofs.Common.{◌≡◌, take}
use Rattle.sink.specs.Items.{with_items}
use Rattle.sink.proofs.item.put_all.Given as goal

abbrev pub invariant-loop-item : goal.invariant-loop-item
invariant-loop-item g l =
    g.S.Sink.held l.sink
    ≡ with_items (record { inst = g.S.InstPrice.Price.units; note = g.S.NotePrice.Price.units }) (g.S.Sink.held l.initial.sink) (take l.item-index l.items)
