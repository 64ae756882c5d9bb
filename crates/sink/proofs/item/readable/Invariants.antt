use Rattle.sink.proofs.Items.{ReadFrom}
use Rattle.sink.proofs.item.readable.Given as goal

abbrev pub invariant-loop-item : goal.invariant-loop-item
invariant-loop-item l = ReadFrom l.items l.item-index
