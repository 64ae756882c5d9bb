use Rattle.std.proofs.Common.{◌≡◌, ◌+◌, drop}
use Rattle.sink.specs.Items.{cost_of}
use Rattle.sink.proofs.item.affordable.Given as goal

-- what is left of the room pays for the rest exactly where the room pays for all
abbrev pub invariant-loop-item : goal.invariant-loop-item
invariant-loop-item l =
    cost_of (record { inst = l.inst; note = l.note }) l.items + l.left ≡ cost_of (record { inst = l.inst; note = l.note }) (drop l.item-index l.items) + l.room
