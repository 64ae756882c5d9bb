use Rattle.std.proofs.Common.{◌<◌, length}
use Rattle.frame.proofs.SlotLaws.{vectors_count, whole_at}
use Rattle.frame.proofs.slots.at.vector_slot.Goals as goal

pub returns-then-whole : goal.returns-then-whole
returns-then-whole c =
    let h : c.args.k < length c.args.codes.now = rw (c.if-whole.true, vectors_count) at c.requires in
    rw c.if-whole.true (whole_at c.args.codes.now c.args.k c.of.result h c.of.ensures)
