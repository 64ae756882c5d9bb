use Rattle.frame.proofs.SlotLaws.{pair_at, one_at}
use Rattle.frame.proofs.slots.at.two_slot.Goals as goal

pub returns-in-Some : goal.returns-in-Some
returns-in-Some c =
    let at = c.in-Some.ensures.lookup.3 in
    pair_at c.args.class c.args.codes.now c.args.k c.of-first.result c.of.result at.0 c.of-first.ensures (rw (at.1 0) at c.of.ensures)

pub returns-in-None : goal.returns-in-None
returns-in-None c =
    rw c.class_of.ensures (one_at c.args.class c.args.codes.now c.args.k c.of-first.result c.requires c.in-None.ensures.lookup.3 c.of-first.ensures)
