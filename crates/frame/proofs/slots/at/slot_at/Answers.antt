use Rattle.std.proofs.Common.{rules, ◌<◌, length, arith}
use Rattle.std.proofs.lemmas.List.{get_or_append_left, get_or-append_right}
use Rattle.sheet.specs.Checks.{plain}
use Rattle.frame.specs.Codes.{numbers, vector_slots_of}
use Rattle.frame.proofs.SlotLaws.{slots_split, int_there}
use Rattle.frame.proofs.slots.at.slot_at.Goals as goal

pub two_slot-requires : goal.two_slot-requires
two_slot-requires c =
    let e = slots_split (plain c.args.layout.now.sheet) c.eq-whole.result _ _ (search rules) c.saved_codes.ensures.ints c.saved_codes.ensures.vecs in
    int_there _ _ _ c.args.k _ e c.vector_slots-below.ensures c.requires c.if-k-below.false

pub returns-then-k-below : goal.returns-then-k-below
returns-then-k-below c =
    let e = slots_split (plain c.args.layout.now.sheet) c.eq-whole.result _ _ (search rules) c.saved_codes.ensures.ints c.saved_codes.ensures.vecs in
    let h : c.args.k < length (vector_slots_of c.eq-whole.result (numbers c.saved_codes.result.1.now)) = omega arith in
    rw (e, get_or_append_left) c.vector_slot.ensures

pub returns-else-k-below : goal.returns-else-k-below
returns-else-k-below c =
    let e = slots_split (plain c.args.layout.now.sheet) c.eq-whole.result _ _ (search rules) c.saved_codes.ensures.ints c.saved_codes.ensures.vecs in
    grind (arith, get_or-append_right)
