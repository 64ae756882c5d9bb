use Rattle.std.proofs.Common.{vec_items, sym, ap, ◌∙◌, subst}
use Rattle.order.specs.Placed.{InOrder, below}
use Rattle.shelf.specs.Index.{key_order, look_in}
use Rattle.shelf.specs.Slots.{numbers_of}
use Rattle.shelf.proofs.Keys.{in_order, looks}
use Rattle.shelf.proofs.shelf.Shelf.slot_of.Goals as goal

pub returns : goal.returns
returns c =
    let q = c.as_slice.ensures.value ∙ c.args.self.now.indexed in
    c.slot_in.ensures (subst (InOrder (below key_order)) (sym q) (in_order (numbers_of (vec_items c.args.self.now.entries))))
    ∙ ap (look_in c.args.number) q ∙ looks (numbers_of (vec_items c.args.self.now.entries)) c.args.number
