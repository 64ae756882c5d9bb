use Rattle.std.proofs.Common.{vec_items, rules}
use Rattle.shelf.proofs.Keys.{keys_cut}
use Rattle.shelf.proofs.shelf.Shelf.cut_last.Goals as goal

pub invariant_of-self : goal.invariant_of-self
invariant_of-self c = record {
  entries_fit = search rules;
  keys_fit = search rules;
  few = search rules;
  indexed =
      keys_cut (vec_items c.args.self.now.keys) _ (vec_items c.args.self.now.entries) _ _ c.args.self.now.indexed (search rules) c.truncate.ensures.items c.cut_key.ensures.items;
}
