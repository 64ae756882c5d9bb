use Rattle.std.proofs.Common.{vec_items, rules}
use Rattle.shelf.proofs.Keys.{keys_many, keys_push}
use Rattle.shelf.proofs.shelf.Shelf.push.Goals as goal

pub insert_key-requires : goal.insert_key-requires
insert_key-requires c =
    let m = keys_many (vec_items c.args.self.now.keys) (vec_items c.args.self.now.entries) c.args.self.now.indexed in
    search rules

pub invariant_of-self : goal.invariant_of-self
invariant_of-self c = record {
  entries_fit = search rules;
  keys_fit = search rules;
  few = search rules;
  indexed =
      keys_push (vec_items c.args.self.now.keys) _ (vec_items c.args.self.now.entries) _ _ _ c.args.self.now.indexed (search rules) c.push_reserved.ensures.items c.insert_key.ensures.items;
}
