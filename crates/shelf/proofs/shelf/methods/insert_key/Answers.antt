use Rattle.std.proofs.Common.{vec_items, ◌∙◌, rules}
use Rattle.std.proofs.lemmas.List.{with_items_is}
use Rattle.shelf.specs.Index.{key_order}
use Rattle.shelf.proofs.Keys.{inserted_key}
use Rattle.shelf.proofs.shelf.methods.insert_key.Goals as goal

pub returns : goal.returns
returns c = record {
  items =
      with_items_is c.push_reserved.new.self c.insert.new.cells (search rules)
      ∙ inserted_key (vec_items c.args.keys.now) c.as_mut_slice.result.now c.insert.new.cells c.args.x c.len-n.result
      (c.as_mut_slice.ensures.value ∙ c.push_reserved.ensures.items) (search rules) (search rules) (c.insert.ensures.list (search rules) key_order);
  capacity = c.push_reserved.ensures.capacity;
}
