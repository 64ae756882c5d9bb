use Rattle.std.proofs.Common.{◌∙◌}
use Rattle.fixed_list.proofs.Short.{items_short, pushed_take}
use Rattle.item_list.specs.Lists.{listed, joined}
use Rattle.item_list.proofs.ItemList.push.Goals as goal

pub returns : goal.returns
unfolding joined
returns c =
    c.push.ensures.list ∙ pushed_take 160 (listed c.args.self.now) c.args.x (items_short c.args.self.now.items)
