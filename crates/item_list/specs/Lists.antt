-- A list of items in a fixed number of cells, and what is put behind it.
use Rattle.std.specs.Prelude.{◌≡◌, List, ◌++◌, take}
use Rattle.fixed_list.specs.Items.{items}
use Rattle.item_list.specs.Limits.{cell_count}
use Rattle.sink.specs.declared.item.Item.{Item}
use Rattle.item_list.specs.declared.ItemList.{ItemList}

-- The items, first to last.
abbrev pub listed : ItemList → List Item
listed l = items l.items

-- More items behind the others, as far as there are cells.
unfoldable pub joined : List Item → List Item → List Item
joined xs ys = take cell_count (xs ++ ys)

-- A list with these items put behind it.
abbrev pub Puts : ItemList → ItemList → List Item → Type 0
Puts old new xs = listed new ≡ joined (listed old) xs
