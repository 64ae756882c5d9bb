-- What a shelf lists.
use Rattle.std.specs.Prelude.{List, vec_items}
use Rattle.shelf.specs.declared.entry.Entry.{Entry}
use Rattle.shelf.specs.declared.shelf.Shelf.{Shelf}

-- The entries, by slot.
abbrev pub listed : Shelf → List Entry
listed s = vec_items s.entries
