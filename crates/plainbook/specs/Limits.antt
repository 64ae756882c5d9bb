-- The limit of a book's items.
use Rattle.std.specs.Prelude.{ℕ}

-- No book holds more instructions, nor more notes.
abbrev pub item_limit : ℕ
item_limit = 65535
