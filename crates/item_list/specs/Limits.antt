-- How much one piece can be.
use Rattle.std.specs.Prelude.{ℕ}

-- The cells of a list of items: more than the longest piece takes.
abbrev pub cell_count : ℕ
cell_count = 160
