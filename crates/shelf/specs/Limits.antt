-- The limit of a list of functions.
use Rattle.std.specs.Prelude.{ℕ}

-- No more functions are listed.
abbrev pub function_count : ℕ
function_count = 64
