-- How many codes there are.
use Rattle.std.specs.Prelude.{ℕ}

-- How many registers have a code: 32 integer registers and 32 vectors.
abbrev pub code_count : ℕ
code_count = 64
