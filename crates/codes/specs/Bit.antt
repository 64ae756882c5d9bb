-- Bits of a mask.
use Rattle.std.specs.Prelude.{ℕ, ◌/◌, ◌%◌, ◌^◌}

-- The bit of m at place k, 0 or 1.
unfoldable pub bit : ℕ → ℕ → ℕ
bit m k = m / 2 ^ k % 2
