-- The limits of a sheet.
use Rattle.std.specs.Prelude.{ℕ, ◌^◌}

-- The largest sum of the incoming, tail, fixed and outgoing sizes.
abbrev pub largest_sum : ℕ
largest_sum = 2 ^ 30
