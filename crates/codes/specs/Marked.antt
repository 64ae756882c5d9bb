-- What a set of register codes holds.
use Rattle.std.specs.Prelude.{ℕ, ◌-◌, ◌<◌, ◌≤◌, Bool, cond, ◌&&◌, ◌⊎◌, ◌==◌, nat_le, nat_lt}
use Rattle.codes.specs.Bit.{bit}
use Rattle.codes.specs.declared.marks.Marks.{Marks}

-- The codes of registers.
abbrev pub Coded : ℕ → Type 0
Coded c = (c < 32) ⊎ ((64 ≤ c) × (c < 96))

-- The mark of the code c: 1 where it was added. What is no register's code has none.
abbrev pub marked : Marks → ℕ → ℕ
marked m c = cond (nat_lt c 32) (bit m.ints c) (cond (nat_le 64 c && nat_lt c 96) (bit m.vectors (c - 64)) 0)

-- Whether the code c is in the set.
abbrev pub holds : Marks → ℕ → Bool
holds m c = marked m c == 1
