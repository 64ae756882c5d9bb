-- Which clobber codes are refused.
use Rattle.std.specs.Prelude.{ℕ, ◌+◌, Bool, false, not, ◌&&◌, ◌||◌, List, [], ◌∷◌, ◌==◌, nat_le}
use Rattle.refusal.specs.Told.{Row, number, layer_number}
use Rattle.refusal.specs.declared.Cause.{Cause}
use Rattle.refusal.specs.declared.Layer.{Layer}

-- A row of a sheet's table: at the place i this cause is told where the test says so.
abbrev pub row_at : Cause → ℕ → Bool → Row
row_at cause i test = record { applies = test; answer = record { number = number cause; layer = layer_number Layer.Sheet; place = i } }

-- c is from a to b.
abbrev pub within : ℕ → ℕ → ℕ → Bool
within a b c = nat_le a c && nat_le c b

-- c stands in the list.
abbrev pub has : List ℕ → ℕ → Bool
has [] c = false
has (d ∷ ds) c = c == d || has ds c

-- x0 to x15, x19 to x28 without a pinned x21, v0 to v31.
abbrev pub allowed : Bool → ℕ → Bool
allowed pinned c = nat_le c 15 || ((within 19 28 c && not (pinned && c == 21)) || within 64 95 c)

-- The rows of the codes from the place i on, where `seen` stand before them.
abbrev pub code_rows : Bool → List ℕ → ℕ → List ℕ → List Row
code_rows pinned seen i [] = []
code_rows pinned seen i (c ∷ cs) =
    row_at Cause.CodeNotAllowed i (not (allowed pinned c)) ∷ row_at Cause.CodeRepeated i (has seen c) ∷ code_rows pinned (c ∷ seen) (i + 1) cs
