-- A list is no longer than its cells.
use Rattle.std.proofs.Common.{◌≡◌, ℕ, ◌≤◌, List, [], ◌∷◌, ◌++◌, length, take, arith}
use Rattle.std.proofs.lemmas.Grind.{common_steps}
use Rattle.std.proofs.lemmas.List.{length-take}
use Rattle.fixed_list.specs.Items.{items, pushed}
use Rattle.fixed_list.specs.declared.FixedList.{FixedList}

pub items_short : {X : Type 0} {n : ℕ} (l : FixedList X n) → length (items l) ≤ n
items_short l = let w = l.within in omega (arith, length-take l.count l.cells)

-- One more element, as far as there are cells.
pub pushed_take : {X : Type 0} (n : ℕ) (xs : List X) (x : X) → length xs ≤ n → pushed n xs x ≡ take n (xs ++ x ∷ [])
pushed_take n xs x h = grind (arith, common_steps)
