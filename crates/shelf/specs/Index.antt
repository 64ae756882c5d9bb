-- Function numbers, each with its slot, in ascending order as they grow.
use Rattle.std.specs.Prelude.{ℕ, ◌+◌, cond, List, [], ◌∷◌, Some, None, Option, ◌==◌}
use Rattle.std.specs.Cmp.{IsTotalOrder, nat_cmp_total, on_total}
use Rattle.std.specs.Ordering.{nat_cmp, on}
use Rattle.order.specs.Placed.{below, placed}
use Rattle.shelf.specs.declared.key.Key.{Key}

-- Keys go by their numbers.
abbrev pub key_order : IsTotalOrder (on (λ (k : Key). k.number) nat_cmp)
key_order = on_total (λ (k : Key). k.number) nat_cmp_total

-- A key put in its place.
abbrev pub insert_key_of : List Key → Key → List Key
insert_key_of ks x = placed (below key_order) x ks

-- The keys without the first that has the slot s.
abbrev pub cut_slot : ℕ → List Key → List Key
cut_slot s [] = []
cut_slot s (y ∷ ys) = cond (y.slot == s) ys (y ∷ cut_slot s ys)

-- The slot of the first key with the number n.
abbrev pub look_in : ℕ → List Key → Option ℕ
look_in n [] = None
look_in n (y ∷ ys) = cond (y.number == n) (Some y.slot) (look_in n ys)

-- A number with its slot.
abbrev pub key_at : ℕ → ℕ → Key
key_at k n = record { number = n; slot = k }

-- The keys ks and those of more numbers, put in their places one by one, the first of them with the slot k.
abbrev pub index_from : ℕ → List Key → List ℕ → List Key
index_from k ks [] = ks
index_from k ks (n ∷ ns) = index_from (k + 1) (insert_key_of ks (key_at k n)) ns

-- The keys of a list of numbers.
abbrev pub index_of : List ℕ → List Key
index_of ns = index_from 0 [] ns
