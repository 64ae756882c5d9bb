-- Slots: places in a list of functions.
use Rattle.std.specs.Prelude.{ℕ, ◌+◌, cond, List, [], ◌∷◌, map, Some, None, Option, ◌==◌, slice_get}
use Rattle.shelf.specs.declared.entry.Entry.{Entry}

-- The item at a place, if the list has one there.
abbrev pub item_at : {X : Type 0} → List X → ℕ → Option X
item_at xs i = slice_get xs i

-- The first slot, counted from k, that has the number n.
abbrev pub slot_from : ℕ → ℕ → List ℕ → Option ℕ
slot_from n k [] = None
slot_from n k (m ∷ ms) = cond (m == n) (Some k) (slot_from n (k + 1) ms)

-- The first slot that has the number n.
abbrev pub slot_for : ℕ → List ℕ → Option ℕ
slot_for n ms = slot_from n 0 ms

-- The function numbers, by slot.
abbrev pub numbers_of : List Entry → List ℕ
numbers_of es = map (λ (e : Entry). e.sheet.number) es
