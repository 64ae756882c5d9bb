-- The save area as a list of slots of 16 bytes, from the lowest address up: the order in which they are restored.
use Rattle.std.specs.Prelude.{ℕ, cond, List, [], ◌∷◌, ◌++◌}
use Rattle.sheet.specs.Plain.{PlainSheet, same}
use Rattle.sheet.specs.Saved.{saved_ints_of, saved_vecs_of}
use Rattle.sheet.specs.declared.types.CallConv.TheVariants.{PreserveAll}

-- Two integer registers or one, the low halves of two vectors or of one, or a whole vector.
pub data Slot : Type 0 where
  pair_x : ℕ → ℕ → Slot
  one_x : ℕ → Slot
  pair_d : ℕ → ℕ → Slot
  one_d : ℕ → Slot
  one_q : ℕ → Slot

-- Integer registers by twos, and the one that is left.
abbrev pub twos_x : List ℕ → List Slot
twos_x [] = []
twos_x (a ∷ []) = one_x a ∷ []
twos_x (a ∷ b ∷ rs) = pair_x a b ∷ twos_x rs

-- The low halves of vectors by twos, and the one that is left.
abbrev pub twos_d : List ℕ → List Slot
twos_d [] = []
twos_d (a ∷ []) = one_d a ∷ []
twos_d (a ∷ b ∷ rs) = pair_d a b ∷ twos_d rs

-- Whole vectors, one to a slot.
abbrev pub each_q : List ℕ → List Slot
each_q [] = []
each_q (a ∷ rs) = one_q a ∷ each_q rs

-- The slots of a sheet's save area.
unfoldable pub slots_of : PlainSheet → List Slot
slots_of p = cond (same p.conv PreserveAll) (each_q (saved_vecs_of p)) (twos_d (saved_vecs_of p)) ++ twos_x (saved_ints_of p)
