-- The clobber size is 16 times the number of slots.
use Rattle.std.proofs.Common.{◌≡◌, ℕ, suc, ◌+◌, ◌*◌, Bool, true, false, cond, List, [], ◌∷◌, ◌++◌, length, refl, ap, arith}
use Rattle.std.proofs.lemmas.List.{length-append}
use Rattle.sheet.specs.Plain.{PlainSheet, same}
use Rattle.sheet.specs.Saved.{saved_ints_of, saved_vecs_of, even, clobber_size_of}
use Rattle.layout.specs.Slots.{twos_x, twos_d, each_q, slots_of}
use Rattle.sheet.specs.declared.types.CallConv.TheVariants.{PreserveAll}

twos_x_size : (rs : List ℕ) → 16 * length (twos_x rs) ≡ 8 * even (length rs)
twos_x_size [] = refl
twos_x_size (a ∷ []) = refl
twos_x_size (a ∷ b ∷ rs) = let h = twos_x_size rs in omega arith

twos_d_size : (rs : List ℕ) → 16 * length (twos_d rs) ≡ 8 * even (length rs)
twos_d_size [] = refl
twos_d_size (a ∷ []) = refl
twos_d_size (a ∷ b ∷ rs) = let h = twos_d_size rs in omega arith

each_q_count : (rs : List ℕ) → length (each_q rs) ≡ length rs
each_q_count [] = refl
each_q_count (a ∷ rs) = ap suc (each_q_count rs)

pub slots_size : (p : PlainSheet) → clobber_size_of p ≡ 16 * length (slots_of p)
unfolding slots_of
slots_size p = go (same p.conv PreserveAll)
  where
    go : (b : Bool) → 8 * even (length (saved_ints_of p)) + cond b (16 * length (saved_vecs_of p)) (8 * even (length (saved_vecs_of p)))
        ≡ 16 * length (cond b (each_q (saved_vecs_of p)) (twos_d (saved_vecs_of p)) ++ twos_x (saved_ints_of p))
    go true = omega (arith, length-append (each_q (saved_vecs_of p)) (twos_x (saved_ints_of p)), each_q_count (saved_vecs_of p), twos_x_size (saved_ints_of p))
    go false = omega (arith, length-append (twos_d (saved_vecs_of p)) (twos_x (saved_ints_of p)), twos_d_size (saved_vecs_of p), twos_x_size (saved_ints_of p))
