-- Reads through the book.
use Rattle.std.proofs.Common.{◌≡◌, ℕ, zero, suc, ◌<◌, ◌≤◌, List, [], ◌∷◌, length, get_or, Some, None, Ok, Err, Result, sym, refl, ap, ◌∙◌, arith}
use Rattle.refusal.specs.Told.{Told}
use Rattle.refusal.specs.declared.Refusal.{Refusal}
use Rattle.std.proofs.lemmas.Option.{slice_get_read, slice_get_past}
use Rattle.shelf.specs.Slots.{item_at}
use Rattle.sink.specs.Held.{Read}
use Rattle.plainbook.specs.Refusals.{said}
use Rattle.plainbook.specs.Plain.{or_beyond, read_at}

pub read_right : {X : Type 0} (xs ys : List X) (i : ℕ) (r : Result X Refusal) → Read xs i r → xs ≡ ys → said r ≡ read_at ys i
read_right xs ys i (Ok x) h e =
    ap (or_beyond i) (sym (slice_get_read xs (length xs) i x refl h.0 h.1)) ∙ ap (λ (zs : List _). read_at zs i) e
read_right xs ys i (Err f) h e =
    ap (λ (x : Told). Err x) h.1 ∙ ap (or_beyond i) (sym (slice_get_past xs i h.0)) ∙ ap (λ (zs : List _). read_at zs i) e

-- an item that was found stands at its place
pub item_some : {X : Type 0} (xs : List X) (i : ℕ) (x d : X) → Some x ≡ item_at xs i → (i < length xs) × (get_or xs i d ≡ x)
item_some [] i x d e = let z : ◌≡◌ {A = ℕ} 0 1 = cc in absurd (omega arith)
item_some (y ∷ xs) zero x d e = (omega arith, let z : y ≡ x = cc in z)
item_some (y ∷ xs) (suc i) x d e = let r = item_some xs i x d e in (omega arith, r.1)

pub item_none : {X : Type 0} (xs : List X) (i : ℕ) → None ≡ item_at xs i → length xs ≤ i
item_none [] i e = omega arith
item_none (y ∷ xs) zero e = let z : ◌≡◌ {A = ℕ} 0 1 = cc in absurd (omega arith)
item_none (y ∷ xs) (suc i) e = let r = item_none xs i e in omega arith
