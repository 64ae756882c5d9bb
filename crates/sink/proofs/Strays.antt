-- The walk over notes that looks for the first whose place is above i.
use Rattle.std.proofs.Common.{◌≡◌, ℕ, ◌+◌, ◌<◌, ◌≤◌, List, length, get_or, drop, Some, None, ap, ◌∙◌}
use Rattle.std.proofs.lemmas.List.{drop_more, drop_all}
use Rattle.std.proofs.lemmas.Bool.{lt-ltb, le-ltb, cond-true, cond-false}
use Rattle.sink.specs.Held.{stray}
use Rattle.notes.specs.declared.Note.{Note}

pub stray_here : (i k : ℕ) (xs : List Note) (d : Note) → k < length xs → i < (get_or xs k d).place → stray i k (drop k xs) ≡ Some k
stray_here i k xs d lt past =
    ap (stray i k) (drop_more xs k d lt) ∙ cond-true _ _ _ (lt-ltb _ _ past)

pub stray_on : (i k : ℕ) (xs : List Note) (d : Note) → k < length xs → (get_or xs k d).place ≤ i →
    stray i k (drop k xs) ≡ stray i (k + 1) (drop (k + 1) xs)
stray_on i k xs d lt kept =
    ap (stray i k) (drop_more xs k d lt) ∙ cond-false _ _ _ (le-ltb _ _ kept)

pub stray_none : (i k : ℕ) (xs : List Note) → length xs ≤ k → stray i k (drop k xs) ≡ None
stray_none i k xs le = ap (stray i k) (drop_all k xs le)
