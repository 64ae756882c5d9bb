-- The item at a place.
use Rattle.std.proofs.Common.{◌≡◌, ℕ, ◌<◌, List, length, get_or, Some, refl}
use Rattle.std.proofs.lemmas.Option.{slice_get_read}
use Rattle.shelf.specs.Slots.{item_at}

pub item_at_is : {X : Type 0} (xs : List X) (i : ℕ) (x : X) → i < length xs → x ≡ get_or xs i x → item_at xs i ≡ Some x
item_at_is xs i x lt e = slice_get_read xs (length xs) i x refl lt e
