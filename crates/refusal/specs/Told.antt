-- What a refusal says: a number for its cause, a number for its layer, and a place.
use Rattle.std.specs.Prelude.{◌≡◌, ℕ, Bool, cond, List, [], ◌∷◌, Some, None, Option, Result, MatchResult}
use Rattle.refusal.specs.declared.Cause.{Cause}
use Rattle.refusal.specs.declared.Layer.{Layer}
use Rattle.refusal.specs.declared.Refusal.{Refusal}

-- The number of each cause.
abbrev pub number : Cause → ℕ
number Cause.OutOfRange = 1
number Cause.DynamicVector = 2
number Cause.CodeNotAllowed = 3
number Cause.CodeRepeated = 4
number Cause.Sizes = 5
number Cause.TailSize = 6
number Cause.WinchSeal = 7
number Cause.CompactPinned = 8
number Cause.Guard = 9
number Cause.NumberHeld = 10
number Cause.TooMany = 11
number Cause.NoReading = 12
number Cause.NoRoom = 13
number Cause.NotHeld = 14
number Cause.EmptyBook = 15

-- The number of each layer.
abbrev pub layer_number : Layer → ℕ
layer_number Layer.Sheet = 1
layer_number Layer.Sink = 2
layer_number Layer.Book = 3

-- A refusal in numbers.
pub record Told : Type 0 where
  pub number : ℕ
  pub layer : ℕ
  pub place : ℕ

abbrev pub told : Refusal → Told
told f = record { number = number f.cause; layer = layer_number f.layer; place = f.place }

-- A row of a table of refusals: whether it applies, and what is then told.
pub record Row : Type 0 where
  pub applies : Bool
  pub answer : Told

-- The first row that applies.
abbrev pub first : List Row → Option Told
first [] = None
first (r ∷ rs) = cond r.applies (Some r.answer) (first rs)

-- A call that is refused exactly as `why` says: it is let through and P holds of its answer, or `why` is told and Q holds.
abbrev pub Answers : {X : Type 0} → Option Told → (X → Type 0) → Type 0 → Result X Refusal → Type 0
Answers why P Q r = MatchResult r (λ x. (why ≡ None) × P x) (λ e. (why ≡ Some (told e)) × Q)
