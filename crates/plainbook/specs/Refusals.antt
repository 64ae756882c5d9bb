-- The refusals of a book, in numbers.
use Rattle.std.specs.Prelude.{ℕ, Some, None, Ok, Err, Option, Result}
use Rattle.refusal.specs.Told.{Told, told}
use Rattle.refusal.specs.declared.Refusal.{Refusal}

-- A function number that a slot has.
abbrev pub taken : ℕ → Told
taken slot = record { number = 10; layer = 3; place = slot }

-- Too many functions, instructions or notes.
abbrev pub full : Told
full = record { number = 11; layer = 3; place = 0 }

-- A withdrawal where nothing is held.
abbrev pub empty : Told
empty = record { number = 15; layer = 3; place = 0 }

-- The refusal of a number that is held at a slot.
abbrev pub taken_at : Option ℕ → Option Told
taken_at None = None
taken_at (Some slot) = Some (taken slot)

-- The first of two refusals.
abbrev pub or_else : Option Told → Option Told → Option Told
or_else (Some t) o = Some t
or_else None o = o

-- A call's answer: x, unless it is refused.
abbrev pub unless : {X : Type 0} → Option Told → X → Result X Told
unless None x = Ok x
unless (Some t) x = Err t

-- An answer with its refusal in numbers.
abbrev pub said : {X : Type 0} → Result X Refusal → Result X Told
said (Ok x) = Ok x
said (Err e) = Err (told e)
