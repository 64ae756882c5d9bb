-- The plain book: a list of functions, and what each call answers and makes of it.
use Rattle.std.specs.Prelude.{ℕ, ◌+◌, Bool, ◌||◌, List, [], ◌∷◌, ◌++◌, map, length, Some, None, Ok, Err, Option, Result, nat_le, nat_lt}
use Rattle.a64.specs.declared.inst.Inst.{Inst}
use Rattle.decoder.specs.Reading.{reading}
use Rattle.frame.specs.Pieces.{prologue, epilogue}
use Rattle.refusal.specs.Told.{Told, first}
use Rattle.sheet.specs.Plain.{PlainSheet}
use Rattle.shelf.specs.Limits.{function_count}
use Rattle.shelf.specs.Slots.{item_at, slot_for}
use Rattle.sink.specs.Held.{Held, Prices, no_room_of, beyond}
use Rattle.sink.specs.Items.{insts_in, marks_in, cost_of, with_items}
use Rattle.sink.specs.declared.item.Item.{Item}
use Rattle.plainbook.specs.Limits.{item_limit}
use Rattle.plainbook.specs.Refusals.{full, empty, taken_at, or_else, unless}

-- ---- a function, and the items of a list of them

-- What the sheet says, and the body words.
pub record Fun : Type 0 where
  pub sheet : PlainSheet
  pub body : List ℕ

-- A function from its two parts.
abbrev pub fun : PlainSheet → List ℕ → Fun
fun s ws = record { sheet = s; body = ws }

-- The reading of a word.
unfoldable pub reading_of : ℕ → Inst
reading_of w = reading w

-- Body words are put as their readings.
abbrev pub body_of : List ℕ → List Item
body_of ws = map (λ (w : ℕ). Item.Inst (reading_of w)) ws

-- What a function puts: prologue, body, epilogue.
unfoldable pub items_of : Fun → List Item
items_of f = prologue f.sheet ++ (body_of f.body ++ epilogue f.sheet)

-- What a list of functions puts, one behind the other.
abbrev pub all_items : List Fun → List Item
all_items [] = []
all_items (f ∷ fs) = items_of f ++ all_items fs

-- The functions' numbers, by slot.
abbrev pub numbers : List Fun → List ℕ
numbers fs = map (λ (f : Fun). f.sheet.number) fs

-- An empty sink with room r.
abbrev pub nothing : ℕ → Held
nothing r = record { insts = []; notes = []; room = r }

-- What a plain book's sink means: all the items, and the room fed less their price.
abbrev pub meant : Prices → ℕ → List Fun → Held
meant p r fs = with_items p (nothing r) (all_items fs)

-- A sink's two prices.
abbrev pub priced : ℕ → ℕ → Prices
priced i n = record { inst = i; note = n }

-- ---- the calls

-- As many functions as there may be are held, or the instructions or the notes would pass the limit.
abbrev pub is_full : Held → List ℕ → Fun → Bool
is_full h ns f =
    nat_le function_count (length ns)
    || (nat_lt item_limit (length h.insts + length (insts_in (items_of f))) || nat_lt item_limit (length h.notes + marks_in (items_of f)))

-- Why a function whose sheet is let through is refused, where a sink means h and the numbers ns are held: the first row that applies.
unfoldable pub why_not : Prices → Held → List ℕ → Fun → Option Told
why_not p h ns f =
    or_else (taken_at (slot_for f.sheet.number ns))
    (first (record { applies = is_full h ns f; answer = full }
    ∷ record { applies = nat_lt h.room (cost_of p (items_of f)); answer = no_room_of h.room }
    ∷ []))

-- Add answers the new slot, or the first row that applies: the sheet's own rows, then those of the book.
abbrev pub plain_add : Prices → ℕ → List Fun → Option Told → Fun → Result ℕ Told
plain_add p r fs bad f = unless (or_else bad (why_not p (meant p r fs) (numbers fs) f)) (length fs)

-- An accepted function stands behind the others.
abbrev pub grown : List Fun → Fun → Result ℕ Told → List Fun
grown fs f (Ok k) = fs ++ f ∷ []
grown fs f (Err e) = fs

-- The last of a list that begins with f.
abbrev pub last_of : Fun → List Fun → Fun
last_of f [] = f
last_of f (g ∷ gs) = last_of g gs

-- The same list without its last.
abbrev pub front_of : Fun → List Fun → List Fun
front_of f [] = []
front_of f (g ∷ gs) = f ∷ front_of g gs

-- Withdraw answers the last function's number.
abbrev pub plain_withdraw : List Fun → Result ℕ Told
plain_withdraw [] = Err empty
plain_withdraw (f ∷ fs) = Ok (last_of f fs).sheet.number

-- Withdraw drops the last function.
abbrev pub withdrawn : List Fun → List Fun
withdrawn [] = []
withdrawn (f ∷ fs) = front_of f fs

-- Look-up answers the slot of a number, or nothing.
abbrev pub plain_look_up : List Fun → ℕ → Option ℕ
plain_look_up fs n = slot_for n (numbers fs)

-- An item, or the refusal for reading beyond the last.
abbrev pub or_beyond : {X : Type 0} → ℕ → Option X → Result X Told
or_beyond i None = Err (beyond i)
or_beyond i (Some x) = Ok x

-- A read answers the item at its index.
abbrev pub read_at : {X : Type 0} → List X → ℕ → Result X Told
read_at xs i = or_beyond i (item_at xs i)
