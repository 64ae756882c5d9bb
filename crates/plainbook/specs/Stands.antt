-- A book stands for a plain book.
use Rattle.std.specs.Prelude.{◌≡◌, ℕ, ◌+◌, ◌*◌, ◌≤◌, List, [], ◌∷◌, map, length}
use Rattle.std.specs.List.{AllByRecursion}
use Rattle.frame.specs.Pieces.{prologue, epilogue}
use Rattle.sheet.specs.Accepted.{Accepted}
use Rattle.sheet.specs.Checks.{plain}
use Rattle.sheet.specs.Plain.{PlainSheet}
use Rattle.shelf.specs.declared.entry.Entry.{Entry}
use Rattle.sink.specs.Held.{Held, Prices}
use Rattle.sink.specs.Items.{insts_in, marks_in, cost_of}
use Rattle.plainbook.specs.Plain.{Fun, items_of, all_items, meant}

-- What is listed of a function: what its sheet says, where its instructions and notes start, and how many it has.
pub record PlainEntry : Type 0 where
  pub sheet : PlainSheet
  pub start : ℕ
  pub notes_start : ℕ
  pub prologue : ℕ
  pub body : ℕ
  pub epilogue : ℕ
  pub notes : ℕ

-- What an entry says.
abbrev pub plain_entry : Entry → PlainEntry
plain_entry e = record {
  sheet = plain e.sheet;
  start = e.start;
  notes_start = e.notes_start;
  prologue = e.prologue;
  body = e.body;
  epilogue = e.epilogue;
  notes = e.notes;
}

-- The entry of a function that is put after i instructions and n notes.
abbrev pub entry_of : ℕ → ℕ → Fun → PlainEntry
entry_of i n f = record {
  sheet = f.sheet;
  start = i;
  notes_start = n;
  prologue = length (insts_in (prologue f.sheet));
  body = length f.body;
  epilogue = length (insts_in (epilogue f.sheet));
  notes = marks_in (items_of f);
}

-- The entries of functions that are put one behind the other.
abbrev pub entries_from : ℕ → ℕ → List Fun → List PlainEntry
entries_from i n [] = []
entries_from i n (f ∷ fs) = entry_of i n f ∷ entries_from (i + length (insts_in (items_of f))) (n + marks_in (items_of f)) fs

-- A book whose sink means h and that lists es stands for the functions fs, r being the room fed.
pub record Stands (p : Prices) (r : ℕ) (h : Held) (es : List Entry) (fs : List Fun) : Type 0 where
  -- the sink means the functions' items, and their price was within the room
  pub means : h ≡ meant p r fs
  pub fits : cost_of p (all_items fs) ≤ r
  -- the functions are listed, each with its place and its counts
  pub lists : map plain_entry es ≡ entries_from 0 0 fs
  -- no refusal applies to a held function's sheet
  pub accepted : AllByRecursion (λ (f : Fun). Accepted f.sheet) fs

-- A call that answers x: of every plain book for which the book stands, this is the answer, and the book then stands for the next one.
abbrev pub Moves : {X : Type 0} → Prices → Held → List Entry → Held → List Entry → (ℕ → List Fun → X) → (ℕ → List Fun → List Fun) → X → Type 0
Moves p h es h' es' says next x =
    (r : ℕ) (fs : List Fun) → Stands p r h es fs → (x ≡ says r fs) × Stands p r h' es' (next r fs)

-- The room that a sink has once it is rewound to nothing.
abbrev pub fed : Prices → Held → ℕ
fed p h = h.room + p.inst * length h.insts + p.note * length h.notes
