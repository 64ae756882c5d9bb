-- What is true of every function that a book holds, in the code and the notes that its sink reads back.
use Rattle.std.specs.Prelude.{◌≡◌, ℕ, ◌+◌, ◌≤◌, true, cond, not, ◌&&◌, List, [], ◌∷◌, ◌++◌, map, length, take, drop, Some, None, Option}
use Rattle.a64.specs.declared.inst.Inst.{Inst}
use Rattle.machine.specs.Machine.{State, Core, LawfulCore, LandingPad, at, returned, Comes}
use Rattle.returns.specs.Notes.{EachNote, Holds, downward, note_count, saved_whole, pushes, defines, total}
use Rattle.returns.specs.Premises.{need, Entry, Body, Lawful, last}
use Rattle.returns.specs.Returns.{CameBack, opens}
use Rattle.returns.specs.Trees.{Tree, Runs, body_at, Fun as Placed, Stands as StandsIn}
use Rattle.sheet.specs.Saved.{saves, sets_up}
use Rattle.shelf.specs.Slots.{item_at}
use Rattle.shelf.specs.declared.entry.Entry.{Entry as Listed}
use Rattle.sink.specs.Held.{Held, Prices}
use Rattle.sink.specs.Items.{insts_in, marks_in}
use Rattle.notes.specs.declared.Note.{Note}
use Rattle.plainbook.specs.Plain.{Fun, reading_of, items_of, all_items, meant}
use Rattle.plainbook.specs.Stands.{Stands, plain_entry, entry_of, fed}
use Rattle.plainbook.specs.Answers.{said_by, final_of, answers_of}
use Rattle.plainbook.specs.declared.calls.Call.{Call}
use Rattle.plainbook.specs.declared.calls.Answer.{Answer}

-- f is held, after so many instructions and so many notes of the functions before it.
pub record HeldAt (fs : List Fun) (f : Fun) (start notes_start : ℕ) : Type 0 where
  pub front : List Fun
  pub rest : List Fun
  pub split : fs ≡ front ++ f ∷ rest
  pub place : start ≡ length (insts_in (all_items front))
  pub notes_place : notes_start ≡ marks_in (all_items front)

-- The function at its place in the code.
abbrev pub placed : Fun → ℕ → Placed
placed f start = record { sheet = f.sheet; words = map reading_of f.body; place = start }

-- The function's own part of the notes.
abbrev pub own_notes : List Note → Fun → ℕ → List Note
own_notes notes f notes_start = take (marks_in (items_of f)) (drop notes_start notes)

-- From every entry state, on every lawful core, the prologue comes to its end; and whatever lawful body runs from there, the epilogue returns to
-- the entry LR, with everything back.
abbrev pub ReturnsIn : List Inst → Placed → Type 0
ReturnsIn code g =
    (k : Core) (e : State) → LawfulCore k → Entry k g.sheet e
    → (s : State)
    × Comes k code (at g.place e) (at (g.place + length (opens g.sheet)) s)
    × ((body : List State) → Body g.sheet s body
    → (u : State)
    × Comes k code (at (g.place + length (opens g.sheet) + length g.words) (last s body)) (returned (e.x 30) u)
    × CameBack g.sheet e u)

-- With use_bti the function's first instruction is a landing pad.
abbrev pub LandsIn : List Inst → Placed → Type 0
LandsIn code g = g.sheet.flags.use_bti ≡ true → (i : Inst) × (item_at code g.place ≡ Some i) × LandingPad i

-- The root and every call of every finite tree of calls in the code return so.
abbrev pub TreesIn : List Inst → Placed → Type 0
TreesIn code g =
    (k : Core) (low : ℕ) (e : State) (tree : Tree) → LawfulCore k → Entry k g.sheet e → low + need g.sheet ≤ e.sp
    → (s : State)
    × Comes k code (at g.place e) (at (body_at g) s)
    × Runs k code low (e.sp + g.sheet.sizes.incoming) g e s s tree (λ u. Unit {0})

-- In every state of a lawful body each of the function's notes holds.
abbrev pub NotesIn : List Inst → List Note → Placed → Type 0
NotesIn code notes g =
    (k : Core) (e : State) → LawfulCore k → Entry k g.sheet e
    → (s : State)
    × Comes k code (at g.place e) (at (g.place + length (opens g.sheet)) s)
    × ((t : State) → Lawful g.sheet s t → EachNote (Holds k g.sheet e t (downward notes)) notes)

-- With notes on, each saved register has exactly one note, but for the vectors saved whole, and no other register has one.
abbrev pub OnceIn : List Note → Placed → Type 0
OnceIn notes g =
    (c : ℕ) → g.sheet.flags.unwind_info ≡ true → note_count c notes ≡ cond (saves g.sheet c && not (saved_whole g.sheet c)) 1 0

-- With notes on, a function with a setup pair has exactly one note that FP and LR were pushed, and one that FP was set.
abbrev pub FramedIn : List Note → Placed → Type 0
FramedIn notes g =
    g.sheet.flags.unwind_info ≡ true → sets_up g.sheet ≡ true → (total pushes notes ≡ 1) × (total defines notes ≡ 1)

-- What is claimed of a held function.
pub record Claimed (h : Held) (f : Fun) (start notes_start : ℕ) : Type 0 where
  -- it stands in the code, so that trees may call it
  pub stands : StandsIn h.insts (placed f start)
  -- (a) it returns, with everything back
  pub returns : ReturnsIn h.insts (placed f start)
  pub lands : LandsIn h.insts (placed f start)
  -- (b) and so do the trees of calls that it is the root of
  pub trees : TreesIn h.insts (placed f start)
  -- (c) its notes tell the truth
  pub notes : NotesIn h.insts (own_notes h.notes f notes_start) (placed f start)
  pub once : OnceIn (own_notes h.notes f notes_start) (placed f start)
  pub framed : FramedIn (own_notes h.notes f notes_start) (placed f start)

-- The claims hold of every function of a list.
abbrev pub AllClaimed : Held → List Fun → Type 0
AllClaimed h fs = (f : Fun) (start notes_start : ℕ) → HeldAt fs f start notes_start → Claimed h f start notes_start

-- What is listed at a slot, where the plain book has a function or none there: nothing, or the function's entry, and then the claims hold of it.
abbrev pub Shown : Held → Option Fun → Option Listed → Type 0
Shown h None r = r ≡ None
Shown h (Some f) r =
    (e : Listed) × (r ≡ Some e) × (plain_entry e ≡ entry_of e.start e.notes_start f) × Claimed h f e.start e.notes_start

-- The whole claim, after a list of calls on a new book over a sink that meant old.
pub record Right (p : Prices) (old new : Held) (es : List Listed) (cs : List Call) (said : List Answer) : Type 0 where
  -- every answer is the plain book's
  pub answers : map said_by said ≡ answers_of p (fed p old) [] cs
  -- the sink reads back exactly the plain book's instructions and notes
  pub reads : new ≡ meant p (fed p old) (final_of p (fed p old) [] cs)
  -- the book stands for the plain book, so that each later call answers as it does
  pub stands : Stands p (fed p old) new es (final_of p (fed p old) [] cs)
  -- each function then held returns, in trees too, and its notes are right
  pub claims : AllClaimed new (final_of p (fed p old) [] cs)
