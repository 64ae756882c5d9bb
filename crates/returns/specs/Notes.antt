-- What the unwind notes of a function say of its frame.
use Rattle.std.specs.Prelude.{◌≡◌, ℕ, ◌+◌, ◌-◌, Bool, true, cond, not, ◌&&◌, List, [], ◌∷◌, length, is_some, Some, None, Option, ◌==◌, nat_le, nat_lt}
use Rattle.a64.specs.declared.inst.ApiKey.{ApiKey}
use Rattle.a64.specs.declared.inst.Inst.{Inst}
use Rattle.machine.specs.Machine.{State, Core, LawfulCore, load, modifier_of, at, Comes}
use Rattle.sheet.specs.Accepted.{Accepted}
use Rattle.sheet.specs.Plain.{PlainSheet, same}
use Rattle.sheet.specs.Saved.{saves, sets_up}
use Rattle.sheet.specs.declared.types.CallConv.TheVariants.{PreserveAll}
use Rattle.notes.specs.declared.Note.{Note}
use Rattle.notes.specs.declared.UnwindInst.{UnwindInst}
use Rattle.notes.specs.declared.UnwindInst.TheVariants.{PushFrameRegs, DefineNewFrame, StackAlloc, SaveReg, Aarch64SetPointerAuth}
use Rattle.sink.specs.Items.{notes_from}
use Rattle.frame.specs.Pieces.{select_api_key_of, prologue}
use Rattle.returns.specs.Premises.{Entry, Lawful}
use Rattle.returns.specs.Returns.{opens, standing}

-- The entry value that a register code names: xN, or the low 8 bytes of vN.
abbrev pub entry_value : State → ℕ → ℕ
entry_value e c = cond (nat_lt c 64) (e.x c) (e.lo (c - 64))

-- LR as it is pushed: sealed, where there is a key.
abbrev pub pushed_link : Core → Option ApiKey → State → ℕ
pushed_link k None e = e.x 30
pushed_link k (Some q) e = k.seal q.key (modifier_of q.modifier e) (e.x 30)

-- What a note says in a state t of a body that was entered in e, where the clobbers begin so far down from FP.
abbrev pub Holds : Core → PlainSheet → State → State → ℕ → UnwindInst → Type 0
Holds k h e t down (PushFrameRegs up) =
    (load 8 (t.x 29) t.mem ≡ e.x 29) × (load 8 (t.x 29 + 8) t.mem ≡ pushed_link k (select_api_key_of h) e)
Holds k h e t down (DefineNewFrame up clobbers) = t.x 29 + up ≡ e.sp
Holds k h e t down (StackAlloc size) = Unit {0}
Holds k h e t down (SaveReg offset reg) = load 8 (t.x 29 - down + offset) t.mem ≡ entry_value e reg
Holds k h e t down (Aarch64SetPointerAuth sealed) = sealed ≡ is_some (select_api_key_of h)

-- The downward way of `DefineNewFrame`, where there is one.
abbrev pub downward_or : UnwindInst → ℕ → ℕ
downward_or (PushFrameRegs up) rest = rest
downward_or (DefineNewFrame up clobbers) rest = clobbers
downward_or (StackAlloc size) rest = rest
downward_or (SaveReg offset reg) rest = rest
downward_or (Aarch64SetPointerAuth sealed) rest = rest

-- The downward way that the notes of a list tell.
abbrev pub downward : List Note → ℕ
downward [] = 0
downward (n ∷ ns) = downward_or n.inst (downward ns)

-- Each note of a list.
abbrev pub EachNote : (UnwindInst → Type 0) → List Note → Type 0
EachNote P [] = Unit {0}
EachNote P (n ∷ ns) = P n.inst × EachNote P ns

-- How many notes name the register c.
abbrev pub names : ℕ → UnwindInst → ℕ
names c (PushFrameRegs up) = 0
names c (DefineNewFrame up clobbers) = 0
names c (StackAlloc size) = 0
names c (SaveReg offset reg) = cond (reg == c) 1 0
names c (Aarch64SetPointerAuth sealed) = 0

-- How many notes of a list name it.
abbrev pub note_count : ℕ → List Note → ℕ
note_count c [] = 0
note_count c (n ∷ ns) = names c n.inst + note_count c ns

-- Saved whole: the vectors under PreserveAll, which no note can name.
abbrev pub saved_whole : PlainSheet → ℕ → Bool
saved_whole h c = same h.conv PreserveAll && nat_le 64 c

-- In every state of a lawful body each note of the function holds, from whatever count its notes are placed.
abbrev pub NotesHold : Type 0
NotesHold =
    (k : Core) (h : PlainSheet) (words before behind : List Inst) (e : State) (n : ℕ)
    → LawfulCore k → Accepted h → Entry k h e
    → (s : State)
    × Comes k (standing h words before behind) (at (length before) e) (at (length before + length (opens h)) s)
    × ((t : State) → Lawful h s t → EachNote (Holds k h e t (downward (notes_from n (prologue h)))) (notes_from n (prologue h)))

-- With notes on, each saved register has exactly one note, but for those saved whole, and no other register has one.
abbrev pub OneNoteEach : Type 0
OneNoteEach =
    (h : PlainSheet) (n c : ℕ) → Accepted h → h.flags.unwind_info ≡ true
    → note_count c (notes_from n (prologue h)) ≡ cond (saves h c && not (saved_whole h c)) 1 0

-- The notes of the frame itself: FP and LR pushed, and FP set.
abbrev pub pushes : UnwindInst → ℕ
pushes (PushFrameRegs up) = 1
pushes (DefineNewFrame up clobbers) = 0
pushes (StackAlloc size) = 0
pushes (SaveReg offset reg) = 0
pushes (Aarch64SetPointerAuth sealed) = 0

abbrev pub defines : UnwindInst → ℕ
defines (PushFrameRegs up) = 0
defines (DefineNewFrame up clobbers) = 1
defines (StackAlloc size) = 0
defines (SaveReg offset reg) = 0
defines (Aarch64SetPointerAuth sealed) = 0

-- A sum over the notes of a list.
abbrev pub total : (UnwindInst → ℕ) → List Note → ℕ
total w [] = 0
total w (n ∷ ns) = w n.inst + total w ns

-- With notes on, a function with a setup pair has exactly one of each.
abbrev pub FrameNoted : Type 0
FrameNoted =
    (h : PlainSheet) (n : ℕ) → h.flags.unwind_info ≡ true → sets_up h ≡ true
    → (total pushes (notes_from n (prologue h)) ≡ 1) × (total defines (notes_from n (prologue h)) ≡ 1)
