-- What a sink means, and what each call makes of it.
use Rattle.std.specs.Prelude.{◌≡◌, ℕ, ◌+◌, ◌-◌, ◌*◌, ◌<◌, ◌≤◌, min, cond, ◌⊎◌, List, [], ◌∷◌, ◌++◌, length, take, Some, None, Option, Result, MatchResult, nat_lt, slice_index_or}
use Rattle.std.specs.List.{position_from}
use Rattle.a64.specs.Words.{Reads}
use Rattle.a64.specs.declared.inst.Inst.{Inst}
use Rattle.codec.specs.Unread.{unread}
use Rattle.refusal.specs.Told.{Told, told}
use Rattle.refusal.specs.declared.Refusal.{Refusal}
use Rattle.notes.specs.declared.Note.{Note}
use Rattle.notes.specs.declared.UnwindInst.{UnwindInst}
use Rattle.sink.specs.declared.sink.Counts.{Counts}

-- A list of instructions, a list of notes, and the room that is left.
pub record Held : Type 0 where
  pub insts : List Inst
  pub notes : List Note
  pub room : ℕ

-- The price of an instruction and the price of a note.
pub record Prices : Type 0 where
  pub inst : ℕ
  pub note : ℕ

-- No sink is larger.
abbrev pub most : ℕ
most = 1048576

-- A sink that was made at a length: its room is the length, or the most if that is less.
abbrev pub fresh : ℕ → Held
fresh len = record { insts = []; notes = []; room = min len most }

-- The instruction is some word's reading.
abbrev pub IsReading : Inst → Type 0
IsReading x = (w : ℕ) × Reads w x

-- With one more instruction, at a price.
abbrev pub with_inst : ℕ → Held → Inst → Held
with_inst p h x = record { insts = h.insts ++ x ∷ []; notes = h.notes; room = h.room - p }

-- A note's place is the number of instructions before it.
abbrev pub note_at : Held → UnwindInst → Note
note_at h x = record { place = length h.insts; inst = x }

-- With one more note, at a price.
abbrev pub with_note : ℕ → Held → UnwindInst → Held
with_note p h x = record { insts = h.insts; notes = h.notes ++ note_at h x ∷ []; room = h.room - p }

-- The first i instructions and the first n notes, with the price of the rest given back.
abbrev pub rewound : Prices → Held → ℕ → ℕ → Held
rewound p h i n = record {
  insts = take i h.insts;
  notes = take n h.notes;
  room = h.room + p.inst * (length h.insts - i) + p.note * (length h.notes - n);
}

-- Want of room: the place is the room that there is.
abbrev pub no_room_of : ℕ → Told
no_room_of room = record { number = 13; layer = 2; place = room }

-- A read or a rewind beyond what is held, at its index.
abbrev pub beyond : ℕ → Told
beyond i = record { number = 14; layer = 2; place = i }

-- Both lengths and the room.
abbrev pub counts_of : Held → Counts
counts_of h = record { insts = length h.insts; notes = length h.notes; room = h.room }

-- Putting an instruction: refused where it is no reading, then where the price is above the room; a refusal changes nothing.
abbrev pub PutInst : ℕ → Held → Inst → Held → Result Unit Refusal → Type 0
PutInst p old x new r =
    MatchResult r (λ _. IsReading x × (p ≤ old.room) × (new ≡ with_inst p old x))
    (λ e. (new ≡ old) × (((IsReading x → ⊥) × (told e ≡ unread)) ⊎ (IsReading x × (old.room < p) × (told e ≡ no_room_of old.room))))

-- Putting a note: refused exactly where the price is above the room, and then nothing changes.
abbrev pub PutNote : ℕ → Held → UnwindInst → Held → Result Unit Refusal → Type 0
PutNote p old x new r =
    MatchResult r (λ _. (p ≤ old.room) × (new ≡ with_note p old x))
    (λ e. (old.room < p) × (new ≡ old) × (told e ≡ no_room_of old.room))

-- A read answers the item at its index, or is refused exactly past the end.
abbrev pub Read : {X : Type 0} → List X → ℕ → Result X Refusal → Type 0
Read xs i r = MatchResult r (λ x. (i < length xs) × (x ≡ slice_index_or xs i x)) (λ e. (length xs ≤ i) × (told e ≡ beyond i))

-- The index, counted from k, of the first note whose place is above i.
abbrev pub stray : ℕ → ℕ → List Note → Option ℕ
stray i k xs = position_from (λ x. nat_lt i x.place) k xs

-- The index at which a rewind to i instructions and n notes is refused: the first of three tests that fails.
abbrev pub late : Held → ℕ → ℕ → Option ℕ
late h i n =
    cond (nat_lt (length h.insts) i) (Some i)
    (cond (nat_lt (length h.notes) n) (Some n) (stray i 0 (take n h.notes)))

-- Rewinding: refused exactly where one of the tests fails, and then nothing changes.
abbrev pub Rewind : Prices → Held → ℕ → ℕ → Held → Result Unit Refusal → Type 0
Rewind p old i n new r =
    MatchResult r (λ _. (late old i n ≡ None) × (new ≡ rewound p old i n))
    (λ e. (late old i n ≡ Some e.place) × (new ≡ old) × (told e ≡ beyond e.place))
