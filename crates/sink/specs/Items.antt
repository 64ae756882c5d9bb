-- A list of items, each an instruction or a note, in the order in which they are put.
use Rattle.std.specs.Prelude.{◌≡◌, ℕ, ◌+◌, ◌-◌, ◌*◌, ◌<◌, ◌≤◌, ◌⊎◌, List, [], ◌∷◌, ◌++◌, length, Result, MatchResult}
use Rattle.a64.specs.declared.inst.Inst.{Inst}
use Rattle.codec.specs.Unread.{unread}
use Rattle.refusal.specs.Told.{told}
use Rattle.refusal.specs.declared.Refusal.{Refusal}
use Rattle.sink.specs.Held.{Held, Prices, IsReading, no_room_of}
use Rattle.sink.specs.declared.item.Item.{Item}
use Rattle.notes.specs.declared.Note.{Note}

-- The instructions among the items.
abbrev pub insts_in : List Item → List Inst
insts_in [] = []
insts_in (Item.Inst x ∷ xs) = x ∷ insts_in xs
insts_in (Item.Note x ∷ xs) = insts_in xs

-- The notes among the items, where the items are put after n instructions.
abbrev pub notes_from : ℕ → List Item → List Note
notes_from n [] = []
notes_from n (Item.Inst x ∷ xs) = notes_from (n + 1) xs
notes_from n (Item.Note x ∷ xs) = record { place = n; inst = x } ∷ notes_from n xs

-- The number of notes.
abbrev pub marks_in : List Item → ℕ
marks_in [] = 0
marks_in (Item.Inst x ∷ xs) = marks_in xs
marks_in (Item.Note x ∷ xs) = marks_in xs + 1

-- The whole price.
abbrev pub cost_of : Prices → List Item → ℕ
cost_of p xs = p.inst * length (insts_in xs) + p.note * marks_in xs

-- What a sink means after the items are put.
abbrev pub with_items : Prices → Held → List Item → Held
with_items p h xs = record {
  insts = h.insts ++ insts_in xs;
  notes = h.notes ++ notes_from (length h.insts) xs;
  room = h.room - cost_of p xs;
}

-- Each instruction is some word's reading.
abbrev pub AllRead : List Item → Type 0
AllRead [] = Unit {0}
AllRead (Item.Inst x ∷ xs) = IsReading x × AllRead xs
AllRead (Item.Note x ∷ xs) = AllRead xs

-- Putting items: refused where an instruction is no reading, then where the whole price is above the room; a refusal changes nothing.
abbrev pub PutItems : Prices → Held → List Item → Held → Result Unit Refusal → Type 0
PutItems p old xs new r =
    MatchResult r (λ _. AllRead xs × (cost_of p xs ≤ old.room) × (new ≡ with_items p old xs))
    (λ e. (new ≡ old) × (((AllRead xs → ⊥) × (told e ≡ unread)) ⊎ (AllRead xs × (old.room < cost_of p xs) × (told e ≡ no_room_of old.room))))

-- Putting readable items: refused where the whole price is above the room, and then nothing changes.
abbrev pub PutPiece : Prices → Held → List Item → Held → Result Unit Refusal → Type 0
PutPiece p old xs new r =
    MatchResult r (λ _. (cost_of p xs ≤ old.room) × (new ≡ with_items p old xs)) (λ e. (old.room < cost_of p xs) × (new ≡ old) × (told e ≡ no_room_of old.room))
