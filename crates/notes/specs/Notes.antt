-- Unwind notes in numbers: a kind, a place and two words.
use Rattle.std.specs.Prelude.{◌≡◌, ℕ, ◌+◌, ◌*◌, ◌/◌, ◌%◌, ◌^◌, ◌<◌, ◌≤◌, cond, not, List, [], ◌∷◌, Result, MatchResult, ◌==◌, ◌≢◌}
use Rattle.a64.specs.Words.{flag}
use Rattle.notes.specs.declared.FarPlace.{FarPlace}
use Rattle.notes.specs.declared.NoNote.{NoNote}
use Rattle.notes.specs.declared.Note.{Note}
use Rattle.notes.specs.declared.Parts.{Parts}
use Rattle.notes.specs.declared.UnwindInst.{UnwindInst}
use Rattle.notes.specs.declared.UnwindInst.TheVariants.{PushFrameRegs, DefineNewFrame, StackAlloc, SaveReg, Aarch64SetPointerAuth}

-- The kind of each case, and its two words.
abbrev pub parts_of : UnwindInst → Parts
parts_of (PushFrameRegs up) = record { kind = 0; a = up; b = 0 }
parts_of (DefineNewFrame up down) = record { kind = 1; a = up; b = down }
parts_of (StackAlloc size) = record { kind = 2; a = size; b = 0 }
parts_of (SaveReg offset reg) = record { kind = 3; a = offset; b = reg }
parts_of (Aarch64SetPointerAuth on) = record { kind = 4; a = flag on; b = 0 }

-- The three words of a note: its kind and place in the first.
abbrev pub words_of : Note → List ℕ
words_of n = ((parts_of n.inst).kind + 256 * n.place) ∷ (parts_of n.inst).a ∷ (parts_of n.inst).b ∷ []

-- A register code is a byte.
abbrev pub Fits : UnwindInst → Type 0
Fits (PushFrameRegs up) = Unit {0}
Fits (DefineNewFrame up down) = Unit {0}
Fits (StackAlloc size) = Unit {0}
Fits (SaveReg offset reg) = reg < 256
Fits (Aarch64SetPointerAuth on) = Unit {0}

-- The words of a note, or nothing exactly where its place has more than 24 bits.
abbrev pub WordsOf : Note → Result (List ℕ) FarPlace → Type 0
WordsOf n r = MatchResult r (λ ws. (n.place < 2 ^ 24) × (ws ≡ words_of n)) (λ _. 2 ^ 24 ≤ n.place)

-- The note that three words stand for, or nothing where they stand for none.
abbrev pub NoteOf : List ℕ → Result Note NoNote → Type 0
NoteOf ws r = MatchResult r (λ n. words_of n ≡ ws) (λ _. (n : Note) → Fits n.inst → words_of n ≢ ws)

-- The case of a kind, from its two words.
abbrev pub inst_from_of : ℕ → ℕ → ℕ → UnwindInst
inst_from_of kind a b =
    cond (kind == 0) (PushFrameRegs a)
    (cond (kind == 1) (DefineNewFrame a b)
    (cond (kind == 2) (StackAlloc a)
    (cond (kind == 3) (SaveReg a (b % 256))
    (Aarch64SetPointerAuth (not (a == 0))))))

-- The note that three words are read as.
abbrev pub note_from_of : ℕ → ℕ → ℕ → Note
note_from_of first a b = record { place = first / 256; inst = inst_from_of (first % 256) a b }
