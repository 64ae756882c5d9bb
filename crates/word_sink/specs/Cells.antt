-- How a row of cells holds instructions from the front and notes of three words from the back.
use Rattle.std.specs.Prelude.{◌≡◌, ℕ, ◌+◌, ◌-◌, ◌*◌, List, map, take, vec_items, vec_len, Result, MatchResult, slice_index, slice_set}
use Rattle.a64.specs.Words.{Reads}
use Rattle.a64.specs.declared.inst.Inst.{Inst}
use Rattle.decoder.specs.Reading.{reading}
use Rattle.refusal.specs.declared.Refusal.{Refusal}
use Rattle.std.specs.List.{range_with_len}
use Rattle.sink.specs.Held.{Held, note_at}
use Rattle.notes.specs.Notes.{note_from_of, words_of}
use Rattle.notes.specs.declared.Note.{Note}
use Rattle.notes.specs.declared.UnwindInst.{UnwindInst}
use Rattle.word_sink.specs.declared.WordSink.{WordSink}

-- The first cell of note k, where the cells end at top: the three cells end 3 k before it.
abbrev pub note_base : ℕ → ℕ → ℕ
note_base top k = top - 3 * (k + 1)

-- Note k.
abbrev pub note_of : ℕ → List ℕ → ℕ → Note
note_of top ws k = note_from_of (slice_index ws (note_base top k)) (slice_index ws (note_base top k + 1)) (slice_index ws (note_base top k + 2))

-- The first n notes.
unfoldable pub notes_of : ℕ → List ℕ → ℕ → List Note
notes_of top ws n = map (note_of top ws) (range_with_len 0 n)

-- The readings of the first n cells.
unfoldable pub insts_of : List ℕ → ℕ → List Inst
insts_of ws n = map reading (take n ws)

-- What the cells below top mean with i instructions and n notes.
abbrev pub cells_held : ℕ → List ℕ → ℕ → ℕ → Held
cells_held top ws i n = record { insts = insts_of ws i; notes = notes_of top ws n; room = top - (i + 3 * n) }

-- What a word sink means.
abbrev pub word_held : WordSink → Held
word_held s = cells_held (vec_len s.words) (vec_items s.words) s.insts s.notes

-- The cells of a word sink.
abbrev pub cells_of : WordSink → List ℕ
cells_of s = vec_items s.words

-- The cells with the three words of a note written as note k.
abbrev pub noted : ℕ → List ℕ → ℕ → Note → List ℕ
noted top ws k x =
    slice_set (slice_set (slice_set ws (note_base top k) (slice_index (words_of x) 0)) (note_base top k + 1) (slice_index (words_of x) 1)) (note_base top k + 2) (slice_index (words_of x) 2)

-- Putting an instruction writes its word behind the others; a refusal writes nothing.
abbrev pub InstCells : WordSink → Inst → WordSink → Result Unit Refusal → Type 0
InstCells old x new r =
    MatchResult r (λ _. (w : ℕ) × Reads w x × (cells_of new ≡ slice_set (cells_of old) old.insts w)) (λ _. cells_of new ≡ cells_of old)

-- Putting a note writes its words before the others; a refusal writes nothing.
abbrev pub NoteCells : WordSink → UnwindInst → WordSink → Result Unit Refusal → Type 0
NoteCells old x new r =
    MatchResult r (λ _. cells_of new ≡ noted (vec_len old.words) (cells_of old) old.notes (note_at (word_held old) x)) (λ _. cells_of new ≡ cells_of old)
