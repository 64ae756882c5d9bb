use Rattle.std.proofs.Common.{◌≡◌, drop, vec_items, vec_len}
use Rattle.sink.specs.Held.{stray}
use Rattle.word_sink.specs.Cells.{notes_of}
use Rattle.word_sink.proofs.WordSink.first_stray.Given as goal

abbrev pub invariant-loop-k : goal.invariant-loop-k
invariant-loop-k l =
    stray l.i l.k (drop l.k (notes_of (vec_len l.self.words) (vec_items l.self.words) l.n)) ≡ stray l.i 0 (notes_of (vec_len l.self.words) (vec_items l.self.words) l.n)
