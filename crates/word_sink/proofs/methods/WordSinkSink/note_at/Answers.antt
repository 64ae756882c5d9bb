use Rattle.std.proofs.Common.{◌≡◌, ◌+◌, get_or, vec_items, arith, rules, vec_len}
use Rattle.std.proofs.lemmas.List.{get_or_read}
use Rattle.word_sink.proofs.Slots.{length_notes, note_words}
use Rattle.word_sink.specs.Cells.{note_base}
use Rattle.word_sink.proofs.methods.WordSinkSink.note_at.Goals as goal

pub returns-then-i-self : goal.returns-then-i-self
returns-then-i-self c =
    let x : c.index-first.result.now ≡ get_or (vec_items c.args.self.now.words) (note_base (vec_len c.args.self.now.words) c.args.i) 0 = search (rules, get_or_read) in
    let y : c.index-a.result.now ≡ get_or (vec_items c.args.self.now.words) (note_base (vec_len c.args.self.now.words) c.args.i + 1) 0 = search (rules, get_or_read) in
    let z : c.index-b.result.now ≡ get_or (vec_items c.args.self.now.words) (note_base (vec_len c.args.self.now.words) c.args.i + 2) 0 = search (rules, get_or_read) in (
      omega (arith, length_notes (vec_len c.args.self.now.words) (vec_items c.args.self.now.words) c.args.self.now.notes),
      note_words (vec_len c.args.self.now.words) (vec_items c.args.self.now.words) c.args.self.now.notes c.args.i _ _ _ _ c.if-i-self.true x y z c.note_from.ensures,
    )

pub returns-else-i-self : goal.returns-else-i-self
returns-else-i-self c = (omega (arith, length_notes (vec_len c.args.self.now.words) (vec_items c.args.self.now.words) c.args.self.now.notes), c.not_held.ensures)
