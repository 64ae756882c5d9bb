use Rattle.std.proofs.Common.{vec_items, arith, vec_len}
use Rattle.word_sink.proofs.Slots.{length_notes}
use Rattle.word_sink.proofs.methods.WordSinkSink.note_count.Goals as goal

pub returns : goal.returns
returns c = omega (arith, length_notes (vec_len c.args.self.now.words) (vec_items c.args.self.now.words) c.args.self.now.notes)
