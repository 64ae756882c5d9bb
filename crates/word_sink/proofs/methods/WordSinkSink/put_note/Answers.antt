use Rattle.std.proofs.Common.{vec_items, arith, rules, vec_len}
use Rattle.word_sink.proofs.Slots.{held_note, cells_noted}
use Rattle.word_sink.proofs.methods.WordSinkSink.put_note.Goals as goal

pub returns : goal.returns
returns c =
    let h =
    held_note (vec_len c.args.self.now.words) (vec_items c.args.self.now.words) c.args.self.now.insts c.args.self.now.notes
    c.from-parts.result.kind c.from-parts.result.a c.from-parts.result.b c.args.x (omega arith) (search rules) c.from-parts.ensures.back.0 c.from-parts.ensures.back.1 in
    let n =
    cells_noted (vec_len c.args.self.now.words) (vec_items c.args.self.now.words) c.args.self.now.insts c.args.self.now.notes
    c.from-parts.result c.args.x (search rules) c.from-parts.ensures.value in
    record { put = (omega arith, search rules); cells = search rules }
