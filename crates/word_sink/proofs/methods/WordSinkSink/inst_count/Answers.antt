use Rattle.std.proofs.Common.{vec_items, arith, rules}
use Rattle.word_sink.proofs.Slots.{length_insts}
use Rattle.word_sink.proofs.methods.WordSinkSink.inst_count.Goals as goal

pub returns : goal.returns
returns c = omega (arith, length_insts (vec_items c.args.self.now.words) c.args.self.now.insts (search rules))
