use Rattle.std.proofs.Common.{vec_items, vec_len, sym, ◌∙◌, arith}
use Rattle.word_sink.proofs.Slots.{stray_word_here, stray_word_on, stray_word_none}
use Rattle.word_sink.proofs.WordSink.first_stray.Goals as goal

pub returns-then-place-i : goal.returns-then-place-i
returns-then-place-i c =
    sym (stray_word_here c.args.i c.loop-k.k (vec_len c.args.self.now.words) (vec_items c.args.self.now.words) c.args.n (omega arith) (omega arith)) ∙ c.loop-k.invariant

pub loop-k-preserved : goal.loop-k-preserved
loop-k-preserved c =
    sym (stray_word_on c.args.i c.loop-k.k (vec_len c.args.self.now.words) (vec_items c.args.self.now.words) c.args.n (omega arith) (omega arith)) ∙ c.loop-k.invariant

pub returns : goal.returns
returns c =
    sym (stray_word_none c.args.i c.loop-k.k (vec_len c.args.self.now.words) (vec_items c.args.self.now.words) c.args.n (omega arith)) ∙ c.loop-k.invariant
