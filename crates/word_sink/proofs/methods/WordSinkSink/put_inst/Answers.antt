use Rattle.std.proofs.Common.{◌≡◌, vec_items, arith, rules, vec_len}
use Rattle.codec.specs.Unread.{unread}
use Rattle.refusal.specs.Told.{told}
use Rattle.sink.specs.Held.{IsReading}
use Rattle.word_sink.proofs.Slots.{held_inst}
use Rattle.word_sink.proofs.methods.WordSinkSink.put_inst.Goals as goal

-- no word reads as what was refused
pub returns-in_err-word-clause-put : goal.returns-in_err-word-clause-put
returns-in_err-word-clause-put c =
    let o = c.in_err-word.ensures.only in
    let n : (IsReading c.args.x → ⊥) × (told c.in_err-word.field-0.0 ≡ unread) = ((λ p. o.1 p.0 p.1), o.0) in
    search rules

pub returns : goal.returns
returns c =
    let h =
    held_inst (vec_len c.args.self.now.words) (vec_items c.args.self.now.words) c.args.self.now.insts c.args.self.now.notes c.in_ok-word.word c.args.x
    c.in_ok-word.ensures.only (omega arith) (search rules) in
    record {
      put = ((c.in_ok-word.word, c.in_ok-word.ensures.only), omega arith, search rules);
      cells = (c.in_ok-word.word, c.in_ok-word.ensures.only, search rules);
    }
