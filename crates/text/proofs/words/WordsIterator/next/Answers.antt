use Rattle.std.proofs.Common.{sym}
use Rattle.text.proofs.Cutting.{shorter}
use Rattle.text.proofs.words.WordsIterator.next.Goals as goal

pub returns-else-is_empty-clause-goes : goal.returns-else-is_empty-clause-goes
returns-else-is_empty-clause-goes c =
    let less = shorter c.args.self.now.rest.now c.trim-tail.result.now c.split_at.result.1.now c.letters.result c.trim-tail.ensures c.letters.ensures.place c.split_at.ensures.back (sym c.if-is_empty.ensures) in
    record { on = λ _. (tt, tt, less); keeps = tt; rests = λ _. tt }
