use Rattle.numerals.proofs.Written.{eight}
use Rattle.numerals.proofs.number.code_word.Goals as goal
use Rattle.std.proofs.Common.{◌∙◌, arith}

pub returns : goal.returns
returns c = c.narrow.ensures ∙ eight c.args.word.now c.digits.result (omega arith) c.digits.ensures
