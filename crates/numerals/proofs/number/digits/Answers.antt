use Rattle.numerals.specs.Numbers.{radix_of}
use Rattle.std.proofs.lemmas.Bool.{eqb-false}
use Rattle.numerals.proofs.Written.{too_long, all_read, positive_radix}
use Rattle.numerals.proofs.number.digits.Goals as goal
use Rattle.std.proofs.Common.{sym, arith}

pub returns-in_err-n : goal.returns-in_err-n
returns-in_err-n c =
    let none = too_long (radix_of c.args.base) c.loop-b.n c.loop-b.b-index c.args.s.now c.loop-b.invariant (positive_radix c.args.base) (omega arith) c.in_err-n.ensures in
    cc

pub returns : goal.returns
returns c =
    all_read (radix_of c.args.base) c.loop-b.n c.loop-b.b-index c.args.s.now c.loop-b.invariant (omega (arith, eqb-false _ 0 (sym c.if-is_empty.ensures))) (omega arith)
