use Rattle.numerals.specs.Numbers.{radix_of}
use Rattle.numerals.proofs.Written.{Sofar}
use Rattle.numerals.proofs.number.digits.Given as goal

abbrev pub invariant-loop-b : goal.invariant-loop-b
invariant-loop-b l = Sofar (radix_of l.base) l.n l.b-index l.s
