use Rattle.std.proofs.Common.{ℕ, ◌^◌, ◌<◌, eqb, ap, lt_of_lt_of_le, pow_mono}
use native.Mathlib.Nat.{div-eq_of_lt}
use Rattle.std.proofs.lemmas.Bool.{le-ltb}
use Rattle.std.proofs.lemmas.Nat.Bits.{shr_and_one}
use Rattle.codes.specs.Bit.{bit}
use Rattle.codes.proofs.bits.has_bit.Goals as goal

pub returns-then-k-lt32 : goal.returns-then-k-lt32
unfolding bit
returns-then-k-lt32 c = ap (λ (x : ℕ). eqb x 1) (shr_and_one c.args.m c.args.k)

pub returns-else-k-lt32 : goal.returns-else-k-lt32
unfolding bit
returns-else-k-lt32 c =
    let small : c.args.m < 2 ^ c.args.k = lt_of_lt_of_le c.ranges.m.fits (pow_mono c.if-k-lt32.false) in
    rw (le-ltb c.args.k 32 c.if-k-lt32.false, div-eq_of_lt small)
