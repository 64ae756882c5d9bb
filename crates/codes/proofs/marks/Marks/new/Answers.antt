use Rattle.std.proofs.Common.{◌≡◌, ◌-◌, Bool, true, false, cond, ◌&&◌, ltb, leb, refl}
use Rattle.codes.specs.Bit.{bit}
use Rattle.std.proofs.lemmas.Nat.Bits.{bit_at-zero}
use Rattle.codes.proofs.marks.Marks.new.Goals as goal

pub returns : goal.returns
unfolding bit
returns c d = go (ltb d 32) (leb 64 d && ltb d 96)
  where
    go : (a b : Bool) → cond a (bit 0 d) (cond b (bit 0 (d - 64)) 0) ≡ 0
    go true b = bit_at-zero d
    go false true = bit_at-zero (d - 64)
    go false false = refl
