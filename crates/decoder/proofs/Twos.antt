-- The laws of two's complement, at every width.
use Rattle.std.proofs.Common.{◌≡◌, ℕ, suc, ◌+◌, ◌-◌, ◌*◌, ◌^◌, ◌<◌, ◌≤◌, ℤ, pos, negsuc, nat_abs, refl, ap, inl, inr, arith, pow-add}
use Rattle.std.proofs.lemmas.Bool.{cases_lt, lt-ltb, le-ltb}
use Rattle.a64.specs.Signed.{twos, from_twos, Within}

-- a power is twice the one before
pub double : (k : ℕ) → 0 < k → 2 ^ k ≡ 2 ^ (k - 1) * 2
double k h = let e : (k - 1) + 1 ≡ k = omega arith in rw e at (pow-add 2 (k - 1) 1)

pub abs_below : (k : ℕ) (v : ℤ) → 0 < k → Within k v → nat_abs v ≤ 2 ^ k
abs_below k (pos n) p h = omega (arith, double k p)
abs_below k (negsuc n) p h = omega (arith, double k p)

pub twos_below : (k : ℕ) (v : ℤ) → 0 < k → Within k v → twos k v < 2 ^ k
twos_below k (pos n) p h = omega (arith, double k p)
twos_below k (negsuc n) p h = omega (arith, double k p)

pub back : (k : ℕ) (v : ℤ) → 0 < k → Within k v → from_twos k (twos k v) ≡ v
back k (pos n) p h = rw (lt-ltb n (2 ^ (k - 1)) h)
back k (negsuc n) p h =
    let d = double k p in
    let e : 2 ^ k - suc (2 ^ k - suc n) ≡ n = omega arith in
    rw (le-ltb (2 ^ k - suc n) (2 ^ (k - 1)) (omega arith)) (ap negsuc e)

pub forth : (k : ℕ) (n : ℕ) → 0 < k → n < 2 ^ k → twos k (from_twos k n) ≡ n
forth k n p h =
    let d = double k p in
    elim (cases_lt n (2 ^ (k - 1))) [ inl l ↦ rw (lt-ltb n (2 ^ (k - 1)) l) refl | inr g ↦ rw (le-ltb n (2 ^ (k - 1)) g) (omega arith) ]

pub within : (k : ℕ) (n : ℕ) → 0 < k → n < 2 ^ k → Within k (from_twos k n)
within k n p h =
    let d = double k p in
    elim (cases_lt n (2 ^ (k - 1))) [ inl l ↦ rw (lt-ltb n (2 ^ (k - 1)) l) l | inr g ↦ rw (le-ltb n (2 ^ (k - 1)) g) (omega arith) ]
