-- The price of one more.
use Rattle.std.proofs.Common.{◌≡◌, ℕ, ◌+◌, ◌*◌, ◌≤◌, ap, mul-add, mul-one, arith}

pub paid : (p a b : ℕ) → b ≡ a + 1 → p * b ≡ p * a + p
paid p a b e = omega (arith, ap (λ (n : ℕ). p * n) e, mul-add p a 1, mul-one p)

-- no more things than they cost
pub cheap : (p a : ℕ) → 1 ≤ p → a ≤ p * a
cheap p a h = grind arith
