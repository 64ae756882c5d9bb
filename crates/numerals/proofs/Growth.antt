-- Numbers only grow by further digits.
use Rattle.std.proofs.Common.{◌≡◌, ℕ, suc, ◌+◌, ◌*◌, ◌^◌, ◌<◌, ◌≤◌, ltb, List, [], ◌∷◌, length, IfSome, Some, None, sym, refl, ap, ◌∙◌, subst, mul_assoc, mul-one, le-mul_of_pos_right, arith}
use Rattle.std.proofs.lemmas.Bool.{cond-false, cond_both, le-ltb, ltb-true}
use Rattle.std.specs.Char.{digit_value}
use Rattle.numerals.specs.Numbers.{below, value_after}
use native.Mathlib.Nat.{pow-succ'}

-- a number that has passed 64 bits stays beyond
pub grown : (base m : ℕ) (xs : List ℕ) → 0 < base → 2 ^ 64 ≤ m → below (2 ^ 64) (value_after base m xs) ≡ None
grown base m [] b h = cond-false (ltb m (2 ^ 64)) (Some m) None (le-ltb m (2 ^ 64) h)
grown base m (x ∷ xs) b h =
    cond_both (ltb (digit_value x) base) (value_after base (m * base + digit_value x) xs) None (λ o. below (2 ^ 64) o ≡ None)
    (λ _. grown base (m * base + digit_value x) xs b (omega (arith, le-mul_of_pos_right {m = base} m b)))
    (λ _. refl)

-- k hexadecimal digits after a number below m write one below m * 16 ^ k
pub short : (m n : ℕ) (xs : List ℕ) → n < m → IfSome (value_after 16 n xs) (λ v. v < m * 16 ^ length xs)
short m n [] h = omega (arith, mul-one m)
short m n (x ∷ xs) h =
    cond_both (ltb (digit_value x) 16) (value_after 16 (n * 16 + digit_value x) xs) None (λ o. IfSome o (λ v. v < m * 16 ^ suc (length xs)))
    (λ e. subst (λ t. IfSome (value_after 16 (n * 16 + digit_value x) xs) (λ v. v < t)) (mul_assoc m 16 (16 ^ length xs) ∙ ap (λ t. m * t) (sym (pow-succ' 16 (length xs)))) (short (m * 16) (n * 16 + digit_value x) xs (omega (arith, ltb-true (digit_value x) 16 e))))
    (λ _. tt)
