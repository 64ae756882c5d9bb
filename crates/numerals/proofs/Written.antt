-- The turns of reading digits, and what the result is.
use Rattle.std.proofs.Common.{◌≡◌, ℕ, ◌+◌, ◌*◌, ◌^◌, ◌<◌, ◌≤◌, Bool, true, false, cond, eqb, ltb, ◌⊎◌, List, ◌∷◌, length, get_or, drop, IfSome, Some, None, Option, refl, subst, arith, lit<}
use Rattle.std.proofs.lemmas.List.{at_drop_all, at_drop_more}
use Rattle.std.proofs.lemmas.Bool.{cond-false, cond-true, lt-ltb, ltb-true, ltb-false, eq-eqb, ne_eqb}
use Rattle.std.specs.Char.{digit_value}
use Rattle.numerals.specs.declared.number.Base.{Base}
use Rattle.numerals.specs.declared.number.Base.TheVariants.{Decimal, Hexadecimal}
use Rattle.numerals.proofs.Growth.{grown, short}
use Rattle.numerals.specs.Numbers.{below, code_of, longer_by, radix_of, value_after, value_in}

pub positive_radix : (b : Base) → 0 < radix_of b
positive_radix Decimal = lit< tt
positive_radix Hexadecimal = lit< tt

some_value : (b d : Bool) (m v : ℕ) → Some m ≡ cond b (cond d (Some v) None) None → (b ≡ true) × (d ≡ true) × (m ≡ v)
some_value b d m v e = grind arith

no_value : (b d : Bool) (v : ℕ) → None ≡ cond b (cond d (Some v) None) None → (b ≡ false) ⊎ (d ≡ false)
no_value b d v e = grind arith

filled : (base : ℕ) (s : List ℕ) → 0 < length s → value_in base s ≡ below (2 ^ 64) (value_after base 0 s)
filled base s h = cond-false (eqb (length s) 0) None (below (2 ^ 64) (value_after base 0 s)) (ne_eqb (length s) 0 (λ e. omega arith))

-- the first i bytes write n, and the others go on from it
pub record Sofar (base n i : ℕ) (s : List ℕ) : Type 0 where
  pub fits : n < 2 ^ 64
  pub same : value_after base n (drop i s) ≡ value_after base 0 s

module _ (base n i : ℕ) (s : List ℕ) (h : Sofar base n i s) where
  next : i < length s → value_after base n (drop i s) ≡ value_after base n (get_or s i 0 ∷ drop (i + 1) s)
  next lt = at_drop_more (value_after base n) s i 0 lt

  pub one_more : (m : ℕ) → i < length s → Some m ≡ longer_by base n (get_or s i 0) → Sofar base m (i + 1) s
  one_more m lt e =
      let v : ℕ = n * base + digit_value (get_or s i 0) in
      let got : (ltb (digit_value (get_or s i 0)) base ≡ true) × (ltb v (2 ^ 64) ≡ true) × (m ≡ v) = some_value (ltb (digit_value (get_or s i 0)) base) (ltb v (2 ^ 64)) m v e in
      record {
        fits = omega (arith, got.2, ltb-true v (2 ^ 64) got.1);
        same = grind (arith, got.0, got.2, next lt, h.same);
      }

  pub too_long : 0 < base → i < length s → None ≡ longer_by base n (get_or s i 0) → None ≡ value_in base s
  too_long pos lt e =
      let v : ℕ = n * base + digit_value (get_or s i 0) in
      let big : 2 ^ 64 ≤ v → below (2 ^ 64) (value_after base v (drop (i + 1) s)) ≡ None = λ h. grown base v (drop (i + 1) s) pos h in
      grind (arith, big, next lt, h.same, filled base s (omega arith), no_value (ltb (digit_value (get_or s i 0)) base) (ltb v (2 ^ 64)) v e, ltb-false v (2 ^ 64))

  pub all_read : 0 < length s → length s ≤ i → Some n ≡ value_in base s
  all_read some le = grind (arith, filled base s some, h.same, at_drop_all (value_after base n) s i le, lt-ltb n (2 ^ 64) h.fits)

fit : (m : ℕ) (o : Option ℕ) → IfSome o (λ v. v < m) → below m o ≡ o
fit m None h = refl
fit m (Some v) h = cond-true (ltb v m) (Some v) None (lt-ltb v m h)

wider : (o : Option ℕ) → IfSome o (λ v. v < 2 ^ 32) → IfSome o (λ v. v < 2 ^ 64)
wider None h = tt
wider (Some v) h = omega arith

-- eight digits always have 32 bits
pub eight : (s : List ℕ) (g : Option ℕ) → length s ≡ 8 → g ≡ value_in 16 s → below (2 ^ 32) g ≡ code_of s
eight s g long is =
    let small : IfSome (value_after 16 0 s) (λ v. v < 2 ^ 32) =
    subst (λ k. IfSome (value_after 16 0 s) (λ v. v < 1 * 16 ^ k)) long (short 1 0 s (omega arith)) in
    grind (arith, is, filled 16 s (omega arith), fit (2 ^ 64) (value_after 16 0 s) (wider (value_after 16 0 s) small), fit (2 ^ 32) (value_after 16 0 s) small, eq-eqb (length s) 8 long)
