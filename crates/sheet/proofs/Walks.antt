-- Every code stands in a walk, and the codes of a list that stand in one are no more than it has.
use Rattle.std.proofs.Common.{◌≡◌, ℕ, zero, suc, ◌<◌, ◌≤◌, Bool, true, false, cond, not, ◌&&◌, ◌||◌, eqb, ltb, List, [], ◌∷◌, length, filter, sym, refl, ap, ◌∙◌, inl, inr, arith}
use Rattle.std.proofs.lemmas.Bool.{and_parts, cases_eq, eqb-true, true≢false}
use Rattle.sheet.specs.Codes.{has, within}
use Rattle.sheet.specs.Walk.{walk, ints, vecs}

-- a test that passes below n
abbrev all_below : (ℕ → Bool) → ℕ → Bool
all_below t zero = true
all_below t (suc n) = t n && all_below t n

pub below_all : (t : ℕ → Bool) (n : ℕ) → all_below t n ≡ true → (k : ℕ) → k < n → t k ≡ true
below_all t zero h k l = absurd (omega arith)
below_all t (suc n) h k l =
    let p = and_parts (t n) (all_below t n) h in
    elim (cases_eq k n) [ inl e ↦ ap t e ∙ p.0 | inr ne ↦ below_all t n p.1 k (omega arith) ]

-- a code of a register
abbrev pub is_code : ℕ → Bool
is_code c = ltb c 32 || within 64 95 c

pub in_walk : (d : Bool) (c : ℕ) → c < 96 → is_code c ≡ true → has (walk d) c ≡ true
unfolding ints vecs
in_walk true c l h = implied (is_code c) _ (below_all (λ k. not (is_code k) || has (walk true) k) 96 refl c l) h
  where
    implied : (a b : Bool) → not a || b ≡ true → a ≡ true → b ≡ true
    implied true b p q = p
    implied false b p q = absurd (true≢false (sym q))
in_walk false c l h = implied (is_code c) _ (below_all (λ k. not (is_code k) || has (walk false) k) 96 refl c l) h
  where
    implied : (a b : Bool) → not a || b ≡ true → a ≡ true → b ≡ true
    implied true b p q = p
    implied false b p q = absurd (true≢false (sym q))

pub kept_few : (t : ℕ → Bool) (w : List ℕ) → length (filter t w) ≤ length w
kept_few t [] = omega arith
kept_few t (x ∷ xs) = go (t x) (kept_few t xs)
  where
    go : (b : Bool) → length (filter t xs) ≤ length xs → length (cond b (x ∷ filter t xs) (filter t xs)) ≤ suc (length xs)
    go true h = omega arith
    go false h = omega arith

-- more pass
pub kept_mono : (t u : ℕ → Bool) → ((k : ℕ) → t k ≡ true → u k ≡ true) → (w : List ℕ) → length (filter t w) ≤ length (filter u w)
kept_mono t u h [] = omega arith
kept_mono t u h (x ∷ xs) = go (t x) (u x) refl refl (kept_mono t u h xs)
  where
    go : (a b : Bool) → t x ≡ a → u x ≡ b → length (filter t xs) ≤ length (filter u xs)
        → length (cond a (x ∷ filter t xs) (filter t xs)) ≤ length (cond b (x ∷ filter u xs) (filter u xs))
    go true true p q k = omega arith
    go true false p q k = absurd (true≢false (sym (h x p) ∙ q))
    go false true p q k = omega arith
    go false false p q k = k

-- one more passes, that stands in the list
pub kept_one : (t u : ℕ → Bool) (c : ℕ) → ((k : ℕ) → t k ≡ true → u k ≡ true) → t c ≡ false → u c ≡ true → (w : List ℕ) → has w c ≡ true →
    suc (length (filter t w)) ≤ length (filter u w)
kept_one t u c h p q [] i = absurd (true≢false (sym i))
kept_one t u c h p q (x ∷ xs) i = go (eqb c x) refl i (λ j. kept_one t u c h p q xs j) (t x) (u x) refl refl
  where
    go : (e : Bool) → eqb c x ≡ e → e || has xs c ≡ true → (has xs c ≡ true → suc (length (filter t xs)) ≤ length (filter u xs))
        → (a b : Bool) → t x ≡ a → u x ≡ b
        → suc (length (cond a (x ∷ filter t xs) (filter t xs))) ≤ length (cond b (x ∷ filter u xs) (filter u xs))
    go true e j rest true b m n = absurd (true≢false (sym m ∙ sym (ap t (eqb-true c x e)) ∙ p))
    go true e j rest false true m n = let k = kept_mono t u h xs in omega arith
    go true e j rest false false m n = absurd (true≢false (sym q ∙ ap u (eqb-true c x e) ∙ n))
    go false e j rest true true m n = let k = rest j in omega arith
    go false e j rest true false m n = absurd (true≢false (sym (h x m) ∙ n))
    go false e j rest false true m n = let k = rest j in omega arith
    go false e j rest false false m n = rest j

pub walk_long : (d : Bool) → length (walk d) ≡ 64
unfolding ints vecs
walk_long true = refl
walk_long false = refl
