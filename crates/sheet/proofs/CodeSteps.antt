-- The rows of the codes from the place i on say what all of them say.
use Rattle.std.proofs.Common.{◌≡◌, ℕ, ◌+◌, ◌<◌, ◌≤◌, Bool, true, false, cond, not, ◌||◌, eqb, List, [], ◌∷◌, length, get_or, drop, Some, None, filter, Option, sym, refl, ap, ◌∙◌, inl, inr, arith}
use Rattle.std.proofs.lemmas.List.{at_drop_more, at_drop_all}
use Rattle.std.proofs.lemmas.Bool.{cases_eq, eq-eqb, ne_eqb, or_left, or_right}
use Rattle.std.proofs.lemmas.Bool.Decides.{nat_tests}
use Rattle.sheet.specs.Walk.{walk}
use Rattle.sheet.proofs.Walks.{is_code, in_walk, kept_few, kept_one, walk_long}
use Rattle.refusal.specs.Told.{Told, first}
use Rattle.sheet.specs.Codes.{allowed, code_rows, has}
use Rattle.codes.specs.Marked.{Coded, marked}
use Rattle.codes.specs.declared.marks.Marks.{Marks}

-- The codes before i are marked, and no row of theirs applies.
pub record Kept (pinned : Bool) (cs : List ℕ) (i : ℕ) (m : Marks) : Type 0 where
  pub seen : List ℕ
  pub marks : (c : ℕ) → eqb (marked m c) 1 ≡ has seen c
  pub whole : first (code_rows pinned [] 0 cs) ≡ first (code_rows pinned seen i (drop i cs))
  pub few : i ≤ length (filter (has seen) (walk false))

abbrev refusal_at : ℕ → ℕ → Told
refusal_at n i = record { number = n; layer = 1; place = i }

pub kept_none : (pinned : Bool) (cs : List ℕ) (m : Marks) → ((c : ℕ) → marked m c ≡ 0) → Kept pinned cs 0 m
kept_none pinned cs m z = record {
  seen = [];
  marks = λ c. ap (λ (x : ℕ). eqb x 1) (z c);
  whole = refl;
  few = omega arith;
}

-- the rows of one code
one : (pinned : Bool) (cs : List ℕ) (i : ℕ) (m : Marks) (k : Kept pinned cs i m) (c : ℕ) → i < length cs → c ≡ get_or cs i 0 →
    first (code_rows pinned [] 0 cs)
    ≡ cond (not (allowed pinned c)) (Some (refusal_at 3 i))
    (cond (eqb (marked m c) 1) (Some (refusal_at 4 i)) (first (code_rows pinned (c ∷ k.seen) (i + 1) (drop (i + 1) cs))))
one pinned cs i m k c lt at =
    k.whole
    ∙ at_drop_more (λ (xs : List ℕ). first (code_rows pinned k.seen i xs)) cs i 0 lt
    ∙ ap (λ (x : ℕ). first (code_rows pinned k.seen i (x ∷ drop (i + 1) cs))) (sym at)
    ∙ ap (λ (b : Bool). cond (not (allowed pinned c)) (Some (refusal_at 3 i)) (cond b (Some (refusal_at 4 i)) (first (code_rows pinned (c ∷ k.seen) (i + 1) (drop (i + 1) cs)))))
    (sym (k.marks c))

pub kept_bad : (pinned : Bool) (cs : List ℕ) (i : ℕ) (m : Marks) (c : ℕ) → Kept pinned cs i m → i < length cs → c ≡ get_or cs i 0 →
    allowed pinned c ≡ false → first (code_rows pinned [] 0 cs) ≡ Some (refusal_at 3 i)
kept_bad pinned cs i m c k lt at bad =
    let e = one pinned cs i m k c lt at in
    (e ∙ ap (λ (b : Bool). cond (not b) (Some (refusal_at 3 i)) (cond (eqb (marked m c) 1) (Some (refusal_at 4 i)) (first (code_rows pinned (c ∷ k.seen) (i + 1) (drop (i + 1) cs))))) bad)

pub kept_twice : (pinned : Bool) (cs : List ℕ) (i : ℕ) (m : Marks) (c : ℕ) → Kept pinned cs i m → i < length cs → c ≡ get_or cs i 0 →
    allowed pinned c ≡ true → eqb (marked m c) 1 ≡ true → first (code_rows pinned [] 0 cs) ≡ Some (refusal_at 4 i)
kept_twice pinned cs i m c k lt at ok twice =
    let rest : Option Told = first (code_rows pinned (c ∷ k.seen) (i + 1) (drop (i + 1) cs)) in
    (one pinned cs i m k c lt at
    ∙ ap (λ (b : Bool). cond (not b) (Some (refusal_at 3 i)) (cond (eqb (marked m c) 1) (Some (refusal_at 4 i)) rest)) ok
    ∙ ap (λ (b : Bool). cond b (Some (refusal_at 4 i)) rest) twice)

-- an allowed code is a register's
allowed_code : (pinned : Bool) (c : ℕ) → allowed pinned c ≡ true → (c < 96) × (is_code c ≡ true)
allowed_code pinned c h = (grind (arith, nat_tests), grind (arith, nat_tests))

pub allowed_coded : (pinned : Bool) (c : ℕ) → allowed pinned c ≡ true → Coded c
allowed_coded pinned c h = grind (arith, nat_tests)

-- so there is room for one that was not seen
pub kept_room : (pinned : Bool) (cs : List ℕ) (i : ℕ) (m : Marks) (c : ℕ) (k : Kept pinned cs i m) → allowed pinned c ≡ true → eqb (marked m c) 1 ≡ false →
    i + 1 ≤ length (filter (has (c ∷ k.seen)) (walk false))
kept_room pinned cs i m c k ok fresh =
    let a = allowed_code pinned c ok in
    let one = kept_one (has k.seen) (has (c ∷ k.seen)) c (λ d h. or_right (eqb d c) (has k.seen d) h) (sym (k.marks c) ∙ fresh)
    (or_left (eqb c c) (has k.seen c) (eq-eqb c c refl)) (walk false) (in_walk false c a.0 a.1) in
    omega (arith, k.few, one)

pub kept_fits : (pinned : Bool) (cs : List ℕ) (i : ℕ) (m : Marks) (c : ℕ) → Kept pinned cs i m → allowed pinned c ≡ true → eqb (marked m c) 1 ≡ false → i < 64
kept_fits pinned cs i m c k ok fresh =
    omega (arith, kept_room pinned cs i m c k ok fresh, kept_few (has (c ∷ k.seen)) (walk false), walk_long false)

pub kept_more : (pinned : Bool) (cs : List ℕ) (i : ℕ) (m n : Marks) (c : ℕ) → Kept pinned cs i m → i < length cs → c ≡ get_or cs i 0 →
    allowed pinned c ≡ true → eqb (marked m c) 1 ≡ false →
    marked n c ≡ 1 → ((d : ℕ) → (d ≡ c → ⊥) → marked n d ≡ marked m d) → Kept pinned cs (i + 1) n
kept_more pinned cs i m n c k lt at ok fresh there others =
    let rest : Option Told = first (code_rows pinned (c ∷ k.seen) (i + 1) (drop (i + 1) cs)) in
    record {
      seen = c ∷ k.seen;
      marks = λ d. elim (cases_eq d c) [
        | inl e ↦
            ap (λ (x : ℕ). eqb (marked n x) 1) e ∙ ap (λ (x : ℕ). eqb x 1) there
            ∙ sym (ap (λ (b : Bool). b || has k.seen d) (eq-eqb d c e))
        | inr ne ↦
            ap (λ (x : ℕ). eqb x 1) (others d ne) ∙ k.marks d ∙ sym (ap (λ (b : Bool). b || has k.seen d) (ne_eqb d c ne))
      ];
      whole =
          one pinned cs i m k c lt at
          ∙ ap (λ (b : Bool). cond (not b) (Some (refusal_at 3 i)) (cond (eqb (marked m c) 1) (Some (refusal_at 4 i)) rest)) ok
          ∙ ap (λ (b : Bool). cond b (Some (refusal_at 4 i)) rest) fresh;
      few = kept_room pinned cs i m c k ok fresh;
    }

pub kept_all : (pinned : Bool) (cs : List ℕ) (i : ℕ) (m : Marks) → Kept pinned cs i m → length cs ≤ i →
    first (code_rows pinned [] 0 cs) ≡ None
kept_all pinned cs i m k le = k.whole ∙ at_drop_all (λ (xs : List ℕ). first (code_rows pinned k.seen i xs)) cs i le
