-- What is known of a sheet to which no refusal applies.
use Rattle.std.proofs.Common.{◌≡◌, ℕ, ◌+◌, ◌%◌, ◌^◌, ◌<◌, ◌≤◌, Bool, true, false, cond, not, ◌&&◌, ◌||◌, eqb, ltb, ◌⊎◌, List, [], ◌∷◌, ◌++◌, is_some, Some, None, Option, sym, refl, ap, ◌∙◌, inl, inr, arith}
use Rattle.std.proofs.lemmas.Bool.{true≢false, cases_Bool, or_parts, or_cases, and_cases, eqb-true, not-false, lt-ltb}
use Rattle.std.proofs.lemmas.Bool.Decides.{nat_tests}
use Rattle.refusal.specs.Told.{Row, first}
use Rattle.refusal.specs.declared.Cause.{Cause}
use Rattle.a64.specs.Operands.{imm12_of}
use Rattle.sheet.specs.Codes.{code_rows, row_at, has, allowed}
use Rattle.sheet.specs.Key.{key_of}
use Rattle.sheet.specs.Plain.{PlainSheet, same}
use Rattle.sheet.specs.Saved.{pairing, sets_up}
use Rattle.sheet.specs.Refused.{row, late_rows, plain_rows, bad_sizes_of, bad_tail_of, winch_seal_of, bad_guard_of, uneven}
use Rattle.sheet.specs.Accepted.{Accepted}
use Rattle.sheet.specs.declared.types.CallConv.TheVariants.{Winch}

is_none : {X : Type 0} (o : Option X) → is_some o ≡ false → o ≡ None
is_none None h = refl
is_none (Some x) h = absurd (true≢false h)

first_none : (r : Row) (rs : List Row) → first (r ∷ rs) ≡ None → (r.applies ≡ false) × (first rs ≡ None)
first_none r rs h = go r.applies refl h
  where
    go : (b : Bool) → r.applies ≡ b → cond b (Some r.answer) (first rs) ≡ None → (r.applies ≡ false) × (first rs ≡ None)
    go true e k = absurd (true≢false (ap is_some k))
    go false e k = (e, k)

first_parts : (a b : List Row) → first (a ++ b) ≡ None → (first a ≡ None) × (first b ≡ None)
first_parts [] b h = (refl, h)
first_parts (r ∷ rs) b h =
    let p = first_none r (rs ++ b) h in
    let q = first_parts rs b p.1 in
    (ap (λ (x : Bool). cond x (Some r.answer) (first rs)) p.0 ∙ q.0, q.1)

codes_allowed : (pinned : Bool) (seen : List ℕ) (i : ℕ) (cs : List ℕ) → first (code_rows pinned seen i cs) ≡ None →
    (c : ℕ) → has cs c ≡ true → allowed pinned c ≡ true
codes_allowed pinned seen i [] h c k = absurd (true≢false (sym k))
codes_allowed pinned seen i (d ∷ ds) h c k =
    let p = first_none (row_at Cause.CodeNotAllowed i (not (allowed pinned d))) (row_at Cause.CodeRepeated i (has seen d) ∷ code_rows pinned (d ∷ seen) (i + 1) ds) h in
    let q = first_none (row_at Cause.CodeRepeated i (has seen d)) (code_rows pinned (d ∷ seen) (i + 1) ds) p.1 in
    elim (or_cases (eqb c d) (has ds c) k) [
      | inl e ↦ ap (allowed pinned) (eqb-true c d e) ∙ not-false (allowed pinned d) p.0
      | inr e ↦ codes_allowed pinned (d ∷ seen) (i + 1) ds q.1 c e
    ]

-- the tests of the late rows
late_tests : (p : PlainSheet) → first (late_rows p.conv p.flags p.sizes (sets_up p)) ≡ None →
    (bad_sizes_of p.sizes ≡ false) × (bad_tail_of p.conv p.sizes ≡ false) × (winch_seal_of p.conv p.flags p.sizes (sets_up p) ≡ false)
    × (pairing p && p.flags.enable_pinned_reg ≡ false) × (bad_guard_of p.flags p.sizes ≡ false)
late_tests p h =
    let r9 : Row = row Cause.Guard (bad_guard_of p.flags p.sizes) in
    let r8 : Row = row Cause.CompactPinned (pairing p && p.flags.enable_pinned_reg) in
    let r7 : Row = row Cause.WinchSeal (winch_seal_of p.conv p.flags p.sizes (sets_up p)) in
    let r6 : Row = row Cause.TailSize (bad_tail_of p.conv p.sizes) in
    let a = first_none (row Cause.Sizes (bad_sizes_of p.sizes)) (r6 ∷ r7 ∷ r8 ∷ r9 ∷ []) h in
    let b = first_none r6 (r7 ∷ r8 ∷ r9 ∷ []) a.1 in
    let c = first_none r7 (r8 ∷ r9 ∷ []) b.1 in
    let d = first_none r8 (r9 ∷ []) c.1 in
    let e = first_none r9 [] d.1 in
    (a.0, b.0, c.0, d.0, e.0)

code_cases : (pinned : Bool) (c : ℕ) → allowed pinned c ≡ true → (c ≤ 15) ⊎ (((19 ≤ c) × (c ≤ 28)) ⊎ ((64 ≤ c) × (c ≤ 95)))
code_cases pinned c h = grind (arith, nat_tests)

not_pinned : (pinned : Bool) → pinned ≡ true → allowed pinned 21 ≡ true → ⊥
not_pinned true e h = true≢false (sym h)
not_pinned false e h = true≢false (sym e)

no_key : {X : Type 0} (w i : Bool) (k : Option X) → w && (i && is_some k) ≡ false → w ≡ true → i ≡ true → k ≡ None
no_key true true k h p q = is_none k h
no_key true false k h p q = absurd (true≢false (sym q))
no_key false i k h p q = absurd (true≢false (sym p))

-- which numbers are immediates
pub imm12_test : (n : ℕ) → is_some (imm12_of n) ≡ (ltb n 4096 || (eqb (n % 4096) 0 && ltb n (2 ^ 24)))
imm12_test n = go (ltb n 4096) (eqb (n % 4096) 0 && ltb n (2 ^ 24)) _ _
  where
    go : {X : Type 0} (a b : Bool) (x y : X) → is_some (cond a (Some x) (cond b (Some y) None)) ≡ (a || b)
    go true b x y = refl
    go false true x y = refl
    go false false x y = refl

guard_facts : (on : Bool) (g : ℕ) → on && (eqb g 0 || (uneven g || not (is_some (imm12_of g)))) ≡ false → on ≡ true →
    (16 ≤ g) × (g % 16 ≡ 0) × (g < 2 ^ 24) × ((g < 4096) ⊎ (g % 4096 ≡ 0))
guard_facts true g h e =
    let a = or_parts (eqb g 0) (uneven g || not (is_some (imm12_of g))) h in
    let b = or_parts (uneven g) (not (is_some (imm12_of g))) a.1 in
    let m : g % 16 ≡ 0 = eqb-true (g % 16) 0 (not-false (eqb (g % 16) 0) b.0) in
    let i : (ltb g 4096 || (eqb (g % 4096) 0 && ltb g (2 ^ 24))) ≡ true = sym (imm12_test g) ∙ not-false (is_some (imm12_of g)) b.1 in
    let z : g ≡ 0 → ⊥ = grind (arith, nat_tests) in
    (omega arith, m, grind (arith, nat_tests), grind (arith, nat_tests))
guard_facts false g h e = absurd (true≢false (sym e))

pub accepted : (p : PlainSheet) → is_some (first (plain_rows p)) ≡ false → Accepted p
accepted p h =
    let start = first_none (row Cause.DynamicVector p.flags.dynamic_vector)
    (code_rows p.flags.enable_pinned_reg [] 0 p.clobbers ++ late_rows p.conv p.flags p.sizes (sets_up p)) (is_none _ h) in
    let parts = first_parts (code_rows p.flags.enable_pinned_reg [] 0 p.clobbers) (late_rows p.conv p.flags p.sizes (sets_up p)) start.1 in
    let ok : (c : ℕ) → has p.clobbers c ≡ true → allowed p.flags.enable_pinned_reg c ≡ true =
    codes_allowed p.flags.enable_pinned_reg [] 0 p.clobbers parts.0 in
    let late = late_tests p parts.1 in
    let s5 : bad_sizes_of p.sizes ≡ false = late.0 in
    let s6 : bad_tail_of p.conv p.sizes ≡ false = late.1 in
    record {
      codes = λ c k. code_cases p.flags.enable_pinned_reg c (ok c k);
      unpinned = λ e. elim (cases_Bool (has p.clobbers 21)) [ inl k ↦ absurd (not_pinned p.flags.enable_pinned_reg e (ok 21 k)) | inr k ↦ k ];
      incoming16 = grind (arith, nat_tests);
      tail16 = grind (arith, nat_tests);
      fixed16 = grind (arith, nat_tests);
      outgoing16 = grind (arith, nat_tests);
      sum = grind (arith, nat_tests);
      larger = grind (arith, nat_tests);
      fixed_tail = λ e. grind (arith, nat_tests);
      winch = λ w i. no_key (same p.conv Winch) (ltb 0 p.sizes.incoming) (key_of p.flags p.conv (sets_up p)) late.2 w (lt-ltb 0 p.sizes.incoming i);
      pairs_unpinned = λ e. elim (and_cases (pairing p) p.flags.enable_pinned_reg late.3) [ inl k ↦ absurd (true≢false (sym e ∙ k)) | inr k ↦ k ];
      guarded = λ e. guard_facts p.flags.inline_probes p.sizes.guard late.4 e;
    }
