-- The rows one after the other.
use Rattle.std.proofs.Common.{◌≡◌, ◌<◌, Bool, true, false, cond, ◌||◌, ltb, List, [], ◌∷◌, ◌++◌, is_some, Some, None, Option, sym, refl, ap, ◌∙◌}
use Rattle.std.proofs.lemmas.Bool.{lt-ltb, true≢false}
use Rattle.refusal.specs.Told.{Told, Row, first}
use Rattle.refusal.specs.declared.Cause.{Cause}
use Rattle.sheet.specs.Codes.{code_rows}
use Rattle.sheet.specs.Plain.{PlainSheet, alike}
use Rattle.sheet.specs.declared.types.FunctionCalls.TheVariants.{Regular}
use Rattle.sheet.specs.Saved.{sets_up}
use Rattle.sheet.specs.Refused.{row, late_rows, plain_rows}

pub first_front : (a b : List Row) (t : Told) → first a ≡ Some t → first (a ++ b) ≡ Some t
first_front [] b t h = absurd (true≢false (sym (ap is_some h)))
first_front (r ∷ rs) b t h = go r.applies h (λ k. first_front rs b t k)
  where
    go : (x : Bool) → cond x (Some r.answer) (first rs) ≡ Some t → (first rs ≡ Some t → first (rs ++ b) ≡ Some t)
        → cond x (Some r.answer) (first (rs ++ b)) ≡ Some t
    go true k rest = k
    go false k rest = rest k

pub first_back : (a b : List Row) → first a ≡ None → first (a ++ b) ≡ first b
first_back [] b h = refl
first_back (r ∷ rs) b h = go r.applies h (λ k. first_back rs b k)
  where
    go : (x : Bool) → cond x (Some r.answer) (first rs) ≡ None → (first rs ≡ None → first (rs ++ b) ≡ first b)
        → cond x (Some r.answer) (first (rs ++ b)) ≡ first b
    go true k rest = absurd (true≢false (ap is_some k))
    go false k rest = rest k

pub first_next : (r : Row) (rs : List Row) → r.applies ≡ false → first (r ∷ rs) ≡ first rs
first_next r rs h = ap (λ (x : Bool). cond x (Some r.answer) (first rs)) h

-- with incoming bytes there is a setup area
pub incoming_sets_up : (p : PlainSheet) → 0 < p.sizes.incoming → sets_up p ≡ true
incoming_sets_up p h = third p.flags.preserve_frame_pointers (alike p.calls Regular) (ltb 0 p.sizes.incoming) _ (lt-ltb 0 p.sizes.incoming h)
  where
    third : (a b c d : Bool) → c ≡ true → a || (b || (c || d)) ≡ true
    third true b c d e = refl
    third false true c d e = refl
    third false false true d e = refl
    third false false false d e = absurd (true≢false (sym e))

pub codes_tell : (p : PlainSheet) (t : Told) → p.flags.dynamic_vector ≡ false →
    first (code_rows p.flags.enable_pinned_reg [] 0 p.clobbers) ≡ Some t → first (plain_rows p) ≡ Some t
codes_tell p t dyn h =
    first_next (row Cause.DynamicVector p.flags.dynamic_vector) (code_rows p.flags.enable_pinned_reg [] 0 p.clobbers ++ late_rows p.conv p.flags p.sizes (sets_up p)) dyn
    ∙ first_front (code_rows p.flags.enable_pinned_reg [] 0 p.clobbers) (late_rows p.conv p.flags p.sizes (sets_up p)) t h

pub late_tell : (p : PlainSheet) (o : Option Told) → p.flags.dynamic_vector ≡ false →
    first (code_rows p.flags.enable_pinned_reg [] 0 p.clobbers) ≡ None →
    ((setup : Bool) → (0 < p.sizes.incoming → setup ≡ true) → first (late_rows p.conv p.flags p.sizes setup) ≡ o) →
    first (plain_rows p) ≡ o
late_tell p o dyn h late =
    first_next (row Cause.DynamicVector p.flags.dynamic_vector) (code_rows p.flags.enable_pinned_reg [] 0 p.clobbers ++ late_rows p.conv p.flags p.sizes (sets_up p)) dyn
    ∙ first_back (code_rows p.flags.enable_pinned_reg [] 0 p.clobbers) (late_rows p.conv p.flags p.sizes (sets_up p)) h
    ∙ late (sets_up p) (incoming_sets_up p)
