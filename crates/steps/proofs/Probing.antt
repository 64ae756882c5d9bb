-- Probes, one by one or in a loop.
use Rattle.std.proofs.Common.{◌≡◌, ℕ, suc, ◌+◌, ◌-◌, ◌*◌, ◌/◌, ◌<◌, ◌≤◌, Bool, cond, leb, List, [], ◌∷◌, ◌++◌, sym, refl, ap, ◌∙◌, arith, eq-eqb, ne_eqb, le-leb}
use borrow.Author.Tests.{lt-leb}
use Rattle.a64.specs.declared.inst.AddSub.{AddSub}
use Rattle.sink.specs.declared.item.Item.{Item}
use Rattle.steps.specs.Forms.{probe_sp}
use Rattle.item_list.specs.Items.{code}
use Rattle.item_list.specs.Lists.{listed, joined, Puts}
use Rattle.steps.specs.Adjust.{sp_by_of}
use Rattle.steps.specs.Probes.{probe_each, gen_probestack_unroll_of, gen_probestack_loop_of, gen_inline_probestack_of}
use Rattle.item_list.specs.declared.ItemList.{ItemList}
use Rattle.item_list.proofs.Joins.{code_append, joined_none, onward, then, then_code}

each_more : (g m : ℕ) → code (probe_each g (suc m)) ≡ (code (sp_by_of AddSub.Sub g) ++ (Item.Inst probe_sp ∷ [])) ++ code (probe_each g m)
each_more g m = code_append (sp_by_of AddSub.Sub g) (probe_sp ∷ probe_each g m) ∙ assoc (code (sp_by_of AddSub.Sub g))
  where
    assoc : (a : List Item) → a ++ (Item.Inst probe_sp ∷ code (probe_each g m)) ≡ (a ++ (Item.Inst probe_sp ∷ [])) ++ code (probe_each g m)
    assoc [] = refl
    assoc (i ∷ a) = ap (λ (r : List Item). i ∷ r) (assoc a)

-- A turn puts one probe.
pub probe_put : (x y z : ItemList) (r : List Item) (g n i : ℕ) → i < n → joined (listed x) (code (probe_each g (n - i))) ≡ r →
    Puts x y (code (sp_by_of AddSub.Sub g)) → Puts y z (Item.Inst probe_sp ∷ []) → joined (listed z) (code (probe_each g (n - (i + 1)))) ≡ r
probe_put x y z r g n i lt inv p q =
    let e : n - i ≡ suc (n - (i + 1)) = omega arith in
    onward x z (code (sp_by_of AddSub.Sub g) ++ (Item.Inst probe_sp ∷ [])) (code (probe_each g (n - (i + 1)))) (then x y z (code (sp_by_of AddSub.Sub g)) (Item.Inst probe_sp ∷ []) p q)
    ∙ ap (joined (listed x)) (sym (each_more g (n - (i + 1))))
    ∙ ap (λ (k : ℕ). joined (listed x) (code (probe_each g k))) (sym e)
    ∙ inv

-- After the last turn SP goes back up.
pub probes_done : (w x y : ItemList) (g n i : ℕ) → n ≤ i → joined (listed x) (code (probe_each g (n - i))) ≡ joined (listed w) (code (probe_each g n)) →
    Puts x y (code (sp_by_of AddSub.Add (g * n))) → Puts w y (code (gen_probestack_unroll_of g n))
probes_done w x y g n i le inv q =
    let e : n - i ≡ 0 = omega arith in
    then_code w x y (probe_each g n) (sp_by_of AddSub.Add (g * n))
    (sym (joined_none x) ∙ ap (λ (k : ℕ). joined (listed x) (code (probe_each g k))) (sym e) ∙ inv) q

-- Which of the three it is.
pub probes_none : (size guard : ℕ) → size / guard ≡ 0 → [] ≡ gen_inline_probestack_of size guard
unfolding gen_inline_probestack_of
probes_none size guard e =
    ap (λ (b : Bool). cond b [] (cond (leb (size / guard) 3) (gen_probestack_unroll_of guard (size / guard)) (gen_probestack_loop_of size guard))) (sym (eq-eqb (size / guard) 0 e))

pub probes_few : (size guard : ℕ) → (size / guard ≡ 0 → ⊥) → size / guard ≤ 3 → gen_probestack_unroll_of guard (size / guard) ≡ gen_inline_probestack_of size guard
unfolding gen_inline_probestack_of
probes_few size guard ne le =
    ap (λ (b : Bool). cond b (gen_probestack_unroll_of guard (size / guard)) (gen_probestack_loop_of size guard)) (sym (le-leb (size / guard) 3 le))
    ∙ ap (λ (b : Bool). cond b [] (cond (leb (size / guard) 3) (gen_probestack_unroll_of guard (size / guard)) (gen_probestack_loop_of size guard))) (sym (ne_eqb (size / guard) 0 ne))

pub probes_many : (size guard : ℕ) → (size / guard ≡ 0 → ⊥) → 3 < size / guard → gen_probestack_loop_of size guard ≡ gen_inline_probestack_of size guard
unfolding gen_inline_probestack_of
probes_many size guard ne lt =
    ap (λ (b : Bool). cond b (gen_probestack_unroll_of guard (size / guard)) (gen_probestack_loop_of size guard)) (sym (lt-leb (size / guard) 3 lt))
    ∙ ap (λ (b : Bool). cond b [] (cond (leb (size / guard) 3) (gen_probestack_unroll_of guard (size / guard)) (gen_probestack_loop_of size guard))) (sym (ne_eqb (size / guard) 0 ne))

pub from_start : (xs : List Item) (g n : ℕ) → joined xs (code (probe_each g (n - 0))) ≡ joined xs (code (probe_each g n))
from_start xs g n = let e : n - 0 ≡ n = omega arith in ap (λ (k : ℕ). joined xs (code (probe_each g k))) e
