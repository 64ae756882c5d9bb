use Rattle.std.proofs.Common.{ℕ, ◌<◌, Bool, cond, List, [], ◌∷◌, ◌++◌, length, get_or, sym, refl, ap, ◌∙◌, arith, rules}
use Rattle.std.proofs.lemmas.List.{take_more, take_all, length-take}
use Rattle.std.proofs.lemmas.Bool.{lt-ltb}
use Rattle.codes.specs.Items.{items}
use Rattle.sheet.proofs.CodeSteps.{allowed_coded, kept_fits, kept_more, kept_all}
use Rattle.sheet.proofs.clobbers.check_codes.Goals as goal

pub loop-i-preserved : goal.loop-i-preserved
loop-i-preserved c =
    let code : ℕ = get_or c.args.codes.now c.loop-i.i 0 in
    let xs : List ℕ = items c.loop-i.list in
    let room : length xs < 64 = omega (
      arith,
      ap length c.loop-i.invariant.1,
      length-take c.loop-i.i c.args.codes.now,
      kept_fits c.args.pinned c.args.codes.now c.loop-i.i c.loop-i.marks code c.loop-i.invariant.0 (search rules) (search rules),
    ) in (
      kept_more _ _ _ _ _ _ c.loop-i.invariant.0 (omega arith) refl (search rules) (search rules) (c.add.ensures.there (allowed_coded c.args.pinned code (search rules))) c.add.ensures.others,
      c.push.ensures.list ∙ ap (λ (b : Bool). cond b (xs ++ code ∷ []) xs) (lt-ltb (length xs) 64 room)
          ∙ ap (λ (ys : List ℕ). ys ++ code ∷ []) c.loop-i.invariant.1 ∙ sym (take_more c.args.codes.now c.loop-i.i 0 (omega arith)),
    )

pub returns : goal.returns
returns c = (
  kept_all _ _ _ _ c.loop-i.invariant.0 (omega arith),
  c.loop-i.invariant.1 ∙ take_all c.loop-i.i c.args.codes.now (omega arith),
)
