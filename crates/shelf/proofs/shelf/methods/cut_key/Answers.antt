use Rattle.std.proofs.Common.{eqb, sym, ◌∙◌, rules, tests}
use Rattle.std.proofs.lemmas.Iterator.{YieldsList-from_slice}
use Rattle.std.proofs.lemmas.Iterator.Search.{position_from_yields_List}
use Rattle.shelf.specs.declared.key.Key.{Key}
use Rattle.shelf.proofs.Keys.{cut_found, cut_none}
use Rattle.shelf.proofs.shelf.methods.cut_key.Goals as goal

pub returns-in-Some-clause-items : goal.returns-in-Some-clause-items
returns-in-Some-clause-items c =
    let at = position_from_yields_List (λ (k : Key). eqb k.slot c.args.slot) _ _ c.position.result c.position.ensures.ran (YieldsList-from_slice c.args.keys.now.items cc) (λ x b q k. search (rules, tests)) in
    c.remove.ensures.items ∙ cut_found c.args.slot c.in-Some.i c.args.keys.now.items (sym at ∙ c.in-Some.is)

pub returns-in_default-clause-items : goal.returns-in_default-clause-items
returns-in_default-clause-items c =
    let at = position_from_yields_List (λ (k : Key). eqb k.slot c.args.slot) _ _ c.position.result c.position.ensures.ran (YieldsList-from_slice c.args.keys.now.items cc) (λ x b q k. search (rules, tests)) in
    cut_none c.args.slot c.args.keys.now.items (sym at ∙ c.in_default.is)
