-- The first instruction is a landing pad.
use Rattle.std.proofs.Common.{◌≡◌, true, cond, not, ◌&&◌, List, [], ◌∷◌, ◌++◌, Some, None, Option, sym, refl, ap, ◌∙◌, subst, inl, inr}
use Rattle.a64.specs.declared.inst.ApiKey.{ApiKey}
use Rattle.a64.specs.declared.inst.Key.{Key}
use Rattle.a64.specs.declared.inst.Modifier.{Modifier}
use Rattle.a64.specs.declared.inst.Inst.{Inst}
use Rattle.a64.specs.declared.inst.Inst.TheVariants.{Paci, BtiC}
use Rattle.machine.specs.Machine.{LandingPad}
use Rattle.sink.specs.Items.{insts_in}
use Rattle.frame.specs.Pieces.{with_sp, select_api_key_of, sealed, prologue}
use Rattle.sink.specs.declared.item.Item.{Item}
use Rattle.returns.specs.Returns.{Lands}
use Rattle.returns.proofs.Frames.{landing}
use Rattle.returns.proofs.Texts.{insts-++, sealed_insts}

abbrev Pad : List Inst → Type 0
Pad is = (i : Inst) × (rest : List Inst) × (is ≡ i ∷ rest) × LandingPad i

pad-++ : (is js : List Inst) → Pad is → Pad (is ++ js)
pad-++ is js p = (p.0, p.1 ++ js, ap (λ z. z ++ js) p.2, p.3)

key_pad : (key : Key) (m : Modifier) → Pad (cond (true && not (with_sp m)) (BtiC ∷ []) [] ++ (Paci key m ∷ []))
key_pad key Modifier.Zero = (BtiC, Paci key Modifier.Zero ∷ [], refl, inl refl)
key_pad key Modifier.Sp = (Paci key Modifier.Sp, [], refl, inr (key, refl))

landing_pad : (q : Option ApiKey) → Pad (landing q true)
landing_pad None = (BtiC, [], refl, inl refl)
landing_pad (Some q) = key_pad q.key q.modifier

first_part : (xs ys zs : List Item) → Pad (insts_in xs) → Pad (insts_in ((xs ++ ys) ++ zs))
first_part xs ys zs p =
    subst Pad (sym (insts-++ (xs ++ ys) zs))
    (pad-++ (insts_in (xs ++ ys)) (insts_in zs) (subst Pad (sym (insts-++ xs ys)) (pad-++ (insts_in xs) (insts_in ys) p)))

pub lands : Lands
unfolding prologue
lands h b =
    first_part (sealed h (select_api_key_of h)) _ _
    (subst Pad (sym (sealed_insts h (select_api_key_of h) ∙ ap (landing (select_api_key_of h)) b)) (landing_pad (select_api_key_of h)))
