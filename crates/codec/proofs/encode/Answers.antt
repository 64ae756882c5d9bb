use Rattle.std.proofs.Common.{◌≡◌, ℕ, Ok, Option, None, Some, MatchOption, ap, ◌∙◌}
use Rattle.std.specs.Option.{ok_or}
use Rattle.a64.specs.Words.{Reads}
use Rattle.a64.specs.declared.inst.Inst.{Inst}
use Rattle.decoder.proofs.Laws.{one_word}
use Rattle.codec.proofs.encode.Goals as goal

-- what is some word's reading gives that word
gives : {E : Type 0} (i : Inst) (o : Option ℕ) (e : E) → MatchOption o ((w : ℕ) → Reads w i → ⊥) (λ w. Reads w i) → (w : ℕ) → Reads w i → ok_or o e ≡ Ok w
gives i None e n w r = absurd (n w r)
gives i (Some v) e p w r = ap Ok (one_word i v w p r)

pub returns-clause-gives : goal.returns-clause-gives
returns-clause-gives c w r = c.ok_or.ensures.value ∙ gives c.args.i c.word_of.result _ c.word_of.ensures w r
