-- SP by an amount.
use Rattle.std.proofs.Common.{◌≡◌, ℕ, Bool, cond, [], Option, sym, ap, ◌∙◌, eq-eqb, ne_eqb}
use Rattle.a64.specs.Operands.{imm12_of}
use Rattle.a64.specs.declared.imm.Imm12.{Imm12}
use Rattle.a64.specs.declared.inst.AddSub.{AddSub}
use Rattle.steps.specs.Adjust.{sp_by_of, sp_by_imm}

pub sp_none : (op : AddSub) (n : ℕ) → n ≡ 0 → [] ≡ sp_by_of op n
unfolding sp_by_of
sp_none op n e = ap (λ (b : Bool). cond b [] (sp_by_imm op n (imm12_of n))) (sym (eq-eqb n 0 e))

pub sp_some : (op : AddSub) (n : ℕ) (o : Option Imm12) → (n ≡ 0 → ⊥) → o ≡ imm12_of n → sp_by_imm op n o ≡ sp_by_of op n
unfolding sp_by_of
sp_some op n o ne e =
    ap (sp_by_imm op n) e ∙ ap (λ (b : Bool). cond b [] (sp_by_imm op n (imm12_of n))) (sym (ne_eqb n 0 ne))
