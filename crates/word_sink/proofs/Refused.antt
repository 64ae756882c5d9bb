-- A refusal that tells an index has it as its place.
use Rattle.std.proofs.Common.{◌≡◌, ℕ, Some, Option, sym, ap, ◌∙◌}
use Rattle.refusal.specs.Told.{Told, told}
use Rattle.refusal.specs.declared.Refusal.{Refusal}
use Rattle.sink.specs.Held.{beyond}

told_place : (e : Refusal) (k : ℕ) → told e ≡ beyond k → k ≡ e.place
told_place e k q = sym (ap (λ (t : Told). t.place) q)

pub late_place : (o : Option ℕ) (k : ℕ) (e : Refusal) → o ≡ Some k → told e ≡ beyond k → o ≡ Some e.place
late_place o k e p q = p ∙ ap Some (told_place e k q)

pub told_beyond : (e : Refusal) (k : ℕ) → told e ≡ beyond k → told e ≡ beyond e.place
told_beyond e k q = q ∙ ap beyond (told_place e k q)
