-- What it is to put a piece on a sink.
use Rattle.std.specs.Prelude.{◌≡◌, ℕ, true, false, Result, MatchResult}
use Rattle.refusal.specs.Told.{Told, told}
use Rattle.refusal.specs.declared.Refusal.{Refusal}
use Rattle.sheet.specs.Refused.{unfit_guard}
use Rattle.sink.specs.Held.{Held, Prices}
use Rattle.sink.specs.Items.{PutPiece}
use Rattle.item_list.specs.Items.{code}
use Rattle.steps.specs.Probes.{gen_inline_probestack_of}

-- What a bad guard is told.
abbrev pub guard_refusal : Told
guard_refusal = record { number = 9; layer = 1; place = 0 }

-- Putting probes: a bad guard is refused first, and changes nothing.
pub record PutProbes (p : Prices) (old : Held) (size guard : ℕ) (new : Held) (r : Result Unit Refusal) : Type 0 where
  pub bad : unfit_guard guard ≡ true → MatchResult r (λ _. ⊥) (λ e. (new ≡ old) × (told e ≡ guard_refusal))
  pub good : unfit_guard guard ≡ false → PutPiece p old (code (gen_inline_probestack_of size guard)) new r
