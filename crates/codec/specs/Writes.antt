-- What is put out for a named instruction: its word, or nothing where it has none.
use Rattle.std.specs.Prelude.{◌≡◌, ℕ, Option, MatchOption}
use Rattle.a64.specs.Words.{Formed, word}
use Rattle.a64.specs.declared.inst.Inst.{Inst}

abbrev pub Writes : Inst → Option ℕ → Type 0
Writes i r = MatchOption r (Formed i → ⊥) (λ w. Formed i × (w ≡ word i))
