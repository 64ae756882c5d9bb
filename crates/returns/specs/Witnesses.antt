-- The premises can be met.
use Rattle.std.specs.Prelude.{◌≡◌, ℕ, true, ◌≢◌, [], ◌∷◌}
use Rattle.machine.specs.Machine.{State, Core}
use Rattle.sheet.specs.Accepted.{Accepted}
use Rattle.sheet.specs.Plain.{PlainSheet}
use Rattle.returns.specs.Premises.{clobbers_x, clobbers_v, Entry, Body}

-- Every accepted sheet has an entry state, on a core with the returns that it asks for.
abbrev pub Enterable : Type 0
Enterable =
    (k : Core) (h : PlainSheet) → Accepted h → (h.flags.has_pauth ≡ true → k.checked ≡ true) → (e : State) × Entry k h e

-- From every state there is a body that changes every clobber.
abbrev pub Clobberable : Type 0
Clobberable =
    (h : PlainSheet) (s : State) → Accepted h
    → (t : State)
    × Body h s (t ∷ [])
    × ((r : ℕ) → clobbers_x h r ≡ true → t.x r ≢ s.x r)
    × ((r : ℕ) → clobbers_v h r ≡ true → (t.lo r ≢ s.lo r) × (t.hi r ≢ s.hi r))
