-- What a sound frame owes, over its parts.
use Rattle.std.proofs.Common.{◌≡◌, ℕ, zero, suc, ◌+◌, ◌%◌, ◌^◌, ◌<◌, ◌≤◌, true, false, cond, ◌≢◌, ◌⊎◌, List, [], ◌∷◌, Some, None, Option}
use Rattle.machine.specs.Machine.{State, Core}
use Rattle.a64.specs.declared.inst.ApiKey.{ApiKey}
use Rattle.layout.specs.Slots.{Slot, pair_x, one_x, pair_d, one_d, one_q}
use Rattle.frame.specs.Pieces.{with_sp}
use Rattle.returns.specs.Premises.{Words}
use Rattle.returns.proofs.Frames.{bytes, Frame, saves}

-- Which registers a slot saves: integers, low halves, upper halves.
abbrev pub InX : Slot → ℕ → Type 0
InX (pair_x t u) r = (r ≡ t) ⊎ (r ≡ u)
InX (one_x t) r = r ≡ t
InX (pair_d t u) r = ⊥
InX (one_d t) r = ⊥
InX (one_q t) r = ⊥

abbrev pub InLo : Slot → ℕ → Type 0
InLo (pair_x t u) r = ⊥
InLo (one_x t) r = ⊥
InLo (pair_d t u) r = (r ≡ t) ⊎ (r ≡ u)
InLo (one_d t) r = r ≡ t
InLo (one_q t) r = r ≡ t

abbrev pub InHi : Slot → ℕ → Type 0
InHi (pair_x t u) r = ⊥
InHi (one_x t) r = ⊥
InHi (pair_d t u) r = ⊥
InHi (one_d t) r = ⊥
InHi (one_q t) r = r ≡ t

abbrev pub Any : (Slot → ℕ → Type 0) → List Slot → ℕ → Type 0
Any P [] r = ⊥
Any P (σ ∷ R) r = P σ r ⊎ Any P R r

-- No slot of low halves alone: upper halves are kept too.
abbrev pub Wide : Slot → Type 0
Wide (pair_x t u) = Unit {0}
Wide (one_x t) = Unit {0}
Wide (pair_d t u) = ⊥
Wide (one_d t) = ⊥
Wide (one_q t) = Unit {0}

abbrev pub AllWide : List Slot → Type 0
AllWide [] = Unit {0}
AllWide (σ ∷ R) = Wide σ × AllWide R

abbrev pub Savable : ℕ → Type 0
Savable r = (r < 29) × (r ≢ 16) × (r ≢ 17)

abbrev pub Good : Slot → Type 0
Good (pair_x t u) = Savable t × Savable u
Good (one_x t) = Savable t
Good (pair_d t u) = (t < 32) × (u < 32)
Good (one_d t) = t < 32
Good (one_q t) = t < 32

abbrev pub GoodAll : List Slot → Type 0
GoodAll [] = Unit {0}
GoodAll (σ ∷ R) = Good σ × GoodAll R

abbrev pub setup_size : Frame → ℕ
setup_size f = cond f.setup 16 0

abbrev pub probe_need : ℕ → ℕ
probe_need zero = 0
probe_need (suc g) = 16 + suc g

-- The stack need.
abbrev pub need : Frame → ℕ
need f = setup_size f + f.grow + bytes f.slots + f.area + probe_need f.guard

abbrev pub Guarded : Frame → Type 0
Guarded f =
    (f.guard ≡ 0)
    ⊎ ((16 ≤ f.guard) × (f.guard % 16 ≡ 0) × (f.guard < 2 ^ 24) × ((f.guard < 4096) ⊎ (f.guard % 4096 ≡ 0))
    × (f.size ≤ 16 + f.grow + bytes f.slots + f.area))

abbrev pub Keyed : Option ApiKey → ℕ → Type 0
Keyed None given = Unit {0}
Keyed (Some q) given = with_sp q.modifier ≡ true → given ≡ 0

-- What layout and refusals give of a frame.
pub record Sound (f : Frame) : Type 0 where
  pub good : GoodAll f.slots
  pub few : bytes f.slots < 2 ^ 12
  pub grow16 : f.grow % 16 ≡ 0
  pub area16 : f.area % 16 ≡ 0
  pub given16 : f.given % 16 ≡ 0
  pub sum : f.grow + f.given + f.area ≤ 2 ^ 30
  pub bare : f.setup ≡ false → (f.slots ≡ []) × (f.grow ≡ 0)
  pub guarded : Guarded f
  pub keyed : Keyed f.seal f.given

-- An entry state.
pub record Entry (k : Core) (f : Frame) (e : State) : Type 0 where
  pub words : Words e
  pub aligned : e.sp % 16 ≡ 0
  pub enough : need f ≤ e.sp
  pub small : e.sp + f.given ≤ 2 ^ 48
  pub link : e.x 30 < 2 ^ 48
  pub mapped : (b : ℕ) → e.sp ≤ b + need f → b < e.sp + f.given → e.mapped b ≡ true
  pub returns : f.pauth ≡ true → k.checked ≡ true

-- A state of a lawful body, where s is the state after the prologue.
pub record Lawful (f : Frame) (s t : State) : Type 0 where
  pub sp : t.sp ≡ s.sp
  pub fp : t.x 29 ≡ s.x 29
  pub lr : f.setup ≡ false → t.x 30 ≡ s.x 30
  pub mapped : t.mapped ≡ s.mapped
  pub bytes : (b : ℕ) → s.sp + f.area ≤ b → b < s.sp + f.area + bytes (saves f) → t.mem b ≡ s.mem b

-- After the return: SP, FP, every saved register, and every other register that the body left as it was after the prologue.
pub record Restored (f : Frame) (e s t u : State) : Type 0 where
  pub sp : u.sp ≡ e.sp + f.given
  pub fp : u.x 29 ≡ e.x 29
  pub saved_x : (r : ℕ) → Any InX f.slots r → u.x r ≡ e.x r
  pub saved_lo : (r : ℕ) → Any InLo f.slots r → u.lo r ≡ e.lo r
  pub saved_hi : AllWide f.slots → (r : ℕ) → Any InHi f.slots r → u.hi r ≡ e.hi r
  pub mem : u.mem ≡ t.mem
  pub mapped : u.mapped ≡ t.mapped
  pub left_x : (r : ℕ) → Savable r → t.x r ≡ s.x r → u.x r ≡ e.x r
  pub left_lo : (r : ℕ) → t.lo r ≡ s.lo r → u.lo r ≡ e.lo r
  pub left_hi : AllWide f.slots → (r : ℕ) → t.hi r ≡ s.hi r → u.hi r ≡ e.hi r
