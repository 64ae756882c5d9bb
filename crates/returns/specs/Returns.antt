-- A function's caller loses nothing.
use Rattle.std.specs.Prelude.{◌≡◌, ℕ, ◌+◌, ◌<◌, true, List, ◌∷◌, ◌++◌, length}
use Rattle.a64.specs.declared.inst.Inst.{Inst}
use Rattle.machine.specs.Machine.{State, Core, LawfulCore, LandingPad, at, returned, Comes}
use Rattle.sheet.specs.Accepted.{Accepted}
use Rattle.sheet.specs.Plain.{PlainSheet, same}
use Rattle.sheet.specs.Saved.{saves}
use Rattle.sheet.specs.declared.types.CallConv.TheVariants.{PreserveAll}
use Rattle.sink.specs.Items.{insts_in}
use Rattle.frame.specs.Pieces.{prologue, epilogue}
use Rattle.returns.specs.Premises.{keeps_x, keeps_lo, keeps_hi, given_back, Entry, Body, last}

-- A function that was entered in e came back in u: SP, but for what it gave back, FP and every kept register are as they were.
pub record CameBack (h : PlainSheet) (e u : State) : Type 0 where
  pub sp : u.sp ≡ e.sp + given_back h
  pub fp : u.x 29 ≡ e.x 29
  pub x : (r : ℕ) → keeps_x h r ≡ true → u.x r ≡ e.x r
  pub lo : (r : ℕ) → keeps_lo h r ≡ true → u.lo r ≡ e.lo r
  pub hi : (r : ℕ) → keeps_hi h r ≡ true → u.hi r ≡ e.hi r

-- The instructions of a function.
abbrev pub opens : PlainSheet → List Inst
opens h = insts_in (prologue h)

abbrev pub closes : PlainSheet → List Inst
closes h = insts_in (epilogue h)

-- The function with these body words, somewhere in a code.
abbrev pub standing : PlainSheet → List Inst → List Inst → List Inst → List Inst
standing h words before behind = before ++ (opens h ++ (words ++ (closes h ++ behind)))

-- From the entry state e the prologue comes to its end, in some state; and whatever body runs from there, the epilogue returns to the entry LR.
abbrev pub ReturnsFrom : Core → PlainSheet → List Inst → List Inst → List Inst → State → Type 0
ReturnsFrom k h words before behind e =
    (s : State)
    × Comes k (standing h words before behind) (at (length before) e) (at (length before + length (opens h)) s)
    × ((body : List State) → Body h s body
    → (u : State)
    × Comes k (standing h words before behind) (at (length before + length (opens h) + length words) (last s body)) (returned (e.x 30) u)
    × CameBack h e u)

-- For every accepted sheet, any body words, wherever the function stands, on any lawful core, from every entry state.
abbrev pub Returns : Type 0
Returns =
    (k : Core) (h : PlainSheet) (words before behind : List Inst) (e : State)
    → LawfulCore k → Accepted h → Entry k h e → ReturnsFrom k h words before behind e

-- The kept registers are those that frames save: whatever a frame saves is kept, as wide as it is saved.
abbrev pub SavedKept : Type 0
SavedKept =
    (h : PlainSheet) (r : ℕ) → Accepted h → r < 32
    → (saves h r ≡ true → keeps_x h r ≡ true)
    × (saves h (64 + r) ≡ true → keeps_lo h r ≡ true)
    × (saves h (64 + r) ≡ true → same h.conv PreserveAll ≡ true → keeps_hi h r ≡ true)

-- With use_bti the first instruction is a landing pad.
abbrev pub Lands : Type 0
Lands =
    (h : PlainSheet) → h.flags.use_bti ≡ true
    → (i : Inst) × (rest : List Inst) × (opens h ≡ i ∷ rest) × LandingPad i
