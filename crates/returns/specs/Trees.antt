-- Trees of calls: functions that stand in one code call one another, and each call comes back.
use Rattle.std.specs.Prelude.{◌≡◌, ℕ, ◌+◌, ◌-◌, ◌<◌, ◌≤◌, true, false, ◌≢◌, ◌⊎◌, List, length}
use Rattle.a64.specs.declared.inst.Inst.{Inst}
use Rattle.machine.specs.Machine.{State, Core, LawfulCore, at, returned, Comes, with_sp}
use Rattle.sheet.specs.Accepted.{Accepted}
use Rattle.sheet.specs.Plain.{PlainSheet, alike}
use Rattle.sheet.specs.declared.types.FunctionCalls.{FunctionCalls}
use Rattle.frame.specs.Pieces.{stack_size_of}
use Rattle.returns.specs.Premises.{keeps_x, keeps_lo, keeps_hi, clobbers_x, clobbers_v, need, given_back, Entry, Lawful, Leaves}
use Rattle.returns.specs.Returns.{CameBack, opens, standing}

-- A function: its sheet, its body words, and the index of its first instruction.
pub record Fun : Type 0 where
  pub sheet : PlainSheet
  pub words : List Inst
  pub place : ℕ

-- The index of its first body word.
abbrev pub body_at : Fun → ℕ
body_at f = f.place + length (opens f.sheet)

-- The index of its epilogue.
abbrev pub epilogue_at : Fun → ℕ
epilogue_at f = body_at f + length f.words

-- It stands in the code, and its sheet is accepted.
pub record Stands (code : List Inst) (f : Fun) : Type 0 where
  pub before : List Inst
  pub behind : List Inst
  pub place : length before ≡ f.place
  pub text : code ≡ standing f.sheet f.words before behind
  pub accepted : Accepted f.sheet

-- An own step of f from a to b, where s is the state after the prologue: it is lawful, keeps the kept registers outside the clobbers, and
-- writes in the tree's stretch, which is from low to high, only the fixed and outgoing bytes and the tail bytes above the setup pair.
pub record Own (low high : ℕ) (h : PlainSheet) (s a b : State) : Type 0 where
  pub lawful : Lawful h s b
  pub leaves : Leaves h a b
  pub writes : (c : ℕ) → low ≤ c → c < high
      → (c < s.sp) ⊎ (s.sp + stack_size_of h ≤ c)
      → (c < s.x 29 + 16) ⊎ (s.x 29 + 16 + h.sizes.tail ≤ c)
      → b.mem c ≡ a.mem c

-- f in the state a calls g, which is entered in e: only Regular functions call; the arguments fit; e is an entry state of g and is a but for LR
-- (its flags may be any); and g keeps, as wide, what f keeps and does not clobber.
pub record Calls (k : Core) (code : List Inst) (low : ℕ) (f g : Fun) (a e : State) : Type 0 where
  pub stands : Stands code g
  pub regular : alike f.sheet.calls FunctionCalls.Regular ≡ true
  pub fits : g.sheet.sizes.incoming ≤ f.sheet.sizes.outgoing
  pub entry : Entry k g.sheet e
  pub stretch : low + need g.sheet ≤ e.sp
  pub x : (r : ℕ) → r ≢ 30 → e.x r ≡ a.x r
  pub sp : e.sp ≡ a.sp
  pub lo : e.lo ≡ a.lo
  pub hi : e.hi ≡ a.hi
  pub mem : e.mem ≡ a.mem
  pub mapped : e.mapped ≡ a.mapped
  pub keeps_x : (r : ℕ) → keeps_x f.sheet r ≡ true → clobbers_x f.sheet r ≡ false → keeps_x g.sheet r ≡ true
  pub keeps_lo : (r : ℕ) → keeps_lo f.sheet r ≡ true → clobbers_v f.sheet r ≡ false → keeps_lo g.sheet r ≡ true
  pub keeps_hi : (r : ℕ) → keeps_hi f.sheet r ≡ true → clobbers_v f.sheet r ≡ false → keeps_hi g.sheet r ≡ true

-- The caller's state after a call of g that came back in u: SP lowered by what g gave back.
abbrev pub resumed : PlainSheet → State → State
resumed h u = with_sp (u.sp - given_back h) u

-- What happens in a body: it ends, or there is an own step, or a call with what happens in it; and so on.
pub data Tree : Type 0 where
  end : Tree
  own : Tree → Tree
  call : Fun → Tree → Tree → Tree

-- From the state a in the body of f (entered in e, s after the prologue), whatever steps by the rules make up the tree:
-- each call in it comes back, this one too, and then K holds of the state.
abbrev pub Runs : Core → List Inst → ℕ → ℕ → Fun → State → State → State → Tree → (State → Type 0) → Type 0
Runs k code low high f e s a end K =
    (u : State) × Comes k code (at (epilogue_at f) a) (returned (e.x 30) u) × CameBack f.sheet e u × K u
Runs k code low high f e s a (own rest) K = (b : State) → Own low high f.sheet s a b → Runs k code low high f e s b rest K
Runs k code low high f e s a (call g inside rest) K =
    (e' : State) → Calls k code low f g a e'
    → (s' : State)
    × Comes k code (at g.place e') (at (body_at g) s')
    × Runs k code low high g e' s' s' inside (λ u. Runs k code low high f e s (resumed g.sheet u) rest K)

-- At the root and at every call of every finite tree, on any lawful core, whichever functions stand in the code.
abbrev pub TreesReturn : Type 0
TreesReturn =
    (k : Core) (code : List Inst) (low : ℕ) (f : Fun) (e : State) (tree : Tree)
    → LawfulCore k → Stands code f → Entry k f.sheet e → low + need f.sheet ≤ e.sp
    → (s : State)
    × Comes k code (at f.place e) (at (body_at f) s)
    × Runs k code low (e.sp + f.sheet.sizes.incoming) f e s s tree (λ u. Unit {0})
