-- Where a function starts and what its body may do.
use Rattle.std.specs.Prelude.{◌≡◌, ℕ, ◌+◌, ◌%◌, ◌^◌, ◌<◌, ◌≤◌, Bool, true, false, cond, not, ◌&&◌, ◌||◌, List, [], ◌∷◌, ◌==◌, nat_le}
use Rattle.machine.specs.Machine.{State, Core}
use Rattle.sheet.specs.Codes.{within, has}
use Rattle.sheet.specs.Plain.{PlainSheet, same}
use Rattle.sheet.specs.Saved.{clobber_size_of, sets_up, setup_size}
use Rattle.sheet.specs.declared.types.CallConv.TheVariants.{Tail, Winch, PreserveAll}
use Rattle.frame.specs.Pieces.{incoming_args_diff_of, stack_size_of}

-- The kept registers: x19 to x28 without a pinned x21, and under PreserveAll x0 to x15.
abbrev pub keeps_x : PlainSheet → ℕ → Bool
keeps_x h r =
    (within 19 28 r && not (h.flags.enable_pinned_reg && r == 21)) || (same h.conv PreserveAll && nat_le r 15)

-- The low halves of v8 to v15, and under PreserveAll of all vectors.
abbrev pub keeps_lo : PlainSheet → ℕ → Bool
keeps_lo h r = within 8 15 r || (same h.conv PreserveAll && nat_le r 31)

-- Under PreserveAll the upper halves too.
abbrev pub keeps_hi : PlainSheet → ℕ → Bool
keeps_hi h r = same h.conv PreserveAll && nat_le r 31

-- The clobbers: the codes N for xN and 64 + N for vN.
abbrev pub clobbers_x : PlainSheet → ℕ → Bool
clobbers_x h r = has h.clobbers r

abbrev pub clobbers_v : PlainSheet → ℕ → Bool
clobbers_v h r = has h.clobbers (64 + r)

-- The stack need: the frame, and with probes on 16 and the guard below it.
abbrev pub need : PlainSheet → ℕ
need h =
    setup_size h + incoming_args_diff_of h + clobber_size_of h + stack_size_of h
    + cond h.flags.inline_probes (16 + h.sizes.guard) 0

-- What the function gives back of its arguments: under Tail and Winch all of them.
abbrev pub given_back : PlainSheet → ℕ
given_back h = cond (same h.conv Tail || same h.conv Winch) h.sizes.incoming 0

-- Registers are 64-bit numbers.
pub record Words (e : State) : Type 0 where
  pub x : (r : ℕ) → r < 31 → e.x r < 2 ^ 64
  pub lo : (r : ℕ) → r < 32 → e.lo r < 2 ^ 64
  pub hi : (r : ℕ) → r < 32 → e.hi r < 2 ^ 64

-- An entry state: SP is a multiple of 16 and no less than the need, LR is below 2^48, and memory below 2^48 is mapped from SP - need to SP + incoming.
-- A function with has_pauth needs a core with checked returns.
pub record Entry (k : Core) (h : PlainSheet) (e : State) : Type 0 where
  pub words : Words e
  pub aligned : e.sp % 16 ≡ 0
  pub enough : need h ≤ e.sp
  pub below : e.sp + h.sizes.incoming ≤ 2 ^ 48
  pub link : e.x 30 < 2 ^ 48
  pub mapped : (b : ℕ) → e.sp ≤ b + need h → b < e.sp + h.sizes.incoming → e.mapped b ≡ true
  pub returns : h.flags.has_pauth ≡ true → k.checked ≡ true

-- A state of a lawful body, where s is the state after the prologue: SP, FP and the mapping are as in s, the save area and the setup pair
-- hold what they held, and without a setup pair LR is as in s.
pub record Lawful (h : PlainSheet) (s t : State) : Type 0 where
  pub sp : t.sp ≡ s.sp
  pub fp : t.x 29 ≡ s.x 29
  pub lr : sets_up h ≡ false → t.x 30 ≡ s.x 30
  pub mapped : t.mapped ≡ s.mapped
  pub bytes : (b : ℕ) → s.sp + stack_size_of h ≤ b → b < s.sp + stack_size_of h + (clobber_size_of h + setup_size h) → t.mem b ≡ s.mem b

-- b has a's kept registers outside the clobbers.
pub record Leaves (h : PlainSheet) (a b : State) : Type 0 where
  pub x : (r : ℕ) → keeps_x h r ≡ true → clobbers_x h r ≡ false → b.x r ≡ a.x r
  pub lo : (r : ℕ) → keeps_lo h r ≡ true → clobbers_v h r ≡ false → b.lo r ≡ a.lo r
  pub hi : (r : ℕ) → keeps_hi h r ≡ true → clobbers_v h r ≡ false → b.hi r ≡ a.hi r

-- Every state of a list.
abbrev pub Throughout : (State → Type 0) → List State → Type 0
Throughout P [] = Unit {0}
Throughout P (t ∷ ts) = P t × Throughout P ts

-- The last state of a list that begins with s.
abbrev pub last : State → List State → State
last s [] = s
last s (t ∷ ts) = last t ts

-- A body from s on: each state is lawful, and the last has the kept registers outside the clobbers.
pub record Body (h : PlainSheet) (s : State) (states : List State) : Type 0 where
  pub lawful : Throughout (Lawful h s) states
  pub leaves : Leaves h s (last s states)
