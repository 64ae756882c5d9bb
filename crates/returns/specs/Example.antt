-- Three functions in one code, the first calls the second and the second calls the third, which is of the Tail convention.
use Rattle.std.specs.Prelude.{◌≡◌, ℕ, ◌+◌, ◌^◌, true, false, List, [], ◌∷◌, ◌++◌, length}
use Rattle.a64.specs.declared.inst.Inst.{Inst}
use Rattle.machine.specs.Cores.{sealing}
use Rattle.machine.specs.Machine.{State, Point, at, returned, stopped, run, Comes, put, with_x, with_v, with_mem, store}
use Rattle.sheet.specs.Plain.{PlainSheet}
use Rattle.sheet.specs.declared.types.CallConv.{CallConv}
use Rattle.sheet.specs.declared.types.FunctionCalls.{FunctionCalls}
use Rattle.returns.specs.Premises.{Entry}
use Rattle.returns.specs.Returns.{opens, closes}
use Rattle.returns.specs.Trees.{Fun, body_at, epilogue_at, Stands, Own, Calls, resumed}

-- Return addresses are sealed with key B and checked, there are landing pads, and notes.
abbrev pub sheet_with : CallConv → FunctionCalls → ℕ → ℕ → ℕ → ℕ → List ℕ → PlainSheet
sheet_with conv calls incoming tail fixed outgoing clobbers =
    record {
      number = 1;
      conv = conv;
      calls = calls;
      flags =
          record {
            preserve_frame_pointers = false;
            enable_pinned_reg = false;
            unwind_info = true;
            enable_compact_unwind_abi = false;
            use_bti = true;
            sign_return_address = true;
            sign_return_address_all = true;
            sign_return_address_with_bkey = true;
            has_pauth = true;
            inline_probes = false;
            dynamic_vector = false;
          };
      sizes = record { incoming = incoming; tail = tail; stackslots = 0; fixed = fixed; outgoing = outgoing; guard = 0 };
      clobbers = clobbers;
    }

unfoldable pub root_sheet : PlainSheet
root_sheet = sheet_with CallConv.SystemV FunctionCalls.Regular 0 0 32 16 (19 ∷ [])

unfoldable pub mid_sheet : PlainSheet
mid_sheet = sheet_with CallConv.AppleAarch64 FunctionCalls.Regular 0 0 0 32 (20 ∷ 72 ∷ [])

unfoldable pub leaf_sheet : PlainSheet
leaf_sheet = sheet_with CallConv.Tail FunctionCalls.None 16 48 16 0 (21 ∷ 22 ∷ 23 ∷ [])

-- They stand one behind the other, without body words: their bodies are steps of the states alone.
unfoldable pub root : Fun
root = record { sheet = root_sheet; words = []; place = 0 }

unfoldable pub mid : Fun
mid = record { sheet = mid_sheet; words = []; place = length (opens root_sheet ++ closes root_sheet) }

unfoldable pub leaf : Fun
leaf = record { sheet = leaf_sheet; words = []; place = length (opens root_sheet ++ (closes root_sheet ++ (opens mid_sheet ++ closes mid_sheet))) }

unfoldable pub text : List Inst
text = opens root_sheet ++ (closes root_sheet ++ (opens mid_sheet ++ (closes mid_sheet ++ (opens leaf_sheet ++ closes leaf_sheet))))

-- Where the root is entered: the integer registers differ.
unfoldable pub start : State
start =
    record {
      x = λ r. 1000 + r;
      sp = 2 ^ 20;
      lo = λ r. 2008;
      hi = λ r. 3008;
      flags = record { n = false; z = false; c = false; v = false };
      mem = λ a. 7;
      mapped = λ a. true;
    }

-- The state of a point.
abbrev pub state_of : Point → State
state_of (at p s) = s
state_of (returned a s) = s
state_of stopped = start

-- The state after a prologue, and the point after an epilogue.
abbrev pub opened : Fun → State → State
opened f e = state_of (run (length (opens f.sheet)) sealing text (at f.place e))

abbrev pub closed : Fun → State → Point
closed f t = run (length (closes f.sheet)) sealing text (at (epilogue_at f) t)

-- A body that changes x r, and a call that leaves its return address in LR.
abbrev pub changing : ℕ → State → State
changing r s = with_x (put r 77 s.x) s

abbrev pub calling : ℕ → State → State
calling a s = with_x (put 30 a s.x) s

-- The root's body changes x19 and calls the middle one.
unfoldable pub root_open : State
root_open = opened root start

unfoldable pub root_body : State
root_body = changing 19 root_open

unfoldable pub mid_entry : State
mid_entry = calling 5000 root_body

-- The middle one's body changes x20 and v8, and calls the leaf.
unfoldable pub mid_open : State
mid_open = opened mid mid_entry

unfoldable pub mid_body : State
mid_body = with_v (put 8 99 mid_open.lo) mid_open.hi (changing 20 mid_open)

unfoldable pub leaf_entry : State
leaf_entry = calling 6000 mid_body

-- The leaf's body changes x21, x22 and x23, and writes the first of its tail bytes, which are 16 above FP.
unfoldable pub leaf_open : State
leaf_open = opened leaf leaf_entry

unfoldable pub leaf_body : State
leaf_body = with_mem (store 8 1048384 5 leaf_open.mem) (changing 21 (changing 22 (changing 23 leaf_open)))

-- Back through all three.
unfoldable pub leaf_back : Point
leaf_back = closed leaf leaf_body

unfoldable pub mid_back : Point
mid_back = closed mid (resumed leaf_sheet (state_of leaf_back))

unfoldable pub root_back : Point
root_back = closed root (resumed mid_sheet (state_of mid_back))

-- Where a point has returned to, SP, FP, x19 to x23 and the low half of v8.
abbrev pub seen : Point → List ℕ
seen (at p s) = []
seen (returned a u) = a ∷ u.sp ∷ u.x 29 ∷ u.x 19 ∷ u.x 20 ∷ u.x 21 ∷ u.x 22 ∷ u.x 23 ∷ u.lo 8 ∷ []
seen stopped = []

-- The run of the whole tree on the sealing core, by computing, comes back to the root's caller as it was entered.
abbrev pub ThreeDeep : Type 0
ThreeDeep = seen root_back ≡ 1030 ∷ 2 ^ 20 ∷ 1029 ∷ 1019 ∷ 1020 ∷ 1021 ∷ 1022 ∷ 1023 ∷ 2008 ∷ []

-- The tree's stretch: the leaf's need below its entry SP, and the root's SP.
abbrev pub low : ℕ
low = 1048320

abbrev pub high : ℕ
high = 2 ^ 20

-- Each step of it keeps the rules, and each prologue comes to the state that its body starts in.
pub record RulesKept : Type 0 where
  pub root_stands : Stands text root
  pub root_entry : Entry sealing root_sheet start
  pub root_opens : Comes sealing text (at root.place start) (at (body_at root) root_open)
  pub root_step : Own low high root_sheet root_open root_open root_body
  pub mid_call : Calls sealing text low root mid root_body mid_entry
  pub mid_opens : Comes sealing text (at mid.place mid_entry) (at (body_at mid) mid_open)
  pub mid_step : Own low high mid_sheet mid_open mid_open mid_body
  pub leaf_call : Calls sealing text low mid leaf mid_body leaf_entry
  pub leaf_opens : Comes sealing text (at leaf.place leaf_entry) (at (body_at leaf) leaf_open)
  pub leaf_step : Own low high leaf_sheet leaf_open leaf_open leaf_body
