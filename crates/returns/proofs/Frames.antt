-- A frame with its parts apart, and the instructions of its prologue and its epilogue: what the lemmas speak of.
use Rattle.std.proofs.Common.{ℕ, ◌+◌, Bool, cond, not, ◌&&◌, eqb, List, [], ◌∷◌, ◌++◌, Some, None, Option}
use Rattle.a64.specs.Operands.{imm12_of}
use Rattle.a64.specs.declared.inst.AddSub.{AddSub}
use Rattle.a64.specs.declared.inst.ApiKey.{ApiKey}
use Rattle.a64.specs.declared.inst.Inst.{Inst}
use Rattle.a64.specs.declared.inst.Inst.TheVariants.{Paci, BtiC, Ret}
use Rattle.layout.specs.Slots.{Slot, pair_x}
use Rattle.frame.specs.Forms.{mov_fp_sp_of, store_fp_lr}
use Rattle.steps.specs.Forms.{reg}
use Rattle.frame.specs.Pieces.{with_sp, tail_reload_of, push, pop, authenticated_ret_of}
use Rattle.steps.specs.Adjust.{load_constant_of, sp_by_of}
use Rattle.steps.specs.Probes.{gen_inline_probestack_of, probe_each, stack_probe_loop_of}

-- The first slot of the list lies lowest, so it is pushed last and popped first.
abbrev pub pushes : List Slot → List Inst
pushes [] = []
pushes (σ ∷ R) = pushes R ++ (push σ ∷ [])

abbrev pub pops : List Slot → List Inst
pops [] = []
pops (σ ∷ R) = pop σ ∷ pops R

abbrev pub bytes : List Slot → ℕ
bytes [] = 0
bytes (σ ∷ R) = 16 + bytes R

abbrev pub constant : ℕ → ℕ → List Inst
constant d n = load_constant_of (reg d) n

abbrev pub lower : ℕ → List Inst
lower n = sp_by_of AddSub.Sub n

abbrev pub raise : ℕ → List Inst
raise n = sp_by_of AddSub.Add n

abbrev pub probe_loop : ℕ → List Inst
probe_loop g = stack_probe_loop_of (imm12_of g)

abbrev pub unrolled : ℕ → ℕ → List Inst
unrolled g c = probe_each g c

abbrev pub probes : ℕ → ℕ → List Inst
probes p g = gen_inline_probestack_of p g

-- A frame: what its code depends on.
pub record Frame : Type 0 where
  pub setup : Bool
  pub seal : Option ApiKey
  pub bti : Bool
  pub pauth : Bool
  pub size : ℕ
  pub guard : ℕ
  pub grow : ℕ
  pub slots : List Slot
  pub area : ℕ
  pub given : ℕ

abbrev pub landing : Option ApiKey → Bool → List Inst
landing None bti = cond bti (BtiC ∷ []) []
landing (Some q) bti = cond (bti && not (with_sp q.modifier)) (BtiC ∷ []) [] ++ (Paci q.key q.modifier ∷ [])

abbrev pub pair : Slot
pair = pair_x 29 30

abbrev pub set_up : Bool → List Inst
set_up b = cond b (push pair ∷ mov_fp_sp_of ∷ []) []

-- The guard is 0 where there are no probes.
abbrev pub probing : ℕ → ℕ → List Inst
probing p g = cond (eqb g 0) [] (probes p g)

abbrev pub reload : ℕ → List Inst
reload n = tail_reload_of n

abbrev pub resize : ℕ → List Inst
resize n = cond (eqb n 0) [] (lower n ++ (reload n ++ (store_fp_lr ∷ mov_fp_sp_of ∷ [])))

abbrev pub prologue : Frame → List Inst
prologue f =
    landing f.seal f.bti
    ++ (set_up f.setup ++ (probing f.size f.guard ++ (resize f.grow ++ (pushes f.slots ++ lower f.area))))

-- All that the frame saves, from the lowest address up.
abbrev pub saves : Frame → List Slot
saves f = f.slots ++ cond f.setup (pair ∷ []) []

abbrev pub returning : Option ApiKey → Bool → List Inst
returning None pauth = Ret ∷ []
returning (Some q) pauth = authenticated_ret_of q (not pauth)

abbrev pub epilogue : Frame → List Inst
epilogue f = raise f.area ++ (pops (saves f) ++ (raise (f.grow + f.given) ++ returning f.seal f.pauth))
