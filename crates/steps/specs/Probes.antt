-- Probes of the stack: one store in each guard that a frame passes over.
use Rattle.std.specs.Prelude.{ℕ, zero, suc, ◌*◌, ◌/◌, cond, List, [], ◌∷◌, ◌++◌, negsuc, Some, None, Option, ◌==◌, nat_le}
use Rattle.a64.specs.Operands.{imm12_of}
use Rattle.a64.specs.declared.imm.Imm12.{Imm12}
use Rattle.a64.specs.declared.inst.AddSub.{AddSub}
use Rattle.a64.specs.declared.inst.Inst.{Inst}
use Rattle.a64.specs.declared.inst.Inst.TheVariants.{BGt}
use Rattle.steps.specs.Adjust.{load_constant_of, sp_by_of}
use Rattle.steps.specs.Forms.{spilltmp, tmp2, probe_sp, step_down, probe_below, compare_end}

-- count probes, each a guard further down.
abbrev pub probe_each : ℕ → ℕ → List Inst
probe_each guard zero = []
probe_each guard (suc count) = sp_by_of AddSub.Sub guard ++ (probe_sp ∷ probe_each guard count)

-- Probes by hand, and SP back.
abbrev pub gen_probestack_unroll_of : ℕ → ℕ → List Inst
gen_probestack_unroll_of guard count = probe_each guard count ++ sp_by_of AddSub.Add (guard * count)

-- SUB x16 by the guard, a store at SP + x16, ADDS with the end, and B.GT three instructions back.
abbrev pub stack_probe_loop_of : Option Imm12 → List Inst
stack_probe_loop_of (Some step) = step_down step ∷ probe_below ∷ compare_end ∷ BGt (negsuc 2) ∷ []
stack_probe_loop_of None = []

-- x16 counts down from 0, and x17 is where it ends.
abbrev pub gen_probestack_loop_of : ℕ → ℕ → List Inst
gen_probestack_loop_of size guard = load_constant_of spilltmp 0 ++ (load_constant_of tmp2 size ++ stack_probe_loop_of (imm12_of guard))

-- No probes below one guard, up to three by hand, else a loop.
unfoldable pub gen_inline_probestack_of : ℕ → ℕ → List Inst
gen_inline_probestack_of size guard =
    cond (size / guard == 0) [] (cond (nat_le (size / guard) 3) (gen_probestack_unroll_of guard (size / guard)) (gen_probestack_loop_of size guard))
