use Rattle.std.proofs.Common.{[], ◌∷◌, negsuc, Some, ap}
use Rattle.a64.specs.Operands.{imm12_of}
use Rattle.a64.specs.declared.inst.Inst.TheVariants.{BGt}
use Rattle.sink.specs.declared.item.Item.{Item}
use Rattle.steps.specs.Forms.{step_down, probe_below, compare_end}
use Rattle.item_list.specs.Items.{code}
use Rattle.steps.specs.Probes.{stack_probe_loop_of}
use Rattle.item_list.proofs.Joins.{nothing, renamed, then}
use Rattle.steps.proofs.probes.stack_probe_loop.Goals as goal

pub returns-in-Some : goal.returns-in-Some
returns-in-Some c =
    renamed c.args.list.now c.inst-in-Some-3.new.self (code (stack_probe_loop_of (Some c.in-Some.step))) (code (stack_probe_loop_of (imm12_of c.args.guard_size)))
    (ap (λ o. code (stack_probe_loop_of o)) c.in-Some.ensures)
    (then c.args.list.now c.inst.new.self c.inst-in-Some-3.new.self (Item.Inst (step_down c.in-Some.step) ∷ []) (Item.Inst probe_below ∷ Item.Inst compare_end ∷ Item.Inst (BGt (negsuc 2)) ∷ [])
    c.inst.ensures
    (then c.inst.new.self c.inst-in-Some.new.self c.inst-in-Some-3.new.self (Item.Inst probe_below ∷ []) (Item.Inst compare_end ∷ Item.Inst (BGt (negsuc 2)) ∷ [])
    c.inst-in-Some.ensures
    (then c.inst-in-Some.new.self c.inst-in-Some-2.new.self c.inst-in-Some-3.new.self (Item.Inst compare_end ∷ []) (Item.Inst (BGt (negsuc 2)) ∷ [])
    c.inst-in-Some-2.ensures c.inst-in-Some-3.ensures)))

pub returns-in_default : goal.returns-in_default
returns-in_default c =
    nothing c.args.list.now (code (stack_probe_loop_of (imm12_of c.args.guard_size))) (ap (λ o. code (stack_probe_loop_of o)) c.in_default.ensures)
