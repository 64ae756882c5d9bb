use Rattle.std.proofs.Common.{◌++◌}
use Rattle.a64.specs.Operands.{imm12_of}
use Rattle.steps.specs.Forms.{spilltmp, tmp2}
use Rattle.steps.specs.Adjust.{load_constant_of}
use Rattle.steps.specs.Probes.{stack_probe_loop_of}
use Rattle.item_list.proofs.Joins.{then_code}
use Rattle.steps.proofs.probes.gen_probestack_loop.Goals as goal

pub returns : goal.returns
returns c =
    then_code c.args.list.now c.load_constant.new.list c.stack_probe_loop.new.list (load_constant_of spilltmp 0)
    (load_constant_of tmp2 c.args.frame_size ++ stack_probe_loop_of (imm12_of c.args.guard_size)) c.load_constant.ensures
    (then_code c.load_constant.new.list c.load_constant-2.new.list c.stack_probe_loop.new.list (load_constant_of tmp2 c.args.frame_size) (stack_probe_loop_of (imm12_of c.args.guard_size))
    c.load_constant-2.ensures c.stack_probe_loop.ensures)
