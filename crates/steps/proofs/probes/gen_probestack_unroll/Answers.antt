use Rattle.item_list.specs.Items.{code}
use Rattle.item_list.specs.Lists.{listed, joined}
use Rattle.steps.specs.Probes.{probe_each}
use Rattle.steps.proofs.Probing.{probe_put, probes_done}
use Rattle.steps.proofs.probes.gen_probestack_unroll.Goals as goal

pub loop-preserved : goal.loop-preserved
loop-preserved c =
    probe_put c.loop.list c.sp_by.new.list c.inst.new.self (joined (listed c.args.list.now) (code (probe_each c.args.guard_size c.args.probe_count)))
    c.args.guard_size c.args.probe_count c.loop.counter c.loop-test.true c.loop.invariant c.sp_by.ensures c.inst.ensures

pub returns : goal.returns
returns c =
    probes_done c.args.list.now c.loop.list c.sp_by-2.new.list c.args.guard_size c.args.probe_count c.loop.counter
    c.loop-test.false c.loop.invariant c.sp_by-2.ensures
