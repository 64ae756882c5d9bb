use Rattle.std.proofs.Common.{◌≡◌, ◌-◌}
use Rattle.item_list.specs.Items.{code}
use Rattle.item_list.specs.Lists.{listed, joined}
use Rattle.steps.specs.Probes.{probe_each}
use Rattle.steps.proofs.probes.gen_probestack_unroll.Given as goal

abbrev pub invariant-loop : goal.invariant-loop
invariant-loop l =
    joined (listed l.list) (code (probe_each l.guard_size (l.probe_count - l.counter))) ≡ joined (listed l.initial.list) (code (probe_each l.guard_size l.probe_count))
