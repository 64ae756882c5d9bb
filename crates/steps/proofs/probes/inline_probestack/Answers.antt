use Rattle.std.proofs.Common.{ℕ, ◌/◌, ap, ◌∙◌}
use native.Mathlib.Nat.{div-zero}
use Rattle.item_list.specs.Items.{code}
use Rattle.steps.specs.Probes.{gen_inline_probestack_of, gen_probestack_unroll_of, gen_probestack_loop_of}
use Rattle.item_list.proofs.Joins.{nothing, renamed}
use Rattle.steps.proofs.Probing.{probes_none, probes_few, probes_many}
use Rattle.steps.proofs.probes.inline_probestack.Goals as goal

pub returns-then-guard_size-eq0 : goal.returns-then-guard_size-eq0
returns-then-guard_size-eq0 c =
    nothing c.args.list.now (code (gen_inline_probestack_of c.args.frame_size c.args.guard_size))
    (ap code (probes_none c.args.frame_size c.args.guard_size (ap (λ (n : ℕ). c.args.frame_size / n) c.if-guard_size-eq0.true ∙ div-zero c.args.frame_size)))

pub returns-then-probe_count-eq0 : goal.returns-then-probe_count-eq0
returns-then-probe_count-eq0 c =
    nothing c.args.list.now (code (gen_inline_probestack_of c.args.frame_size c.args.guard_size))
    (ap code (probes_none c.args.frame_size c.args.guard_size c.if-probe_count-eq0.true))

pub returns-then-probe_count-le-PROBE_MAX_UNROLL : goal.returns-then-probe_count-le-PROBE_MAX_UNROLL
returns-then-probe_count-le-PROBE_MAX_UNROLL c =
    renamed c.args.list.now c.gen_probestack_unroll.new.list (code (gen_probestack_unroll_of c.args.guard_size (c.args.frame_size / c.args.guard_size)))
    (code (gen_inline_probestack_of c.args.frame_size c.args.guard_size))
    (ap code (probes_few c.args.frame_size c.args.guard_size c.if-probe_count-eq0.false c.if-probe_count-le-PROBE_MAX_UNROLL.true))
    c.gen_probestack_unroll.ensures

pub returns-else-probe_count-le-PROBE_MAX_UNROLL : goal.returns-else-probe_count-le-PROBE_MAX_UNROLL
returns-else-probe_count-le-PROBE_MAX_UNROLL c =
    renamed c.args.list.now c.gen_probestack_loop.new.list (code (gen_probestack_loop_of c.args.frame_size c.args.guard_size))
    (code (gen_inline_probestack_of c.args.frame_size c.args.guard_size))
    (ap code (probes_many c.args.frame_size c.args.guard_size c.if-probe_count-eq0.false c.if-probe_count-le-PROBE_MAX_UNROLL.false))
    c.gen_probestack_loop.ensures
