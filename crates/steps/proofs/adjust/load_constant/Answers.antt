use Rattle.std.proofs.Common.{◌<◌, sym, ap, ◌∙◌, arith}
use Rattle.item_list.specs.Lists.{listed, joined}
use Rattle.steps.proofs.Constants.{rest_start, rest_skip, part_put, last_put, last_none}
use Rattle.steps.proofs.adjust.load_constant.Goals as goal
use Rattle.steps.proofs.adjust.load_constant.Goals.{then-bits-ne0, else-bits-ne0}

pub loop-shift-init : goal.loop-shift-init
loop-shift-init c = ap (joined (listed c.args.list.now)) (rest_start c.args.rd c.args.value)

pub loop-shift-preserved : goal.loop-shift-preserved
loop-shift-preserved c =
    let lt : c.loop-shift.shift < 4 = omega arith in
    elim c.if-bits-ne0.branch [
      | then-bits-ne0 w ↦
          rw (w.list-is, w.op-is)
          (part_put c.loop-shift.list w.inst.new.self _ c.loop-shift.op c.args.rd c.args.value c.loop-shift.shift c.part_of-bits.result lt c.part_of-bits.ensures w.if-bits-ne0.true c.loop-shift.invariant w.inst.ensures)
      | else-bits-ne0 w ↦
          rw (w.list-is, w.op-is, ← rest_skip c.loop-shift.op c.args.rd c.args.value c.loop-shift.shift lt (sym c.part_of-bits.ensures ∙ w.if-bits-ne0.false))
          c.loop-shift.invariant
    ]

pub returns-in-MovZ : goal.returns-in-MovZ
returns-in-MovZ c =
    last_put c.loop-shift.list c.inst-in-MovZ.new.self _ c.loop-shift.op c.args.rd c.args.value c.loop-shift.shift
    c.in-MovZ.is (omega arith) c.loop-shift.invariant c.inst-in-MovZ.ensures

pub returns-in_default : goal.returns-in_default
returns-in_default c =
    last_none c.loop-shift.list _ c.loop-shift.op c.args.rd c.args.value c.loop-shift.shift
    c.in_default.not-MovZ (omega arith) c.loop-shift.invariant
