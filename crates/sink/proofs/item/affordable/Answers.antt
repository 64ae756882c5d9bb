use Rattle.std.proofs.Common.{sym, arith}
use Rattle.std.proofs.lemmas.Bool.{lt-leb}
use Rattle.sink.proofs.Items.{cost_rest_inst, cost_rest_note}
use Rattle.sink.proofs.item.affordable.Goals as goal
use Rattle.sink.proofs.item.affordable.Goals.{in-Inst, in-Note}

-- the next price alone is more than what is left
pub returns-then-price-left : goal.returns-then-price-left
returns-then-price-left c =
    let i = c.loop-item.invariant in
    elim c.match-item.branch [
      | in-Inst w ↦
          let n = cost_rest_inst (record { inst = c.args.inst; note = c.args.note }) c.args.items.now c.loop-item.item-index _ _ c.loop-item-test.true w.in-Inst.is in
          sym (lt-leb _ _ (omega (arith, w.price-is)))
      | in-Note w ↦
          let n = cost_rest_note (record { inst = c.args.inst; note = c.args.note }) c.args.items.now c.loop-item.item-index _ _ c.loop-item-test.true w.in-Note.is in
          sym (lt-leb _ _ (omega (arith, w.price-is)))
    ]

pub loop-item-preserved : goal.loop-item-preserved
loop-item-preserved c =
    let i = c.loop-item.invariant in
    elim c.match-item.branch [
      | in-Inst w ↦
          let n = cost_rest_inst (record { inst = c.args.inst; note = c.args.note }) c.args.items.now c.loop-item.item-index _ _ c.loop-item-test.true w.in-Inst.is in
          omega (arith, w.price-is)
      | in-Note w ↦
          let n = cost_rest_note (record { inst = c.args.inst; note = c.args.note }) c.args.items.now c.loop-item.item-index _ _ c.loop-item-test.true w.in-Note.is in
          omega (arith, w.price-is)
    ]
