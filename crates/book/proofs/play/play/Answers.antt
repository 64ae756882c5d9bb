use Rattle.std.proofs.Common.{rules}
use Rattle.plainbook.specs.Plain.{priced}
use Rattle.plainbook.proofs.Playing.{midway_more, right}
use Rattle.book.proofs.play.play.Goals as goal

pub loop-call-preserved : goal.loop-call-preserved
loop-call-preserved g c = (
  λ r s. midway_more _ r _ _ _ _ c.args.calls.now c.loop-call.call-index _ _ _ _ (c.loop-call.invariant.0 r s) c.loop-call-test.true c.step-answer.ensures c.push_reserved.ensures.items,
  search rules,
  search rules,
)

pub returns : goal.returns
returns g c =
    right (priced g.S.InstPrice.Price.units g.S.NotePrice.Price.units) _ _ _ c.args.calls.now c.loop-call.call-index _ (c.loop-call.invariant.0 _ c.in_ok-book.ensures) c.loop-call-test.false
