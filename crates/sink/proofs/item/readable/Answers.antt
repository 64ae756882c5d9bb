use Rattle.std.proofs.Common.{◌≡◌, rules}
use Rattle.codec.specs.Unread.{unread}
use Rattle.refusal.specs.Told.{told}
use Rattle.sink.proofs.Items.{read_not}
use Rattle.sink.specs.Items.{AllRead}
use Rattle.sink.proofs.item.readable.Goals as goal

pub returns-in_err-encode : goal.returns-in_err-encode
returns-in_err-encode c =
    let o = c.in_err-encode.ensures.only in
    let n : (AllRead c.args.items.now → ⊥) × (told c.in_err-encode.field-0.0 ≡ unread) =
    (read_not c.args.items.now c.loop-item.item-index _ c.in-Inst.x c.loop-item-test.true c.in-Inst.is (λ p. o.1 p.0 p.1) c.loop-item.invariant, o.0) in
    search rules
