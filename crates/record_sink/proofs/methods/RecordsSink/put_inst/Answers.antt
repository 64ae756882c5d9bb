use Rattle.std.proofs.Common.{◌≡◌, arith, rules}
use Rattle.std.proofs.Common.{vec_len}
use Rattle.codec.specs.Unread.{unread}
use Rattle.refusal.specs.Told.{told}
use Rattle.sink.specs.Held.{IsReading}
use Rattle.record_sink.proofs.Paid.{paid, cheap}
use Rattle.record_sink.proofs.methods.RecordsSink.put_inst.Goals as goal

pub returns-in_err-encode : goal.returns-in_err-encode
returns-in_err-encode g c =
    let o = c.in_err-encode.ensures.only in
    let n : (IsReading c.args.x → ⊥) × (told c.in_err-encode.field-0.0 ≡ unread) = ((λ p. o.1 p.0 p.1), o.0) in
    search rules

pub invariant_of-self : goal.invariant_of-self
invariant_of-self g c =
    let e = c.push_reserved.ensures.len in
    let p = paid g.row.INST (vec_len c.args.self.now.insts) (vec_len c.push_reserved.new.self) e in
    let q = cheap g.row.INST (vec_len c.push_reserved.new.self) (omega arith) in
    record { few = omega arith; small = omega arith; insts_fit = omega arith; notes_fit = omega arith }
