use Rattle.std.proofs.Common.{vec_len, arith}
use Rattle.record_sink.proofs.Paid.{paid}
use Rattle.record_sink.proofs.methods.RecordsSink.put_note.Goals as goal

pub invariant_of-self : goal.invariant_of-self
invariant_of-self g c =
    let e = c.push_reserved.ensures.len in
    let p = paid g.row.NOTE (vec_len c.args.self.now.notes) (vec_len c.push_reserved.new.self) e in
    record { few = omega arith; small = omega arith; insts_fit = omega arith; notes_fit = omega arith }
