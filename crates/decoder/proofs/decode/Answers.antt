use Rattle.std.proofs.Common.{refl}
use Rattle.decoder.proofs.Laws.{reads, only}
use Rattle.decoder.proofs.decode.Goals as goal

pub returns : goal.returns
returns c = rw c.by_head.ensures (record { reading = refl; reads = reads c.args.w; only = only c.args.w })
