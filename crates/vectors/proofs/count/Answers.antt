use Rattle.std.proofs.Common.{refl}
use Rattle.vectors.proofs.Known.{known_words}
use Rattle.vectors.proofs.count.Goals as goal

pub returns : goal.returns
returns c = record { count = refl; read = known_words }
