use mathlib.Core.Path.{refl}
use Rattle.worked.proofs.Computed.{computed}
use Rattle.worked.proofs.worked_frames.Goals as goal

pub returns : goal.returns
returns c = record { count = refl; frames = computed }
