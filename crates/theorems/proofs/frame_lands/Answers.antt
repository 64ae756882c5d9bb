use Rattle.returns.proofs.Lands.{lands}
use Rattle.theorems.proofs.frame_lands.Goals as goal

pub returns : goal.returns
returns c = lands
