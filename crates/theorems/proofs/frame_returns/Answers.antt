use Rattle.returns.proofs.Kept.{saved_kept}
use Rattle.returns.proofs.Sheets as sheets
use Rattle.theorems.proofs.frame_returns.Goals as goal

pub returns : goal.returns
returns c = record { back = sheets.returns; kept = saved_kept }
