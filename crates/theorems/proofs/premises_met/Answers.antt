use Rattle.returns.proofs.Example.{rules_kept, three_deep}
use Rattle.returns.proofs.Witnesses.{clobberable, enterable}
use Rattle.theorems.proofs.premises_met.Goals as goal

pub returns : goal.returns
returns c = record { entry = enterable; body = clobberable; tree = three_deep; rules = rules_kept }
