use Rattle.returns.proofs.Trees.{each_tree_returns}
use Rattle.theorems.proofs.trees_return.Goals as goal

pub returns : goal.returns
returns c = each_tree_returns
