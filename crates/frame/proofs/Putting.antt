-- What joins the steps of a piece.
use Rattle.item_list.proofs.Joins.{code_append, joined_joined, joined_none}

pub ruleset puts = (joined_joined, joined_none, code_append)
