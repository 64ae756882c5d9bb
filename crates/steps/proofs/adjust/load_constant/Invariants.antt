use Rattle.std.proofs.Common.{◌≡◌}
use Rattle.item_list.specs.Items.{code}
use Rattle.item_list.specs.Lists.{listed, joined}
use Rattle.steps.specs.Adjust.{load_constant_of}
use Rattle.steps.proofs.Constants.{rest}
use Rattle.steps.proofs.adjust.load_constant.Given as goal

abbrev pub invariant-loop-shift : goal.invariant-loop-shift
invariant-loop-shift l =
    joined (listed l.list) (rest l.op l.rd l.value l.shift) ≡ joined (listed l.initial.list) (code (load_constant_of l.rd l.value))
