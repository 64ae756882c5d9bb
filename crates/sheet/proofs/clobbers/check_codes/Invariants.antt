use Rattle.std.proofs.Common.{◌≡◌, take}
use Rattle.codes.specs.Items.{items}
use Rattle.sheet.proofs.CodeSteps.{Kept}
use Rattle.sheet.proofs.clobbers.check_codes.Given as goal

abbrev pub invariant-loop-i : goal.invariant-loop-i
invariant-loop-i l = Kept l.pinned l.codes l.i l.marks × (items l.list ≡ take l.i l.codes)
