use Rattle.std.proofs.Common.{arith}
use Rattle.frame.proofs.Sizes.{room}
use Rattle.frame.proofs.opening.define_frame.Goals as goal

pub overflow_add-layout : goal.overflow_add-layout
overflow_add-layout c = omega (arith, room c.args.layout.now)
