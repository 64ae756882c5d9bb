use Rattle.std.proofs.Common.{arith}
use Rattle.frame.proofs.Sizes.{room}
use Rattle.frame.proofs.parts.probe_size.Goals as goal

pub overflow_add-size : goal.overflow_add-size
overflow_add-size c = omega (arith, room c.args.layout.now)

pub overflow_add-size-2 : goal.overflow_add-size-2
overflow_add-size-2 c = omega (arith, room c.args.layout.now)

pub overflow_add-result : goal.overflow_add-result
overflow_add-result c = omega (arith, room c.args.layout.now)
