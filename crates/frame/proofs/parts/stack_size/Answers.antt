use Rattle.std.proofs.Common.{arith}
use Rattle.frame.proofs.Sizes.{room}
use Rattle.frame.proofs.parts.stack_size.Goals as goal

pub overflow_add-result : goal.overflow_add-result
overflow_add-result c = omega (arith, room c.args.layout.now)
