use Rattle.std.proofs.Common.{arith}
use Rattle.frame.proofs.Sizes.{room}
use Rattle.frame.proofs.parts.incoming_args_diff.Goals as goal

pub overflow_sub-result : goal.overflow_sub-result
overflow_sub-result c = omega (arith, room c.args.layout.now)
