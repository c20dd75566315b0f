use Rattle.std.proofs.Common.{length}
use Rattle.tmpl_shape.proofs.test.+is_constant.Given as goal

abbrev pub decreases-is_constant : goal.decreases-is_constant
decreases-is_constant l = length l.operands.now
