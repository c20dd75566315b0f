use Rattle.std.proofs.Common.{length}
use Rattle.tmpl_shape.proofs.call.+comparable_to_all.Given as goal

abbrev pub decreases-comparable_to_all : goal.decreases-comparable_to_all
decreases-comparable_to_all l = length l.others.now
