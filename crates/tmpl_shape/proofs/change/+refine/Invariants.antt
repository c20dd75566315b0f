use Rattle.std.proofs.Common.{◌+◌, ◌*◌}
use Rattle.tmpl_shape.proofs.change.+refine.Given as goal

abbrev pub decreases-refine_by : goal.decreases-refine_by
decreases-refine_by l = 2 * l.steps

abbrev pub decreases-refine_record : goal.decreases-refine_record
decreases-refine_record l = 2 * l.steps + 1
