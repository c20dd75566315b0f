use Rattle.std.proofs.Common.{length}
use Rattle.tmpl_shape.proofs.format.+put_samples.Given as goal

abbrev pub decreases-put_samples : goal.decreases-put_samples
decreases-put_samples l = length l.arguments.now
