use Rattle.std.proofs.Common.{length}
use Rattle.tmpl_funcs.proofs.capacity.next_form.Given as goal

abbrev pub decreases-loop-rest : goal.decreases-loop-rest
decreases-loop-rest l = length l.rest
