use Rattle.std.proofs.Common.{length}
use Rattle.tmpl_loops.proofs.find.+after_texts.Given as goal

abbrev pub decreases-after_texts : goal.decreases-after_texts
decreases-after_texts l = length l.nodes.now
