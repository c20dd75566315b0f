use Rattle.std.proofs.Common.{length}
use Rattle.tmpl_schema.proofs.origin.+put_texts.Given as goal

abbrev pub decreases-put_texts : goal.decreases-put_texts
decreases-put_texts l = length l.operands.now
