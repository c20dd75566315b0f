use Rattle.std.proofs.Common.{refl}
use Rattle.tmpl_formats.specs.PatternText.{no_quantifier, greedy, lazy}
use Rattle.tmpl_formats.proofs.pattern_text.Reader.quantifier.Goals as goal

pub returns-then-not-begins_times : goal.returns-then-not-begins_times
returns-then-not-begins_times c = no_quantifier

pub returns-then-takes : goal.returns-then-takes
returns-then-takes c = lazy (rw (c.if-takes.ensures.taken refl) at c.in_ok-times.ensures)

pub returns-else-takes : goal.returns-else-takes
returns-else-takes c = rw (c.if-takes.ensures.kept refl) (greedy c.in_ok-times.ensures)
