use Rattle.tmpl_formats.proofs.pattern_parts.+join.Given as goal

abbrev pub decreases-join : goal.decreases-join
decreases-join l = l.count
