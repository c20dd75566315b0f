use Rattle.tmpl_formats.proofs.pattern_parts.+copies.Given as goal

abbrev pub decreases-copies : goal.decreases-copies
decreases-copies l = l.count
