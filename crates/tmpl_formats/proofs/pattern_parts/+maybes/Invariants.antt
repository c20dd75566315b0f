use Rattle.tmpl_formats.proofs.pattern_parts.+maybes.Given as goal

abbrev pub decreases-maybes : goal.decreases-maybes
decreases-maybes l = l.count
