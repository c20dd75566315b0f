use Rattle.tmpl_json_schema.proofs.provenance.Document.+add_plain.Given as goal

abbrev pub decreases-add_plain : goal.decreases-add_plain
decreases-add_plain l = l.levels
