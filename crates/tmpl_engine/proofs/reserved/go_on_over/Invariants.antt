use Rattle.tmpl_engine.proofs.reserved.go_on_over.Given as goal

abbrev pub ghost-turns : goal.ghost-turns
ghost-turns g a = g.aim
