use Rattle.tmpl_engine.proofs.reserved.go_on.Given as goal

abbrev pub ghost-go_on_over : goal.ghost-go_on_over
ghost-go_on_over g a = g.aim
