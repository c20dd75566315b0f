use Rattle.tmpl_lex.proofs.cutter.push_part.Goals as goal

pub returns-clause-placed : goal.returns-clause-placed
returns-clause-placed c = λ file stands placed. c.push_after.ensures.placed file (c.in_ok-push_text.ensures.placed file stands placed)
