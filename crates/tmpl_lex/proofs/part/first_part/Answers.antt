use Rattle.tmpl_lex.proofs.part.first_part.Goals as goal

pub returns-in-None-clause-cuts : goal.returns-in-None-clause-cuts
returns-in-None-clause-cuts c = c.last_part.ensures.cuts c.args.tokens.now.items

pub returns-in-None-clause-begins : goal.returns-in-None-clause-begins
returns-in-None-clause-begins c = c.last_part.ensures.begins c.args.tokens.now.items
