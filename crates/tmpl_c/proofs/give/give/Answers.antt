use Rattle.tmpl_c.proofs.GivenLemmas.{given_named}
use Rattle.tmpl_c.proofs.give.give.Goals as goal

pub returns-in-len1-up : goal.returns-in-len1-up
returns-in-len1-up c a holds = given_named c.args.word.now a _ _ _ c.in-len1-up.len_at_least (c.give_of.ensures a holds)
