use Rattle.tmpl_tool.proofs.RenderLemmas.{says_refused, says_unnamed}
use Rattle.tmpl_tool.proofs.render.tell_error.Goals as goal

pub returns-in-NoTemplate-clause-outcome : goal.returns-in-NoTemplate-clause-outcome
returns-in-NoTemplate-clause-outcome g c r before after h = says_unnamed r c.args.name.now before after _ _ c.args.error h (search) (search) (search)

pub returns-in-OutOfMemory-clause-outcome : goal.returns-in-OutOfMemory-clause-outcome
returns-in-OutOfMemory-clause-outcome g c r before after h = says_refused r c.args.name.now before after _ _ c.args.error h (search) (search) (search)
