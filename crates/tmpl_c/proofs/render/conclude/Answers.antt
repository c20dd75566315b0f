use Rattle.tmpl_c.specs.Filled.{limit_text}
use Rattle.tmpl_c.proofs.render.conclude.Goals as goal

pub returns : goal.returns
returns c a comes = c.give.ensures (limit_text c.args.settings.now.output a) (c.settle-status.ensures a comes)
