use Rattle.tmpl_syntax.specs.View.{set_view}
use Rattle.tmpl_tool.proofs.render.render_named.Goals as goal

pub returns : goal.returns
returns g c = c.render_prepared.ensures (set_view c.args.set.now) c.for_template-prepared.ensures
