use Rattle.tmpl_syntax.specs.View.{set_view}
use Rattle.tmpl_engine.proofs.RenderLemmas.{ends_refused, ends_unnamed}
use Rattle.tmpl_engine.proofs.rendering.Renderer.for_template.Goals as goal

pub returns-in-Err : goal.returns-in-Err
returns-in-Err c = ends_refused (set_view c.args.set.now) c.args.name.now c.in-Some.field-0 c.in-Some.ensures

pub returns-in-None : goal.returns-in-None
returns-in-None c = ends_unnamed (set_view c.args.set.now) c.args.name.now c.in-None.ensures
