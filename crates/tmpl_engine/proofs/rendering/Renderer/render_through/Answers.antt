use Rattle.std.proofs.Common.{Err, subst}
use Rattle.tmpl_syntax.specs.View.{set_view}
use Rattle.tmpl_code.specs.declared.program.Parts.{Parts}
use Rattle.tmpl_engine.specs.Render.{Renders}
use Rattle.tmpl_engine.specs.declared.error.RenderError.TheVariants.{NoTemplate}
use Rattle.tmpl_engine.proofs.RenderLemmas.{named_render, unnamed_by}
use Rattle.tmpl_engine.proofs.rendering.Renderer.render_through.Goals as goal

-- the program that is shared is the one that is run
pub returns-in-Some : goal.returns-in-Some
returns-in-Some g c =
    let a = c.args in
    let before = g.S.Sink.so_far a.out.now in
    let after = g.S.Sink.so_far c.run_numbered.new.out in
    subst (λ (p : Parts). Renders a.options.now (set_view p.set.value) a.name.now a.data before after c.run_numbered.result)
    c.deref-program.ensures (named_render _ _ _ _ _ _ _ c.in-Some.ensures c.run_numbered.ensures)

pub returns-in-None : goal.returns-in-None
returns-in-None g c =
    let a = c.args in
    let before = g.S.Sink.so_far a.out.now in
    subst (λ (p : Parts). Renders a.options.now (set_view p.set.value) a.name.now a.data before before (Err NoTemplate))
    c.deref-program.ensures
    (unnamed_by a.options.now (set_view c.deref-program.result.now.set.value) a.name.now a.data before c.in-None.ensures)
