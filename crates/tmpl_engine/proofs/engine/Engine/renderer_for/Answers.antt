use Rattle.std.proofs.Common.{◌∙◌, ap}
use Rattle.tmpl_syntax.specs.Set.{number_of}
use Rattle.tmpl_syntax.specs.View.{set_view}
use Rattle.tmpl_syntax.specs.declared.set.Set.{Set}
use Rattle.tmpl_engine.specs.View.{templates_of}
use Rattle.tmpl_engine.proofs.RenderLemmas.{ends_refused, ends_unnamed}
use Rattle.tmpl_engine.proofs.engine.Engine.renderer_for.Goals as goal

pub returns-in-Err-clause-prepared : goal.returns-in-Err-clause-prepared
returns-in-Err-clause-prepared c =
    ends_refused (templates_of c.args.self.now) c.args.name.now c.in-Some.field-0
    (c.in-Some.ensures ∙ ap (λ (s : Set). number_of c.args.name.now (set_view s)) c.self.view_is)

pub returns-in-None-clause-prepared : goal.returns-in-None-clause-prepared
returns-in-None-clause-prepared c =
    ends_unnamed (templates_of c.args.self.now) c.args.name.now
    (c.in-None.ensures ∙ ap (λ (s : Set). number_of c.args.name.now (set_view s)) c.self.view_is)
