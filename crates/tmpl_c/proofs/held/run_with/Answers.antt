use Rattle.std.proofs.Common.{[], Bor, Option, option_map, refl, subst, sym}
use Rattle.tmpl_values.specs.View.{value_of}
use Rattle.tmpl_meaning.specs.Meaning.{Rules}
use Rattle.tmpl_meaning.specs.Sink.{sunk}
use Rattle.tmpl_meaning.specs.View.{rules_of}
use Rattle.tmpl_engine.specs.Render.{ran_named}
use Rattle.tmpl_engine.specs.View.{templates_in}
use Rattle.tmpl_engine.specs.declared.rendering.Renderer.{Renderer}
use Rattle.tmpl_tool.specs.Outcome.{Outcome}
use Rattle.tmpl_tool.specs.Tool.{answer_of, named_run}
use Rattle.tmpl_c.specs.Passed.{rules_in}
use Rattle.tmpl_c.specs.computed.Outputs.{run_by, templates_borrowed}
use Rattle.tmpl_c.specs.computed.Gathering.{told_of}
use Rattle.tmpl_c.proofs.held.run_with.Goals as goal

pub returns-in-None : goal.returns-in-None
returns-in-None c =
    let before = told_of c.args.out.now in
    let value = option_map (λ d. value_of d.now) c.args.data in
    let ran = ran_named (rules_in c.args.settings.now) [] c.args.name.now value in
    subst
    (λ (lent : Option (Bor Renderer)). Outcome (run_by c.args.settings.now (templates_borrowed lent) c.args.name.now value) (sunk before before)
    (sunk (told_of c.args.err.now) (told_of c.tell_end.new.err)) c.tell_end.result.code)
    (sym c.in-None.is)
    (c.tell_end.ensures.outcome ran before before (refl, (refl, refl)))

pub returns-in-Some : goal.returns-in-Some
returns-in-Some c =
    let before = told_of c.args.out.now in
    let after = told_of c.render_through-end.new.out in
    let err = sunk (told_of c.args.err.now) (told_of c.tell_end-in-Some.new.err) in
    let value = option_map (λ d. value_of d.now) c.args.data in
    let held = templates_in c.in-Some.renderer.now in
    let ran = ran_named (rules_of c.options_in-options.result) held c.args.name.now value in
    let said = c.tell_end-in-Some.ensures.outcome ran before after c.render_through-end.ensures in
    let ruled = subst
    (λ (rules : Rules). Outcome (answer_of (named_run rules c.args.name.now held value)) (sunk before after) err c.tell_end-in-Some.result.code)
    c.options_in-options.ensures said in
    subst
    (λ (lent : Option (Bor Renderer)). Outcome (run_by c.args.settings.now (templates_borrowed lent) c.args.name.now value) (sunk before after) err
    c.tell_end-in-Some.result.code)
    (sym c.in-Some.is) ruled
