use Rattle.std.proofs.Common.{◌∙◌, ap, map, sym}
use Rattle.std.specs.Option.{option_map}
use Rattle.serde_json.specs.View.{view}
use Rattle.tmpl_syntax.specs.View.{set_view}
use Rattle.std.proofs.lemmas.Result.{on_ok_weaker}
use Rattle.tmpl_report.proofs.SafeLemmas.{safe-over}
use Rattle.tmpl_report.proofs.schema.add_judged.Goals as goal

pub returns-in-Ok-clause-safe : goal.returns-in-Ok-clause-safe
returns-in-Ok-clause-safe c =
    on_ok_weaker c.warn_of_schema.result (λ same none short.
    safe-over c.args.question.now c.args.sources.now (set_view c.args.set.now) c.in-Some.schema c.in-Some-first.first _ _ _
    c.in-Some.is c.in-Some-first.is (sym (ap (option_map (λ d. view d.now)) c.in-Some-document.is) ∙ c.requires)
    (c.as_slice-stops.ensures.value ∙ c.in_ok-stops.ensures ∙ ap (map (λ name. name.now)) c.as_slice.ensures.value)
    c.name.ensures c.in-Ok.ensures)
    c.warn_of_schema.ensures
