use Rattle.std.proofs.Common.{List, IfOk, subst}
use Rattle.std.specs.Prelude.{unwrap_or}
use Rattle.serde_json.specs.View.{view}
use Rattle.tmpl_syntax.specs.Set.{Template}
use Rattle.tmpl_meaning.specs.declared.missing_key.MissingKey.{MissingKey}
use Rattle.tmpl_engine.specs.View.{templates_in}
use Rattle.tmpl_report.specs.Failing.{AreRight, rules_by}
use Rattle.tmpl_report.proofs.samples.search.failures_of.Goals as goal

pub returns : goal.returns
returns c =
    let Told : MissingKey → List Template → Type 0 = λ mode set. IfOk c.failures.result (λ failures.
    AreRight (record { rules = rules_by mode; stops = c.args.stops.now; set = set; name = c.args.name.now; schema = view c.args.document.now }) c.args.doubts.now failures.items) in
    subst (λ set. Told (unwrap_or c.args.mode MissingKey.Error) set) c.in_ok-renderer.ensures
    (subst (λ mode. Told mode (templates_in c.in_ok-renderer.renderer)) c.unwrap_or.ensures c.failures.ensures)
