use Rattle.std.proofs.Common.{ℕ, List, subst}
use Rattle.std.specs.Prelude.{unwrap_or}
use Rattle.tmpl_values.specs.View.{value_of}
use Rattle.tmpl_syntax.specs.Set.{Template}
use Rattle.tmpl_syntax.specs.View.{set_view}
use Rattle.tmpl_meaning.specs.declared.missing_key.MissingKey.{MissingKey}
use Rattle.tmpl_meaning.specs.declared.missing_key.MissingKey.TheVariants.{Default}
use Rattle.tmpl_engine.specs.View.{templates_in}
use Rattle.tmpl_report.specs.Rendered.{run_rules}
use Rattle.tmpl_report.specs.computed.Ended.{IsEnd}
use Rattle.tmpl_report.proofs.values.add_run_over.Goals as goal

pub add_end-requires-clause-end : goal.add_end-requires-clause-end
add_end-requires-clause-end c =
    let value = value_of c.args.tree.now in
    let end = c.in_ok-end.end in
    let mode = unwrap_or c.args.task.now.question.now.mode Default in
    let ts = templates_in c.in_ok-renderer.renderer in
    let name = c.name.result.now in
    let by_mode = subst (λ (m : MissingKey). IsEnd (run_rules m) ts name value end) c.unwrap_or.ensures c.in_ok-end.ensures in
    let of_set = subst (λ (s : List Template). IsEnd (run_rules mode) s name value end) c.in_ok-renderer.ensures by_mode in
    subst (λ (n : List ℕ). IsEnd (run_rules mode) (set_view c.args.task.now.set.now) n value end) c.name.ensures of_set
