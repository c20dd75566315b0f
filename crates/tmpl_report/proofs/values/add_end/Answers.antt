use Rattle.std.proofs.Common.{refl, subst}
use Rattle.std.specs.Prelude.{unwrap_or}
use Rattle.std.proofs.lemmas.Result.{on_ok_weaker}
use Rattle.tmpl_values.specs.View.{value_of}
use Rattle.tmpl_syntax.specs.View.{set_view}
use Rattle.tmpl_meaning.specs.View.{fault_seen}
use Rattle.tmpl_meaning.specs.declared.missing_key.MissingKey.TheVariants.{Default}
use Rattle.tmpl_report.specs.Rendered.{run_rules}
use Rattle.tmpl_report.specs.Safe.{asked_name}
use Rattle.tmpl_report.specs.computed.Ended.{IsEnd}
use Rattle.tmpl_report.specs.declared.rendered.End.{End}
use Rattle.tmpl_report.proofs.ValueLemmas.{no-faults, one-fault, rendered-cut, rendered-whole, whole-unless}
use Rattle.tmpl_report.proofs.values.add_end.Goals as goal

pub returns-in-Whole-clause-whole : goal.returns-in-Whole-clause-whole
returns-in-Whole-clause-whole c = λ no_error.
    let question = c.args.task.now.question.now in
    let first = c.args.task.now.first.now in
    let set = set_view c.args.task.now.set.now in
    let value = value_of c.args.tree.now in
    let E = λ (e : End). IsEnd (run_rules (unwrap_or question.mode Default)) set (asked_name question first) value e in
    rendered-whole question first c.args.«data».now set c.args.findings.now value c.requires.value (subst E c.in-Whole.is c.requires.end)

pub returns-in-Whole-clause-told : goal.returns-in-Whole-clause-told
returns-in-Whole-clause-told c =
    no-faults c.args.task.now.question.now c.args.task.now.first.now c.args.«data».now (set_view c.args.task.now.set.now) c.args.findings.now c.args.findings.now refl

pub returns-in-Limit-clause-whole : goal.returns-in-Limit-clause-whole
returns-in-Limit-clause-whole c =
    on_ok_weaker c.add_cut.result (λ cut no_error. rendered-cut c.args.task.now.question.now c.args.task.now.first.now c.args.«data».now (set_view c.args.task.now.set.now) c.add_cut.new.findings cut)
    c.add_cut.ensures.found

pub returns-in-Limit-clause-told : goal.returns-in-Limit-clause-told
returns-in-Limit-clause-told c =
    on_ok_weaker c.add_cut.result (λ same.
    no-faults c.args.task.now.question.now c.args.task.now.first.now c.args.«data».now (set_view c.args.task.now.set.now) c.args.findings.now c.add_cut.new.findings same)
    c.add_cut.ensures.errors

pub returns-in-Fault-clause-whole : goal.returns-in-Fault-clause-whole
returns-in-Fault-clause-whole c =
    on_ok_weaker c.add_fault.result (λ found no_error.
    whole-unless c.args.task.now.question.now c.args.task.now.first.now c.args.«data».now (set_view c.args.task.now.set.now) c.add_fault.new.findings found no_error)
    c.add_fault.ensures.found

pub returns-in-Fault-clause-told : goal.returns-in-Fault-clause-told
returns-in-Fault-clause-told c =
    let question = c.args.task.now.question.now in
    let first = c.args.task.now.first.now in
    let set = set_view c.args.task.now.set.now in
    let value = value_of c.args.tree.now in
    let E = λ (e : End). IsEnd (run_rules (unwrap_or question.mode Default)) set (asked_name question first) value e in
    let ended = subst E c.in-Fault.is c.requires.end in
    on_ok_weaker c.add_fault.result (λ added.
    one-fault question first c.args.«data».now set c.args.findings.now c.add_fault.new.findings value (fault_seen c.in-Fault.fault) c.requires.value ended.0 ended.1 added)
    c.add_fault.ensures.added
