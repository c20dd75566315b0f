use Rattle.std.proofs.Common.{◌∙◌, sym}
use Rattle.tmpl_problems.proofs.NotedLemmas.{insert-new, lookup-any, note-absent, note-there}
use Rattle.tmpl_problems.proofs.survey.declare_name.Goals as goal

pub returns-in_ok-insert : goal.returns-in_ok-insert
returns-in_ok-insert c =
    let es = c.args.variables.now.entries in
    let none = sym (lookup-any _ es) ∙ sym c.contains_key.ensures ∙ c.if-not-contains_key.true in
    c.in_ok-insert.ensures.entries ∙ insert-new _ es c.args.name c.args.variable none ∙ note-absent c.args.name c.args.variable es none

pub returns-else-not-contains_key : goal.returns-else-not-contains_key
returns-else-not-contains_key c =
    let es = c.args.variables.now.entries in
    note-there c.args.name c.args.variable es (sym (lookup-any _ es) ∙ sym c.contains_key.ensures ∙ c.if-not-contains_key.false)
