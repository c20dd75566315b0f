use Rattle.tmpl_c.specs.Filled.{limit_text}
use Rattle.tmpl_c.specs.Held.{templates_run, value_in}
use Rattle.tmpl_c.specs.computed.Outputs.{run_by}
use Rattle.tmpl_c.proofs.GivenLemmas.{nothing_given}
use Rattle.tmpl_c.proofs.held.render_text.Goals as goal

pub returns-in_default-clause-outcome : goal.returns-in_default-clause-outcome
returns-in_default-clause-outcome c =
    let a = limit_text c.args.settings.now.output
    (run_by c.args.settings.now (templates_run c.args.program.now.held) c.args.name.now (value_in c.args.data.now.held)) in
    nothing_given c.args.settings.now.writes.now a _ _ c.take_empty-out.ensures.left c.take_empty-err.ensures.left

pub returns-in_default-err-clause-outcome : goal.returns-in_default-err-clause-outcome
returns-in_default-err-clause-outcome c =
    let a = limit_text c.args.settings.now.output
    (run_by c.args.settings.now (templates_run c.args.program.now.held) c.args.name.now (value_in c.args.data.now.held)) in
    nothing_given c.args.settings.now.writes.now a _ _ c.take_empty-out.ensures.left c.take_empty-err.ensures.left
