use Rattle.tmpl_c.specs.Held.{templates_run, value_in}
use Rattle.tmpl_c.specs.computed.Outputs.{run_by}
use Rattle.tmpl_c.proofs.GatherLemmas.{from_nothing}
use Rattle.tmpl_c.proofs.held.gather.Goals as goal

pub returns-clause-outcome : goal.returns-clause-outcome
returns-clause-outcome c =
    let a = run_by c.args.settings.now (templates_run c.args.program.now.held) c.args.name.now (value_in c.args.data.now.held) in
    c.conclude.ensures a (from_nothing a _ _ _ _ _ c.requires.empty.0 c.requires.empty.1 c.run_program-code.ensures.outcome)
