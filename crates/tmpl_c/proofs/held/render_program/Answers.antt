use Rattle.tmpl_c.specs.Held.{templates_run, value_in}
use Rattle.tmpl_c.specs.computed.Outputs.{run_by}
use Rattle.tmpl_c.proofs.GatherLemmas.{from_nothing}
use Rattle.tmpl_c.proofs.held.render_program.Goals as goal

pub returns-clause-filled : goal.returns-clause-filled
returns-clause-filled c =
    let a = run_by c.args.settings.now (templates_run c.args.program.now.held) c.args.name.now (value_in c.args.data.now.held) in
    c.finish.ensures.filled a (from_nothing a _ _ _ _ _ c.new-text.ensures c.new-line.ensures c.run_program-code.ensures.outcome)
