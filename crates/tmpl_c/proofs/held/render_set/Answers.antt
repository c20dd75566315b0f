use Rattle.tmpl_c.specs.Held.{templates_in, value_in}
use Rattle.tmpl_c.specs.computed.Outputs.{answer_by}
use Rattle.tmpl_c.proofs.GatherLemmas.{from_nothing}
use Rattle.tmpl_c.proofs.held.render_set.Goals as goal

pub returns-clause-filled : goal.returns-clause-filled
returns-clause-filled c =
    let a = answer_by c.args.settings.now (templates_in c.args.set.now.held) c.args.name.now (value_in c.args.data.now.held) in
    c.finish.ensures.filled a (from_nothing a _ _ _ _ _ c.new-text.ensures c.new-line.ensures c.run_set-code.ensures.outcome)
