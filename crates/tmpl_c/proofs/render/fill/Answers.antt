use Rattle.std.proofs.Common.{eqb}
use Rattle.tmpl_c.specs.Passed.{pairs_of, render_answer, rules_in}
use Rattle.tmpl_c.proofs.GatherLemmas.{from_nothing}
use Rattle.tmpl_c.proofs.render.fill.Goals as goal

pub returns-clause-filled : goal.returns-clause-filled
returns-clause-filled c parse is =
    let a = render_answer parse (rules_in c.args.settings.now) (eqb c.args.settings.now.print 1) (pairs_of c.args.files.now) c.args.name.now c.args.input.now in
    c.finish.ensures.filled a (from_nothing a _ _ _ _ _ c.new-text.ensures c.new-line.ensures (c.render_to-code.ensures.outcome parse is))
