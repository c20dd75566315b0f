use Rattle.std.proofs.Common.{refl}
use Rattle.tmpl_tool.specs.Tool.{printed, stop_answer}
use Rattle.tmpl_c.specs.Held.{templates_in}
use Rattle.tmpl_c.proofs.GatherLemmas.{from_nothing, without_line}
use Rattle.tmpl_c.proofs.held.gather_printed.Goals as goal

pub returns-clause-outcome : goal.returns-clause-outcome
returns-clause-outcome c =
    let a = stop_answer (printed (templates_in c.args.set.now.held)) in
    without_line a _ _ _ refl (c.settle.ensures a
    (from_nothing a _ _ _ _ _ c.requires.empty c.new-line.ensures c.run_set_with-code.ensures.outcome))
