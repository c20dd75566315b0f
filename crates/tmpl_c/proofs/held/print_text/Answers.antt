use Rattle.std.proofs.Common.{[], refl}
use Rattle.tmpl_tool.specs.Tool.{printed, stop_answer}
use Rattle.tmpl_c.specs.Held.{templates_in}
use Rattle.tmpl_c.proofs.GatherLemmas.{nothing_holds}
use Rattle.tmpl_c.proofs.held.print_text.Goals as goal

pub returns-in_default-clause-outcome : goal.returns-in_default-clause-outcome
returns-in_default-clause-outcome c =
    nothing_holds (stop_answer (printed (templates_in c.args.set.now.held))) _ [] c.take_empty.ensures.left refl
