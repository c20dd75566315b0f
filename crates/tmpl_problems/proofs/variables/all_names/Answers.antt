use Rattle.std.proofs.Common.{arith}
use Rattle.std.proofs.lemmas.Grind.{common_steps}
use Rattle.std.proofs.lemmas.List.Elements.{filter_map-append}
use Rattle.tmpl_problems.proofs.variables.all_names.Goals as goal

pub loop-token-preserved : goal.loop-token-preserved
loop-token-preserved c = grind (arith, common_steps, filter_map-append)
