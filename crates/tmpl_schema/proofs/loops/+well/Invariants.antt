use Rattle.std.proofs.Common.{◌+◌, ◌*◌}
use Rattle.tmpl_syntax.specs.View.{control_of, nodes_in}
use Rattle.tmpl_syntax.proofs.WeightLemmas.{node_weight, nodes_weight}
use Rattle.tmpl_schema.proofs.loops.+well.Given as goal

abbrev pub decreases-ends_well : goal.decreases-ends_well
decreases-ends_well l = 4 * nodes_weight (nodes_in l.nodes.now)

abbrev pub decreases-acts : goal.decreases-acts
decreases-acts l = 4 * nodes_weight (nodes_in l.rest.now) + 1

abbrev pub decreases-chooses : goal.decreases-chooses
decreases-chooses l = 4 * node_weight (control_of l.control.now) + 1
