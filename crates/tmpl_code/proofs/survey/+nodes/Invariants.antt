use Rattle.std.proofs.Common.{◌≤◌, ◌+◌, ◌*◌, drop, length}
use Rattle.tmpl_syntax.specs.View.{control_of, node_of, nodes_in}
use Rattle.tmpl_code.specs.computed.Surveyed.{SurveysNodes}
use Rattle.tmpl_syntax.proofs.WeightLemmas.{node_weight, nodes_weight}
use Rattle.tmpl_code.proofs.survey.+nodes.Given as goal

abbrev pub decreases-survey_nodes : goal.decreases-survey_nodes
decreases-survey_nodes l = 3 * nodes_weight (nodes_in l.nodes.now)

abbrev pub decreases-survey_node : goal.decreases-survey_node
decreases-survey_node l = 3 * node_weight (node_of l.node.now).what + 2

abbrev pub decreases-survey_control : goal.decreases-survey_control
decreases-survey_control l = 3 * node_weight (control_of l.node.now) + 1

abbrev pub decreases-survey_nodes-loop-i : goal.decreases-survey_nodes-loop-i
decreases-survey_nodes-loop-i l = l.i

abbrev pub invariant-survey_nodes-loop-i : goal.invariant-survey_nodes-loop-i
invariant-survey_nodes-loop-i l = record {
  within : l.i ≤ length l.nodes;
  survey : SurveysNodes (nodes_in (drop l.i l.nodes)) l.survey;
}
