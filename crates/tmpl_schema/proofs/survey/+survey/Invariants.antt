use Rattle.std.proofs.Common.{◌+◌, ◌*◌}
use Rattle.tmpl_syntax.specs.View.{control_of, node_of, nodes_in}
use Rattle.tmpl_syntax.proofs.WeightLemmas.{node_weight, nodes_weight}
use Rattle.tmpl_schema.proofs.survey.+survey.Given as goal

abbrev pub decreases-survey_nodes : goal.decreases-survey_nodes
decreases-survey_nodes l = 60 * nodes_weight (nodes_in l.nodes.now)

abbrev pub decreases-survey_node : goal.decreases-survey_node
decreases-survey_node l = 60 * node_weight (node_of l.node.now).what + 4

abbrev pub decreases-survey_control : goal.decreases-survey_control
decreases-survey_control l = 60 * node_weight (control_of l.control.now) + 3

abbrev pub decreases-survey_choice : goal.decreases-survey_choice
decreases-survey_choice l = 60 * node_weight (control_of l.control.now) + 2

abbrev pub decreases-survey_range : goal.decreases-survey_range
decreases-survey_range l = 60 * node_weight (control_of l.control.now) + 2
