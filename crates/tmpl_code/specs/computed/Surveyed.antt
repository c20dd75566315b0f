-- What is told of pipelines and of nodes, each in one walk.
use Rattle.std.specs.Prelude.{◌≡◌, ℕ, Bool}
use Rattle.tmpl_syntax.specs.Need.{need_of_node, need_of_nodes}
use Rattle.tmpl_syntax.specs.Tree.{NodeKind, Nodes}
use Rattle.tmpl_code.specs.MakesText.{node_makes_text, nodes_make_text}
use Rattle.tmpl_code.specs.computed.Weights.{node_calls, nodes_call}
use Rattle.tmpl_code.specs.declared.survey.Survey as held_survey

-- this many cells, whether a text is made, and whether a template is called
pub record Surveys (cells : ℕ) (makes calling : Bool) (s : held_survey.Survey) : Type 0 where
  pub need : s.need ≡ cells
  pub text : s.makes_text ≡ makes
  pub calls : s.calls ≡ calling

-- what a node needs and does, and what nodes do
abbrev pub SurveysNode : NodeKind → held_survey.Survey → Type 0
SurveysNode n = Surveys (need_of_node n) (node_makes_text n) (node_calls n)

abbrev pub SurveysNodes : Nodes → held_survey.Survey → Type 0
SurveysNodes ns = Surveys (need_of_nodes ns) (nodes_make_text ns) (nodes_call ns)
