-- What is read of an action within the limit of its parentheses, computed.
use Rattle.std.specs.Prelude.{ℕ, suc, ◌-◌, max, Bool, true, false, nat_le, List, [], ◌∷◌}
use Rattle.std.specs.Prelude.{Option, Some, None, option_map}
use Rattle.tmpl_lex.specs.declared.piece.TokenKind.{TokenKind}
use Rattle.tmpl_lex.specs.declared.piece.TokenKind.TheVariants as kind
use Rattle.tmpl_lex.specs.Piece.{Token}
use Rattle.tmpl_grammar.specs.Tree.{Pipeline, no_command, Header}
use Rattle.tmpl_grammar.specs.Action.{Action, pipeline_action, opening, else_branch, template_action, block_action}
use Rattle.tmpl_grammar.specs.Action.{branch_in}
use Rattle.tmpl_grammar.specs.Depth.{depth_of_pipeline, depth_of, most_deep}
use Rattle.tmpl_grammar.specs.declared.action.Branch.{Branch}

-- of tokens: they are nothing of the grammar, or an action that is too deep, where it is an else branch of this
-- control, or one within the limit
pub data Reading : Type 0 where
  unread : Reading
  too_deep : Option Branch → Reading
  read : Action → Reading

abbrev pub reading_by : Bool → Action → Reading
reading_by true a = read a
reading_by false a = too_deep (branch_in a)

abbrev pub reading_of : Option Action → Reading
reading_of None = unread
reading_of (Some a) = reading_by (nat_le (depth_of a) most_deep) a

-- ---- as the code has it: parentheses are counted over the tokens, and a pipeline that is too deep is left out

-- how many parentheses are open after a token of this kind, where this many are before it
abbrev pub depth_after : TokenKind → ℕ → ℕ
depth_after kind.LeftParenthesis n = suc n
depth_after kind.RightParenthesis n = n - 1
depth_after k n = n

-- the most that are open at any place of tokens, where this many are at first
abbrev pub deepest : ℕ → List Token → ℕ
deepest n [] = n
deepest n (t ∷ ts) = max n (deepest (depth_after t.kind n) ts)

abbrev pub limited_by : Bool → Pipeline → Pipeline
limited_by true p = p
limited_by false p = no_command

abbrev pub limited_pipeline : Pipeline → Pipeline
limited_pipeline p = limited_by (nat_le (depth_of_pipeline p) most_deep) p

abbrev pub limited_header : Header → Header
limited_header h = record { binding = h.binding; pipeline = limited_pipeline h.pipeline }

abbrev pub limited_action : Action → Action
limited_action (pipeline_action h) = pipeline_action (limited_header h)
limited_action (opening c h) = opening c (limited_header h)
limited_action (else_branch br h) = else_branch br (limited_header h)
limited_action (template_action name given) = template_action name (option_map limited_pipeline given)
limited_action (block_action name p) = block_action name (limited_pipeline p)
limited_action a = a

abbrev pub is_left_out : Pipeline → Bool
is_left_out no_command = true
is_left_out p = false

abbrev pub lacks_pipeline : Action → Bool
lacks_pipeline (pipeline_action h) = is_left_out h.pipeline
lacks_pipeline (opening c h) = is_left_out h.pipeline
lacks_pipeline (else_branch br h) = is_left_out h.pipeline
lacks_pipeline (template_action name (Some p)) = is_left_out p
lacks_pipeline (block_action name p) = is_left_out p
lacks_pipeline a = false

abbrev pub reading_unless : Bool → Action → Reading
reading_unless true a = too_deep (branch_in a)
reading_unless false a = read a

abbrev pub reading_held : Option Action → Reading
reading_held None = unread
reading_held (Some a) = reading_unless (lacks_pipeline a) a
