-- A parser of pipelines: the pipelines that are read in part, and what each further token makes of them.
use Rattle.std.specs.Prelude.{ℕ, Bool, true, List, [], ◌∷◌, ◌++◌}
use Rattle.std.specs.Prelude.{Option, Some, None, option_map, option_and_then, if◌then◌else◌}
use Rattle.tmpl_lex.specs.declared.piece.TokenKind.{TokenKind}
use Rattle.tmpl_lex.specs.declared.piece.TokenKind.TheVariants as kind
use Rattle.tmpl_lex.specs.Piece.{Token}
use Rattle.tmpl_grammar.specs.Token.{begins_name, name_in}
use Rattle.tmpl_grammar.specs.Tree as tree
use Rattle.tmpl_grammar.specs.Tree.{Operand, Operands, operands_from, commands_from}
use Rattle.tmpl_grammar.specs.computed.Operand.{begins_later}
use Rattle.tmpl_grammar.specs.computed.Operand.{operand_at}

-- a pipeline as far as it is read: its whole commands, and the operands of the next one with white space after them
pub record Partial : Type 0 where
  pub commands : List Operands
  pub operands : List Operand

-- the pipelines around this one, the innermost first, this one, and the operand that has no white space after it
pub record Parser : Type 0 where
  pub outer : List Partial
  pub inner : Partial
  pub last : Option Operand

abbrev pub empty_partial : Partial
empty_partial = record { commands = []; operands = [] }

-- nothing is read yet
abbrev pub start : Parser
start = record { outer = []; inner = empty_partial; last = None }

-- with the last operand, if there is one
abbrev pub with_last_operand : Option Operand → List Operand → List Operand
with_last_operand None os = os
with_last_operand (Some o) os = os ++ o ∷ []

-- the commands with one more, which has an operand
abbrev pub more_commands : List Operands → List Operand → Option (List Operands)
more_commands cs [] = None
more_commands cs (o ∷ os) = Some (cs ++ operands_from (o ∷ os) ∷ [])

-- the commands of a pipeline that ends here
abbrev pub close_pipeline : Parser → Option (List Operands)
close_pipeline h = more_commands h.inner.commands (with_last_operand h.last h.inner.operands)

-- after white space
abbrev pub apart : Parser → Parser
apart h = record {
  outer = h.outer;
  inner = record { commands = h.inner.commands; operands = with_last_operand h.last h.inner.operands };
  last = None;
}

-- after a bar
abbrev pub after_bar : Parser → List Operands → Parser
after_bar h cs = record { outer = h.outer; inner = record { commands = cs; operands = [] }; last = None }

-- after `(`
abbrev pub open_parenthesis : Option Operand → Parser → Option Parser
open_parenthesis None h = Some (record { outer = h.inner ∷ h.outer; inner = empty_partial; last = None })
open_parenthesis (Some o) h = None

-- after `)`
abbrev pub left_with : List Partial → Option (List Operands) → Option Parser
left_with [] cs = None
left_with (l ∷ ls) None = None
left_with (l ∷ ls) (Some cs) = Some (record { outer = ls; inner = l; last = Some (tree.group (commands_from cs) []) })

-- an operand with one more field in its chain
abbrev pub with_field : Operand → List ℕ → Option Operand
with_field (tree.fields names) name = Some (tree.fields (names ++ name ∷ []))
with_field (tree.variable x names) name = Some (tree.variable x (names ++ name ∷ []))
with_field (tree.group commands names) name = Some (tree.group commands (names ++ name ∷ []))
with_field o name = None

-- a command may begin with this operand, or have it after others
abbrev pub may_stand : List Operands → List Operand → Operand → Bool
may_stand [] os o = true
may_stand (c ∷ cs) [] o = begins_later o
may_stand (c ∷ cs) (p ∷ ps) o = true

abbrev pub ending_with : Parser → Operand → Parser
ending_with h o = record { outer = h.outer; inner = h.inner; last = Some o }

-- a value where this is so, else none
abbrev pub kept_if : {A : Type 0} → Bool → A → Option A
kept_if b x = if b then Some x else None

-- after a token that is an operand, where one may stand
abbrev pub place_operand : Option Operand → Option Operand → Parser → Option Parser
place_operand None None h = None
place_operand None (Some o) h = kept_if (may_stand h.inner.commands h.inner.operands o) (ending_with h o)
place_operand (Some p) o h = None

abbrev pub linked_by : Bool → Operand → List ℕ → Option Operand
linked_by b o name = if b then with_field o name else None

-- after a field: in a chain, or an operand of its own
abbrev pub after_field : Option Operand → Token → Parser → Option Parser
after_field None t h = place_operand None (operand_at t) h
after_field (Some o) t h = option_map (ending_with h) (linked_by (begins_name (name_in t)) o (name_in t))

-- after a token
abbrev pub step_by : TokenKind → Token → Parser → Option Parser
step_by kind.Space t h = Some (apart h)
step_by kind.Pipe t h = option_map (after_bar h) (close_pipeline h)
step_by kind.LeftParenthesis t h = open_parenthesis h.last h
step_by kind.RightParenthesis t h = left_with h.outer (close_pipeline h)
step_by kind.Field t h = after_field h.last t h
step_by k t h = place_operand h.last (operand_at t) h

unfoldable pub step : Token → Parser → Option Parser
step t h = step_by t.kind t h

-- the commands of the pipeline, where no parenthesis is open
abbrev pub finished_with : List Partial → Option (List Operands) → Option (List Operands)
finished_with [] cs = cs
finished_with (l ∷ ls) cs = None

unfoldable pub finished : Parser → Option (List Operands)
finished h = finished_with h.outer (close_pipeline h)

-- after tokens, where each may stand
abbrev pub steps : Option Parser → List Token → Option Parser
steps h [] = h
steps h (t ∷ ts) = steps (option_and_then (step t) h) ts

-- the commands of the pipeline whose rest these tokens are
abbrev pub commands_after : Parser → List Token → Option (List Operands)
commands_after h ts = option_and_then finished (steps (Some h) ts)
