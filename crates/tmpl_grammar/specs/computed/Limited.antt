-- The parser of pipelines as the code has it: where parentheses nest too deep it lets go of what stands in them once
-- they close, and tells for all that whether the tokens are a pipeline.
use Rattle.std.specs.Prelude.{Bool, true, false, List, [], ◌∷◌, Option, Some}
use Rattle.std.specs.Prelude.{option_map, option_and_then}
use Rattle.tmpl_lex.specs.Piece.{Token}
use Rattle.tmpl_grammar.specs.Tree as tree
use Rattle.tmpl_grammar.specs.Tree.{Operand, Operands, Pipeline, commands_from}
use Rattle.tmpl_grammar.specs.computed.Depth.{limited_by}
use Rattle.tmpl_grammar.specs.computed.Parser.{Parser, step, finished}

-- an operand, with nothing in its parentheses and no chain after them
abbrev pub without_contents : Operand → Operand
without_contents (tree.group commands names) = tree.group tree.no_command []
without_contents o = o

-- with what stands in parentheses, or without it
abbrev pub prune : Bool → Parser → Parser
prune true h = h
prune false h = record { outer = h.outer; inner = h.inner; last = option_map without_contents h.last }

-- after a token
unfoldable pub pruned_step : Bool → Token → Parser → Option Parser
pruned_step keeps t h = option_map (prune keeps) (step t h)

-- after tokens, where each may stand
abbrev pub pruned_steps : Bool → Option Parser → List Token → Option Parser
pruned_steps keeps h [] = h
pruned_steps keeps h (t ∷ ts) = pruned_steps keeps (option_and_then (pruned_step keeps t) h) ts

-- the commands of the pipeline whose rest these tokens are
abbrev pub pruned_commands : Bool → Parser → List Token → Option (List Operands)
pruned_commands keeps h ts = option_and_then finished (pruned_steps keeps (Some h) ts)

-- the pipeline of these commands, left out where nothing in parentheses was kept
abbrev pub limited_commands : Bool → Option (List Operands) → Option Pipeline
limited_commands keeps o = option_map (λ cs. limited_by keeps (commands_from cs)) o
