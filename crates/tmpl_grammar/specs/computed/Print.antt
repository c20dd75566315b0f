-- What is left to be printed in the midst of commands or operands.
use Rattle.std.specs.Prelude.{ℕ, Bool, true, false, List, []}
use Rattle.tmpl_grammar.specs.Tree.{Operands, Pipeline}
use Rattle.tmpl_lex.specs.Piece.{Token}
use Rattle.tmpl_grammar.specs.Print.{command_tokens, pipeline_tokens, later_tokens, more_tokens}

-- a separator, but none before the first
abbrev pub unless : Bool → List ℕ → List ℕ
unless true separator = []
unless false separator = separator

-- the tokens of commands, the first ones or those after others
abbrev pub commands_by : Bool → Pipeline → List Token
commands_by true cs = pipeline_tokens cs
commands_by false cs = later_tokens cs

-- the tokens of operands, the first ones or those after others
abbrev pub operands_by : Bool → Operands → List Token
operands_by true os = command_tokens os
operands_by false os = more_tokens os
