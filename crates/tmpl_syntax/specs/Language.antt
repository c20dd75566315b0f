-- The languages that are told apart: by the actions that they have. What differs is with which controls an else part
-- may begin.
use Rattle.std.specs.Prelude.{Bool, true, false}
use Rattle.tmpl_grammar.specs.Action.{Action, else_branch}
use Rattle.tmpl_grammar.specs.declared.action.Branch.TheVariants as branch

-- whether an action is one of the language
abbrev pub Language : Type 0
Language = Action → Bool

-- this language has all that the grammar has
abbrev pub every_action : Language
every_action a = true

-- Go 1.22 has `else if` alone: `else with` came with Go 1.23
abbrev pub go_1_22 : Language
go_1_22 (else_branch branch.With h) = false
go_1_22 a = true
