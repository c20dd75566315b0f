use Rattle.std.proofs.Common.{◌≡◌, map, take}
use Rattle.tmpl_lex.specs.View.{token_of}
use Rattle.tmpl_problems.specs.Tokens.{names_of}
use Rattle.tmpl_problems.specs.computed.Adds.{mark_each}
use Rattle.tmpl_problems.proofs.survey.use_variables.Given as goal

abbrev pub invariant-loop-token : goal.invariant-loop-token
invariant-loop-token l = l.variables.entries ≡ mark_each (names_of (map token_of (take l.token-index l.rest))) l.initial.variables.entries
