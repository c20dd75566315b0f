use Rattle.std.proofs.Common.{◌≡◌, map, take}
use Rattle.tmpl_lex.specs.View.{token_of}
use Rattle.tmpl_problems.specs.Tokens.{names_of}
use Rattle.tmpl_problems.proofs.variables.all_names.Given as goal

abbrev pub invariant-loop-token : goal.invariant-loop-token
invariant-loop-token l = map (λ name. name.now) l.names.items ≡ names_of (map token_of (take l.token-index l.tokens))
