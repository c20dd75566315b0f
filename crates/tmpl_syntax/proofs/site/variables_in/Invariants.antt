use Rattle.std.proofs.Common.{◌≡◌, ◌++◌, drop, map}
use Rattle.std.specs.List.{filter_map}
use Rattle.tmpl_lex.specs.View.{token_of}
use Rattle.tmpl_syntax.specs.Refusals.{variable_in}
use Rattle.tmpl_syntax.specs.computed.Refusals.{names_held}
use Rattle.tmpl_syntax.proofs.site.variables_in.Given as goal

abbrev pub invariant-loop-token : goal.invariant-loop-token
invariant-loop-token l = filter_map variable_in (map token_of l.tokens)
    ≡ (names_held l.names.items).declares ++ filter_map variable_in (map token_of (drop l.token-index l.tokens))
