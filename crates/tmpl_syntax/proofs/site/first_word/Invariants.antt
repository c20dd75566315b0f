use Rattle.std.proofs.Common.{◌≡◌, drop, map}
use Rattle.tmpl_lex.specs.View.{token_of}
use Rattle.tmpl_syntax.specs.Refusals.{first_word}
use Rattle.tmpl_syntax.proofs.site.first_word.Given as goal

abbrev pub invariant-loop-token : goal.invariant-loop-token
invariant-loop-token l = first_word (map token_of l.tokens) ≡ first_word (map token_of (drop l.token-index l.tokens))
