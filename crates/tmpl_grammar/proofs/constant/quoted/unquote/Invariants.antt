use Rattle.std.proofs.Common.{◌≡◌, length}
use Rattle.tmpl_grammar.specs.computed.Quoted.{unquoted_text}
use Rattle.tmpl_grammar.proofs.QuotedLemmas.{led}
use Rattle.tmpl_grammar.proofs.constant.quoted.unquote.Given as goal

abbrev pub invariant-loop-rest : goal.invariant-loop-rest
invariant-loop-rest l = unquoted_text l.quote l.bytes ≡ led l.text.items (unquoted_text l.quote l.rest)

abbrev pub decreases-loop-rest : goal.decreases-loop-rest
decreases-loop-rest l = length l.rest
