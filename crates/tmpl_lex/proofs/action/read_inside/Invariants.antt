use Rattle.std.proofs.Common.{map, length}
use Rattle.tmpl_lex.specs.View.{token_of}
use Rattle.tmpl_lex.proofs.ActionLemmas.{IsReadTo}
use Rattle.tmpl_lex.proofs.action.read_inside.Given as goal

abbrev pub invariant-loop-end : goal.invariant-loop-end
invariant-loop-end l = IsReadTo l.bytes (map token_of l.tokens.items) l.rest

abbrev pub decreases-loop-end : goal.decreases-loop-end
decreases-loop-end l = length l.rest
