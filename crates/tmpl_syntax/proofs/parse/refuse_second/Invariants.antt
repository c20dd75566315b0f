use Rattle.std.proofs.Common.{◌≡◌, drop, map}
use Rattle.tmpl_syntax.specs.computed.Begun.{definition_at}
use Rattle.tmpl_syntax.specs.computed.View.{definition_of, known_names}
use Rattle.tmpl_syntax.specs.computed.Parse.{second_from, second_in}
use Rattle.tmpl_syntax.proofs.parse.refuse_second.Given as goal

-- what the rest gives, after definitions of these names, is what all give
abbrev pub invariant-loop-definition : goal.invariant-loop-definition
invariant-loop-definition l = record {
  by_line : second_from (known_names l.names) (drop l.definition-index (map definition_of l.definitions)) ≡ second_in (map definition_of l.definitions);
  by_start : second_from (known_names l.names) (drop l.definition-index (map definition_at l.definitions)) ≡ second_in (map definition_at l.definitions);
}
