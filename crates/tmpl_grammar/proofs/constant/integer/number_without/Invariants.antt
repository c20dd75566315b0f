use Rattle.std.proofs.Common.{◌≡◌, ◌≤◌, ◌^◌, drop, filter}
use Rattle.tmpl_grammar.specs.computed.Integer.{is_plain, number_in}
use Rattle.tmpl_grammar.specs.computed.Within.{within}
use Rattle.tmpl_grammar.proofs.IntegerLemmas.{left}
use Rattle.tmpl_grammar.proofs.constant.integer.number_without.Given as goal

abbrev pub invariant-digits : goal.invariant-digits
invariant-digits l = record {
  fits : l.value ≤ 2 ^ 63;
  same : within (number_in l.base (filter is_plain l.bytes)) ≡ left l.base l.value (drop l.byte-index l.bytes);
}
