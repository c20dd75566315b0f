use Rattle.std.proofs.Common.{◌≡◌, ◌≤◌, drop}
use Rattle.tmpl_funcs.specs.printf.Form.{number_in}
use Rattle.tmpl_funcs.specs.computed.Reading.{number_after}
use Rattle.tmpl_funcs.proofs.NumberLemmas.{most}
use Rattle.tmpl_funcs.proofs.printf.reading.number.Given as goal

abbrev pub invariant-loop-digit : goal.invariant-loop-digit
invariant-loop-digit l = record {
  value : number_in l.digits ≡ number_after l.n (drop l.digit-index l.digits);
  bounded : l.n ≤ most l.digit-index;
}
