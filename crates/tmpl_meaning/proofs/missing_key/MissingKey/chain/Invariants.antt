use Rattle.std.proofs.Common.{◌≡◌, drop, false}
use Rattle.tmpl_values.specs.View.{is_made, val_of}
use Rattle.tmpl_meaning.specs.Pipeline.{chain}
use Rattle.tmpl_meaning.proofs.missing_key.MissingKey.chain.Given as goal

abbrev pub invariant-loop-name : goal.invariant-loop-name
invariant-loop-name l = record {
  value : chain l.self l.names (val_of l.initial.value) ≡ chain l.self (drop l.name-index l.names) (val_of l.value);
  borrowed : is_made l.initial.value ≡ false → is_made l.value ≡ false;
}
