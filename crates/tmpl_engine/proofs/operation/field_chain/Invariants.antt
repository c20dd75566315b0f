use Rattle.std.proofs.Common.{◌≡◌, drop, false, map}
use Rattle.tmpl_values.specs.View.{is_made, val_of}
use Rattle.tmpl_meaning.specs.Pipeline.{chain}
use Rattle.tmpl_code.specs.View.{letters_at, names_seen}
use Rattle.tmpl_engine.proofs.operation.field_chain.Given as goal

abbrev pub invariant-loop-span : goal.invariant-loop-span
invariant-loop-span l = record {
  value :
      chain l.missing_key (names_seen l.names) (val_of l.initial.value)
      ≡ chain l.missing_key (map (letters_at l.names.letters.now) (drop l.span-index l.names.spans.now)) (val_of l.value);
  borrowed : is_made l.initial.value ≡ false → is_made l.value ≡ false;
}
