use Rattle.std.proofs.Common.{◌≡◌, drop, false}
use Rattle.tmpl_formats.specs.YamlScalar.{is_numeric_text}
use Rattle.tmpl_formats.proofs.yaml_scalar.is_numeric_text.Given as goal

abbrev pub invariant-loop-byte : goal.invariant-loop-byte
invariant-loop-byte l = is_numeric_text l.has_dot (drop l.byte-index l.text) ≡ is_numeric_text false l.text
