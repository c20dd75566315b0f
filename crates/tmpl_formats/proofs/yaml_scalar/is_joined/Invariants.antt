use Rattle.std.proofs.Common.{◌≡◌, drop}
use Rattle.tmpl_formats.specs.YamlScalar.{is_joined}
use Rattle.tmpl_formats.proofs.yaml_scalar.is_joined.Given as goal

abbrev pub invariant-loop-byte : goal.invariant-loop-byte
invariant-loop-byte l = is_joined l.in_flow l.before (drop l.byte-index l.text) ≡ is_joined l.in_flow 0 l.text
