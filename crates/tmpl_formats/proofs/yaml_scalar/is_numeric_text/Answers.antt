use Rattle.std.proofs.Common.{arith, sym, false}
use Rattle.tmpl_formats.proofs.YamlScalarLemmas.{numeric-some, numeric-none, numeric-end}
use Rattle.tmpl_formats.specs.YamlScalar.{is_numeric_text}
use Rattle.tmpl_formats.proofs.yaml_scalar.is_numeric_text.Goals as goal

pub returns-in-None : goal.returns-in-None
returns-in-None c =
    numeric-none c.args.text.now c.loop-byte.byte-index c.loop-byte.has_dot (is_numeric_text false c.args.text.now) (omega arith) c.loop-byte.invariant (sym c.in-None.ensures)

pub loop-byte-preserved : goal.loop-byte-preserved
loop-byte-preserved c =
    numeric-some c.args.text.now c.loop-byte.byte-index c.loop-byte.has_dot c.in-Some.next (is_numeric_text false c.args.text.now) (omega arith) c.loop-byte.invariant (sym c.in-Some.ensures)

pub returns : goal.returns
returns c = numeric-end c.args.text.now c.loop-byte.byte-index c.loop-byte.has_dot (is_numeric_text false c.args.text.now) (omega arith) c.loop-byte.invariant
