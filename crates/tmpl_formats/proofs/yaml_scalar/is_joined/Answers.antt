use Rattle.std.proofs.Common.{arith, sym, ◌∙◌}
use Rattle.tmpl_formats.proofs.YamlScalarLemmas.{joined-more, joined-stop, joined-end}
use Rattle.tmpl_formats.specs.YamlScalar.{is_joined}
use Rattle.tmpl_formats.proofs.yaml_scalar.is_joined.Goals as goal

pub returns-then-not-may_follow : goal.returns-then-not-may_follow
returns-then-not-may_follow c =
    joined-stop c.args.in_flow c.args.text.now c.loop-byte.byte-index c.loop-byte.before (is_joined c.args.in_flow 0 c.args.text.now) (omega arith) c.loop-byte.invariant (sym c.if-not-may_follow.ensures)

pub loop-byte-preserved : goal.loop-byte-preserved
loop-byte-preserved c =
    joined-more c.args.in_flow c.args.text.now c.loop-byte.byte-index c.loop-byte.before (is_joined c.args.in_flow 0 c.args.text.now) (omega arith) c.loop-byte.invariant (sym c.if-not-may_follow.ensures)

pub returns : goal.returns
returns c = c.may_end.ensures ∙ joined-end c.args.in_flow c.args.text.now c.loop-byte.byte-index c.loop-byte.before (is_joined c.args.in_flow 0 c.args.text.now) (omega arith) c.loop-byte.invariant
