use Rattle.std.proofs.Common.{ap, subst}
use Rattle.std.proofs.lemmas.Result.{on_ok_weaker}
use Rattle.tmpl_syntax.specs.View.{set_view}
use Rattle.tmpl_shape.specs.Shape.{Shape}
use Rattle.tmpl_shape.specs.View.{defs_in, schema_of}
use Rattle.tmpl_schema.specs.computed.Safe.{NeverFailsIn}
use Rattle.tmpl_shape.specs.computed.Shapes.{Base}
use Rattle.tmpl_schema.proofs.AcceptLemmas.{schema-accepted}
use Rattle.tmpl_schema.proofs.check.check_schema.Goals as goal

pub returns : goal.returns
returns c =
    let base : Base = record { defs = defs_in c.as_slice.result.now; names = 6; limit = 150 } in
    let asked = c.args.mode in
    let stops = c.args.stops.now in
    let set = set_view c.args.set.now in
    let name = c.args.name.now in
    on_ok_weaker c.check_shape.result
    (λ h. schema-accepted base asked stops set name (schema_of c.args.schema.now) (ap defs_in c.as_slice.ensures.value)
    (subst (λ (s : Shape). NeverFailsIn base asked stops set name s) c.in_ok-shape.ensures h)) c.check_shape.ensures
