use Rattle.std.proofs.Common.{subst, sym}
use Rattle.tmpl_shape.specs.Shape.{HasShape, Shape}
use Rattle.tmpl_shape.specs.View.{shape_of}
use Rattle.tmpl_shape.proofs.MeetLemmas.{meet-has}
use Rattle.tmpl_json_schema.specs.computed.Fitting.{NamesIn, context_of}
use Rattle.tmpl_json_schema.proofs.read.meet_shapes.Goals as goal

pub returns-in-Ok : goal.returns-in-Ok
returns-in-Ok c = λ n v h k.
    let names = NamesIn (context_of c.args.reader.now) n in
    subst (λ (s : Shape). HasShape names s v) (sym c.in-Ok.ensures) (meet-has names c.args.reader.now.levels (shape_of c.args.one) (shape_of c.args.other) v h k)
