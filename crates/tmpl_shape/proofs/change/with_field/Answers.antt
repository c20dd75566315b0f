use Rattle.std.proofs.Common.{rules, ◌≡◌, ◌∙◌, true, IfOk, ap, sym, subst}
use Rattle.std.specs.Str.{bytes_eq}
use Rattle.tmpl_shape.specs.Shape.{Fields}
use Rattle.tmpl_shape.specs.View.{fields_of, shape_of}
use Rattle.tmpl_shape.specs.computed.Shapes.{onto, with_field}
use Rattle.tmpl_shape.specs.declared.shape.Field.{out-Field}
use Rattle.tmpl_shape.proofs.LeafLemmas.{is-end}
use Rattle.tmpl_shape.proofs.StepLemmas.{with-ends, with-found}
use Rattle.tmpl_shape.proofs.ViewLemmas.{field_seen}
use Rattle.tmpl_shape.proofs.change.with_field.Goals as goal

pub returns-then-eq : goal.returns-then-eq
returns-then-eq c =
    let n = c.args.name.now in
    let t = shape_of c.loop-rest.shape-1 in
    let rest = fields_of c.loop-rest.rest.now in
    let first = out-Field c.in-Field.first.value in
    let same : bytes_eq n first.name ≡ true = search rules in
    let here = with-found n first.name first.required (shape_of first.shape) t rest (fields_of first.rest) (ap fields_of c.in-Field.is ∙ field_seen c.in-Field.first) same in
    let all : with_field n (shape_of c.args.shape) (fields_of c.args.fields.now) ≡ onto (fields_of c.loop-rest.back) (fields_of c.in_ok-last.last) =
    c.loop-rest.invariant ∙ ap (onto (fields_of c.loop-rest.back)) (here ∙ sym c.in_ok-last.ensures) in
    subst (λ (fs : Fields). IfOk c.fields_of_all.result (λ x. fields_of x ≡ fs)) (sym all) c.fields_of_all.ensures

pub returns : goal.returns
returns c =
    let n = c.args.name.now in
    let t = shape_of c.loop-rest.shape-1 in
    let rest = fields_of c.loop-rest.rest.now in
    let here = with-ends n t rest (is-end c.loop-rest.rest.now c.in_default.not-Field) in
    let all : with_field n (shape_of c.args.shape) (fields_of c.args.fields.now) ≡ onto (fields_of c.loop-rest.back) (fields_of c.in_ok-last-2.last) =
    c.loop-rest.invariant ∙ ap (onto (fields_of c.loop-rest.back)) (here ∙ sym c.in_ok-last-2.ensures) in
    subst (λ (fs : Fields). IfOk c.fields_of_all-2.result (λ x. fields_of x ≡ fs)) (sym all) c.fields_of_all-2.ensures
