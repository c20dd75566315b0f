use Rattle.std.proofs.Common.{◌≡◌, ◌∙◌, IfOk, ap, sym, subst}
use Rattle.tmpl_shape.specs.Shape.{Fields}
use Rattle.tmpl_shape.specs.View.{fields_of}
use Rattle.tmpl_shape.specs.computed.Meet.{with_unlisted}
use Rattle.tmpl_shape.specs.computed.Shapes.{onto}
use Rattle.tmpl_shape.proofs.LeafLemmas.{is-end}
use Rattle.tmpl_shape.proofs.MeetLemmas.{unlisted-ends}
use Rattle.tmpl_shape.proofs.intersection.with_unlisted.Goals as goal

pub returns : goal.returns
returns c =
    let fs = fields_of c.args.fields.now in
    let rest = fields_of c.args.rest in
    let left = c.loop-left.left.now in
    let all : with_unlisted fs (fields_of c.args.others.now) rest ≡ onto (fields_of c.loop-left.back) rest =
    c.loop-left.invariant ∙ ap (onto (fields_of c.loop-left.back)) (unlisted-ends fs (fields_of left) rest (is-end left c.in_default.not-Field)) in
    subst (λ (gs : Fields). IfOk c.fields_of_all.result (λ x. fields_of x ≡ gs)) (sym all) c.fields_of_all.ensures
