use Rattle.std.proofs.Common.{rules, ◌≡◌, ◌-◌, ◌&&◌, ◌||◌, not, true, false, Option, Some, ◌∙◌, ap, sym}
use Rattle.std.specs.Option.{option_map_or}
use Rattle.std.specs.Str.{bytes_eq}
use Rattle.tmpl_shape.specs.View.{fields_of, shape_of}
use Rattle.tmpl_shape.specs.Shape.{Shape}
use Rattle.tmpl_shape.specs.computed.Shapes.{fields_along, plain_within, some_along, some_part, within_by}
use Rattle.tmpl_shape.specs.computed.View.{base_of}
use Rattle.tmpl_shape.specs.declared.shape.Field.{out-Field}
use Rattle.tmpl_shape.proofs.LeafLemmas.{is-leaf, is-end, part-leaf}
use Rattle.tmpl_shape.proofs.ViewLemmas.{either_seen, named_seen, field_seen}
use Rattle.tmpl_shape.proofs.StepLemmas.{first-ends, second-ends, names-agree, names-differ, within_along, within-more, within-ends, leaf-along, part-more, part-ends}
use Rattle.tmpl_shape.proofs.inclusion.+within.Goals as goal

pub within_by-loop-rest-preserved : goal.within_by-loop-rest-preserved
within_by-loop-rest-preserved t c =
    let base = base_of c.args.base.now in
    let one = shape_of c.in-Either.first.value in
    let two = shape_of c.in-Either.second.value in
    let other = shape_of c.args.other.now in
    let holds : within_by base c.args.names (c.args.steps - 1) one other ≡ true = search rules in
    let step : within_along base c.args.names (c.args.steps - 1) other (shape_of c.args.one.now) ≡ within_along base c.args.names (c.args.steps - 1) other two =
    within-more base c.args.names (c.args.steps - 1) (shape_of c.args.one.now) (shape_of c.loop-rest.rest.now) one two other c.loop-rest.invariant
    (ap shape_of c.in-Either.is ∙ either_seen c.in-Either.first c.in-Either.second) holds in
    search (rules, step)

pub within_by-returns-in_default-rest : goal.within_by-returns-in_default-rest
within_by-returns-in_default-rest t c =
    let base = base_of c.args.base.now in
    let rest = c.loop-rest.rest.now in
    within-ends base c.args.names c.args.steps (shape_of c.args.one.now) (shape_of rest) (shape_of c.args.other.now) c.some_part.result c.if-steps-eq0.false c.loop-rest.invariant
    (c.some_part.ensures
    ∙ sym (leaf-along base c.args.names (c.args.steps - 1) (shape_of rest) (shape_of c.args.other.now)
    (is-leaf base c.args.names rest c.in_default-rest.not-Never c.in_default.not-Either c.in_default-rest.not-Named)))

pub some_part-loop-rest-preserved : goal.some_part-loop-rest-preserved
some_part-loop-rest-preserved t c =
    let base = base_of c.args.base.now in
    let p = plain_within (within_by base c.args.names c.args.steps) (shape_of c.args.one.now) in
    let f = some_part base (c.args.reach - 1) p in
    let one = shape_of c.in-Either.first.value in
    let two = shape_of c.in-Either.second.value in
    let apart : f one ≡ false = search rules in
    let step : some_along base f p (shape_of c.args.other.now) ≡ some_along base f p two =
    part-more base p f (shape_of c.args.other.now) (shape_of c.loop-rest.rest.now) one two c.loop-rest.invariant
    (ap shape_of c.in-Either.is ∙ either_seen c.in-Either.first c.in-Either.second) apart in
    search (rules, step)

pub some_part-returns-in-Some : goal.some_part-returns-in-Some
some_part-returns-in-Some t c =
    let base = base_of c.args.base.now in
    let p = plain_within (within_by base c.args.names c.args.steps) (shape_of c.args.one.now) in
    let f = some_part base (c.args.reach - 1) p in
    let rest = c.loop-rest.rest.now in
    let found : ◌≡◌ {A = Option Shape} (Some (shape_of c.in-Some.shape.now)) (base.defs c.in-Named.name) = search rules in
    part-ends base p c.args.reach (shape_of c.args.other.now) (shape_of rest) c.some_part-in-Some.result c.if-reach-eq0.false c.loop-rest.invariant
    (c.some_part-in-Some.ensures ∙ ap (λ o. option_map_or f o false) found ∙ sym (ap (some_along base f p) (ap shape_of c.in-Named.is ∙ named_seen c.in-Named.name)))

pub some_part-returns-in_default-rest : goal.some_part-returns-in_default-rest
some_part-returns-in_default-rest t c =
    let base = base_of c.args.base.now in
    let p = plain_within (within_by base c.args.names c.args.steps) (shape_of c.args.one.now) in
    let f = some_part base (c.args.reach - 1) p in
    let rest = c.loop-rest.rest.now in
    part-ends base p c.args.reach (shape_of c.args.other.now) (shape_of rest) c.plain_within.result c.if-reach-eq0.false c.loop-rest.invariant
    (c.plain_within.ensures ∙ sym (part-leaf base f p rest c.in_default-rest.not-Anything c.in_default.not-Either c.in_default-rest.not-Named))

pub fields_along-returns-then-ne : goal.fields_along-returns-then-ne
fields_along-returns-then-ne t c =
    let one = out-Field c.in-Field.first.value in
    let two = out-Field c.in-Field-others_rest.other.value in
    let apart : bytes_eq one.name two.name ≡ false = search rules in
    names-differ (within_by (base_of c.args.base.now) c.args.names c.args.steps) (fields_of c.loop-rest.rest.now) (fields_of c.loop-rest.others_rest.now) one.name two.name
    one.required two.required (shape_of one.shape) (shape_of two.shape) (fields_of one.rest) (fields_of two.rest) c.all_fields_within-then-ne.result
    (ap fields_of c.in-Field.is ∙ field_seen c.in-Field.first) (ap fields_of c.in-Field-others_rest.is ∙ field_seen c.in-Field-others_rest.other) apart
    c.all_fields_within-then-ne.ensures ∙ sym c.loop-rest.invariant

pub fields_along-returns-then-not-within_by : goal.fields_along-returns-then-not-within_by
fields_along-returns-then-not-within_by t c =
    let one = out-Field c.in-Field.first.value in
    let two = out-Field c.in-Field-others_rest.other.value in
    let w = within_by (base_of c.args.base.now) c.args.names c.args.steps in
    let same : bytes_eq one.name two.name ≡ true = search rules in
    let kept : (not two.required || one.required) ≡ true = search rules in
    let no : w (shape_of one.shape) (shape_of two.shape) ≡ false = search rules in
    sym (c.loop-rest.invariant
    ∙ names-agree w (fields_of c.loop-rest.rest.now) (fields_of c.loop-rest.others_rest.now) one.name two.name one.required two.required (shape_of one.shape)
    (shape_of two.shape) (fields_of one.rest) (fields_of two.rest) (ap fields_of c.in-Field.is ∙ field_seen c.in-Field.first)
    (ap fields_of c.in-Field-others_rest.is ∙ field_seen c.in-Field-others_rest.other) same kept
    ∙ ap (λ b. b && fields_along w (fields_of one.rest) (fields_of two.rest)) no)

pub fields_along-loop-rest-preserved : goal.fields_along-loop-rest-preserved
fields_along-loop-rest-preserved t c =
    let one = out-Field c.in-Field.first.value in
    let two = out-Field c.in-Field-others_rest.other.value in
    let w = within_by (base_of c.args.base.now) c.args.names c.args.steps in
    let same : bytes_eq one.name two.name ≡ true = search rules in
    let kept : (not two.required || one.required) ≡ true = search rules in
    let yes : w (shape_of one.shape) (shape_of two.shape) ≡ true = search rules in
    let step : fields_along w (fields_of c.args.fields.now) (fields_of c.args.others.now) ≡ fields_along w (fields_of one.rest) (fields_of two.rest) =
    c.loop-rest.invariant
    ∙ names-agree w (fields_of c.loop-rest.rest.now) (fields_of c.loop-rest.others_rest.now) one.name two.name one.required two.required (shape_of one.shape)
    (shape_of two.shape) (fields_of one.rest) (fields_of two.rest) (ap fields_of c.in-Field.is ∙ field_seen c.in-Field.first)
    (ap fields_of c.in-Field-others_rest.is ∙ field_seen c.in-Field-others_rest.other) same kept
    ∙ ap (λ b. b && fields_along w (fields_of one.rest) (fields_of two.rest)) yes in
    search (rules, step)

pub fields_along-returns-in_default-others_rest : goal.fields_along-returns-in_default-others_rest
fields_along-returns-in_default-others_rest t c =
    second-ends (within_by (base_of c.args.base.now) c.args.names c.args.steps) (fields_of c.loop-rest.rest.now) (fields_of c.loop-rest.others_rest.now)
    c.all_fields_within.result (is-end c.loop-rest.others_rest.now c.in_default-others_rest.not-Field) c.all_fields_within.ensures ∙ sym c.loop-rest.invariant

pub fields_along-returns : goal.fields_along-returns
fields_along-returns t c =
    first-ends (within_by (base_of c.args.base.now) c.args.names c.args.steps) (fields_of c.loop-rest.rest.now) (fields_of c.loop-rest.others_rest.now)
    c.all_fields_within-2.result (is-end c.loop-rest.rest.now c.in_default.not-Field) c.all_fields_within-2.ensures ∙ sym c.loop-rest.invariant
