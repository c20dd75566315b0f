use Rattle.std.proofs.Common.{rules, ◌≡◌, ◌∙◌, None, string_bytes, subst}
use Rattle.serde_json.specs.Find.{as_object}
use Rattle.serde_json.specs.declared.value.Value.{the_lemmas}
use Rattle.serde_json.specs.View.{view, members_view}
use Rattle.tmpl_json_schema.specs.Keywords.{IsKnown}
use Rattle.tmpl_json_schema.specs.computed.Known.{IsRule}
use Rattle.tmpl_json_schema.proofs.KnownLemmas.{all-known, all-listed, all-named, no-object}
use Rattle.tmpl_json_schema.proofs.MeetLemmas.{all-taken, each-member}
use Rattle.tmpl_json_schema.proofs.StepLemmas.{all-more}
use Rattle.tmpl_json_schema.proofs.known.+known.Goals as goal

pub is_known-returns-in_default : goal.is_known-returns-in_default
is_known-returns-in_default t c = λ _.
    let none : as_object (view c.args.schema.now) ≡ None = search (rules, the_lemmas) in
    no-object (view c.args.schema.now) none

pub are_known-returns : goal.are_known-returns
are_known-returns n c = λ _.
    all-known (members_view c.args.rules.now.entries)
    (each-member IsRule c.into_iter-keyword-iterator.result c.args.rules.now.entries c.loop-keyword.keyword-iterator
    c.loop-keyword.yielded (c.into_iter-keyword-iterator.ensures.into_iter_gives ∙ c.iter-keyword-items.ensures.rest) c.loop-keyword.yielded_by c.in-None.ensures.steps.0 c.loop-keyword.invariant)

pub are_known-loop-keyword-preserved : goal.are_known-loop-keyword-preserved
are_known-loop-keyword-preserved n c =
    all-more (λ x. IsRule (string_bytes x.0.now) (view x.1.now)) c.loop-keyword.yielded (c.in-Some.keyword, c.in-Some.rule) c.loop-keyword.invariant
    (subst (λ k. IsRule k (view c.in-Some.rule.now)) c.as_str.ensures.value (c.is_rule.ensures c.if-not-is_rule.false))

pub each_named-returns : goal.each_named-returns
each_named-returns n c = λ _.
    all-named (members_view c.args.schemas.now.entries)
    (each-member (λ k d. IsKnown d) c.into_iter-name-iterator.result c.args.schemas.now.entries c.loop-name.name-iterator
    c.loop-name.yielded (c.into_iter-name-iterator.ensures.into_iter_gives ∙ c.iter-name-items.ensures.rest) c.loop-name.yielded_by c.in-None.ensures.steps.0 c.loop-name.invariant)

pub each_listed-returns : goal.each_listed-returns
each_listed-returns n c = λ _.
    all-listed c.args.schemas.now (all-taken _ c.args.schemas.now c.loop-schema.schema-index c.loop-schema-test.false c.loop-schema.invariant)
