use Rattle.std.proofs.Common.{◌∙◌, string_bytes, subst}
use Rattle.serde_json.specs.View.{view, members_view}
use Rattle.tmpl_json_schema.specs.computed.Defined.{IsUnbased}
use Rattle.tmpl_json_schema.proofs.BaseLemmas.{items-unbased, members-unbased}
use Rattle.tmpl_json_schema.proofs.MeetLemmas.{all-taken, each-member}
use Rattle.tmpl_json_schema.proofs.StepLemmas.{all-more}
use Rattle.tmpl_json_schema.proofs.base.+base.Goals as goal

pub items_unbased-returns : goal.items_unbased-returns
items_unbased-returns n c = λ _.
    items-unbased c.args.key.now c.args.items.now (all-taken _ c.args.items.now c.loop-item.item-index c.loop-item-test.false c.loop-item.invariant)

pub members_unbased-returns : goal.members_unbased-returns
members_unbased-returns n c = λ _.
    members-unbased c.args.key.now (members_view c.args.members.now.entries)
    (each-member (IsUnbased c.args.key.now) c.into_iter-name-iterator.result c.args.members.now.entries c.loop-name.name-iterator
    c.loop-name.yielded (c.into_iter-name-iterator.ensures.into_iter_gives ∙ c.iter-name-items.ensures.rest) c.loop-name.yielded_by c.in-None.ensures.steps.0 c.loop-name.invariant)

pub members_unbased-loop-name-preserved : goal.members_unbased-loop-name-preserved
members_unbased-loop-name-preserved n c =
    all-more (λ x. IsUnbased c.args.key.now (string_bytes x.0.now) (view x.1.now)) c.loop-name.yielded (c.in-Some.name, c.in-Some.member) c.loop-name.invariant
    (subst (λ k. IsUnbased c.args.key.now k (view c.in-Some.member.now)) c.as_str.ensures.value (c.is_member_unbased.ensures c.if-not-is_member_unbased.false))
