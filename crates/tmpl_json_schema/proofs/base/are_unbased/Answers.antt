use Rattle.std.proofs.Common.{◌≡◌, ◌∙◌, false}
use Rattle.serde_json.specs.View.{members_view}
use Rattle.tmpl_json_schema.specs.Document.{has_base}
use Rattle.tmpl_json_schema.proofs.BaseLemmas.{below-unbased}
use Rattle.tmpl_json_schema.proofs.MeetLemmas.{each-member}
use Rattle.tmpl_json_schema.proofs.base.are_unbased.Goals as goal

pub returns : goal.returns
returns c = λ _.
    below-unbased c.args.key.now (members_view c.args.members.now.entries)
    (each-member (λ k d. has_base c.args.key.now d ≡ false) c.into_iter-name-iterator.result c.args.members.now.entries c.loop-name.name-iterator
    c.loop-name.yielded (c.into_iter-name-iterator.ensures.into_iter_gives ∙ c.iter-name-items.ensures.rest) c.loop-name.yielded_by c.in-None.ensures.steps.0 c.loop-name.invariant)
