use Rattle.std.proofs.Common.{◌++◌, ap, ◌∙◌}
use Rattle.tmpl_json_schema.specs.computed.Inferred.{seen}
use Rattle.tmpl_json_schema.proofs.MeetLemmas.{all-values}
use Rattle.tmpl_json_schema.proofs.infer.add_values_of.Goals as goal

pub returns : goal.returns
returns c =
    c.loop-value.invariant ∙ ap (λ ds. seen c.args.all.now.items ++ ds)
    (all-values c.into_iter-value-iterator.result c.args.map.now.entries c.loop-value.value-iterator c.loop-value.yielded
    (c.into_iter-value-iterator.ensures.into_iter_gives ∙ c.iter-value-items.ensures.rest) c.loop-value.yielded_by c.in-None.ensures.steps.0)
