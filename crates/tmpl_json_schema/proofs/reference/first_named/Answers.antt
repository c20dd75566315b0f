use Rattle.std.proofs.Common.{sym, ◌∙◌}
use Rattle.tmpl_json_schema.proofs.ReferenceLemmas.{named-first, none-named}
use Rattle.tmpl_json_schema.proofs.reference.first_named.Goals as goal

pub returns-then-is_named : goal.returns-then-is_named
returns-then-is_named c =
    sym (named-first c.args.draft c.args.name.now c.into_iter-key-iterator.result c.args.definitions.now.entries c.loop-key.key-iterator c.next.new.self
    c.loop-key.yielded (c.in-Some.key, c.in-Some.schema) (c.into_iter-key-iterator.ensures.into_iter_gives ∙ c.iter-key-items.ensures.rest) c.loop-key.yielded_by
    c.in-Some.ensures.steps c.loop-key.invariant (sym c.is_named.ensures ∙ c.if-is_named.true))

pub returns : goal.returns
returns c =
    sym (none-named c.args.draft c.args.name.now c.into_iter-key-iterator.result c.args.definitions.now.entries c.loop-key.key-iterator
    c.loop-key.yielded (c.into_iter-key-iterator.ensures.into_iter_gives ∙ c.iter-key-items.ensures.rest) c.loop-key.yielded_by
    c.in-None.ensures.steps.0 c.loop-key.invariant)
