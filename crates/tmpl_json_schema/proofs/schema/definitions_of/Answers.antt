use Rattle.std.proofs.Common.{[], ◌∷◌, ◌++◌}
use Rattle.std.proofs.lemmas.List.Elements.{All-push, All-same}
use Rattle.tmpl_json_schema.specs.computed.Fitting.{IsDefinition, context_of}
use Rattle.tmpl_json_schema.proofs.schema.definitions_of.Goals as goal

pub loop-name-preserved : goal.loop-name-preserved
loop-name-preserved c =
    let P = IsDefinition (context_of c.args.reader.now) in
    let old = c.loop-name.definitions.items in
    let new = c.in_ok-definition_of.field-0 in
    All-same P c.push.new.self.items (old ++ new ∷ []) c.in_ok-push.ensures.items (All-push P old new c.loop-name.invariant c.in_ok-definition_of.ensures)
