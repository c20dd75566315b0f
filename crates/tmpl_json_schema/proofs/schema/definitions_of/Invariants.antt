use Rattle.std.proofs.Common.{All}
use Rattle.tmpl_json_schema.specs.computed.Fitting.{IsDefinition, context_of}
use Rattle.tmpl_json_schema.proofs.schema.definitions_of.Given as goal

abbrev pub invariant-loop-name : goal.invariant-loop-name
invariant-loop-name l = All (IsDefinition (context_of l.fn.reader)) l.definitions.items
