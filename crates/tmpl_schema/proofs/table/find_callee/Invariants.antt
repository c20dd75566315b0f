use Rattle.std.proofs.Common.{◌≡◌, drop}
use Rattle.tmpl_schema.specs.computed.View.{table_of}
use Rattle.tmpl_schema.proofs.table.find_callee.Given as goal

abbrev pub invariant-loop-entry : goal.invariant-loop-entry
invariant-loop-entry l = table_of l.table l.name ≡ table_of (drop l.entry-index l.table) l.name
