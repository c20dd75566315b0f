use Rattle.std.proofs.Common.{drop}
use Rattle.tmpl_syntax.specs.View.{set_view}
use Rattle.tmpl_schema.specs.computed.Safe.{EachCallee}
use Rattle.tmpl_schema.specs.computed.View.{entries_of, table_of}
use Rattle.tmpl_shape.specs.computed.View.{base_of}
use Rattle.tmpl_schema.proofs.check.check_callees.Given as goal

abbrev pub invariant-loop-entry : goal.invariant-loop-entry
invariant-loop-entry l =
    let each = EachCallee (base_of l.checker.base) l.checker.mode l.stops (set_view l.set) (table_of l.checker.table.now) in
    each (entries_of (drop l.entry-index l.entries)) → each (entries_of l.entries)
