use Rattle.std.proofs.Common.{◌≡◌, drop}
use Rattle.tmpl_syntax.specs.View.{nodes_in}
use Rattle.tmpl_schema.specs.computed.Check.{any_diverges}
use Rattle.tmpl_schema.specs.computed.View.{table_of}
use Rattle.tmpl_schema.proofs.flow.any_diverges.Given as goal

abbrev pub invariant-loop-node : goal.invariant-loop-node
invariant-loop-node l =
    any_diverges (table_of l.checker.table.now) (nodes_in l.nodes) ≡ any_diverges (table_of l.checker.table.now) (nodes_in (drop l.node-index l.nodes))
