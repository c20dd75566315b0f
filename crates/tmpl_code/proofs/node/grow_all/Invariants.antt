use Rattle.std.proofs.Common.{◌≡◌, drop}
use Rattle.tmpl_syntax.specs.View.{nodes_in}
use Rattle.tmpl_code.specs.computed.Held.{all_grown, layout_of}
use Rattle.tmpl_code.proofs.node.grow_all.Given as goal

abbrev pub invariant-loop-node : goal.invariant-loop-node
invariant-loop-node l = all_grown (nodes_in (drop l.node-index l.nodes)) (layout_of l.scope) ≡ all_grown (nodes_in l.nodes) (layout_of l.initial.scope)
