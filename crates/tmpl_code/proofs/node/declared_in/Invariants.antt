use Rattle.std.proofs.Common.{◌≡◌, ◌≤◌, drop, length}
use Rattle.tmpl_syntax.specs.View.{nodes_in}
use Rattle.tmpl_code.specs.Layout.{declared_in}
use Rattle.tmpl_code.proofs.node.declared_in.Given as goal

abbrev pub invariant-loop-i : goal.invariant-loop-i
invariant-loop-i l = record {
  within : l.i ≤ length l.nodes;
  counted : l.count ≡ declared_in (nodes_in (drop l.i l.nodes));
}

abbrev pub decreases-loop-i : goal.decreases-loop-i
decreases-loop-i l = l.i
