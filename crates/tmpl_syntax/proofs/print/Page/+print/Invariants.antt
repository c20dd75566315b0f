use Rattle.std.proofs.Common.{◌≡◌, drop}
use Rattle.tmpl_syntax.specs.View.{nodes_in}
use Rattle.tmpl_syntax.specs.computed.View.{page_of}
use Rattle.tmpl_syntax.specs.Print.Printed.{nodes_said}
use Rattle.tmpl_syntax.specs.computed.Print.{page_with}
use Rattle.tmpl_syntax.proofs.print.Page.+print.Given as goal

abbrev pub invariant-nodes-loop-node : goal.invariant-nodes-loop-node
invariant-nodes-loop-node l =
    page_with (page_of l.self) (nodes_said (nodes_in (drop l.node-index l.nodes))) ≡ page_with (page_of l.initial.self) (nodes_said (nodes_in l.nodes))
