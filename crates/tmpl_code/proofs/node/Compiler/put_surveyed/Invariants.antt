use Rattle.std.proofs.Common.{drop}
use Rattle.tmpl_syntax.specs.View.{nodes_in, set_view}
use Rattle.tmpl_code.specs.computed.Surveyed.{SurveysNodes}
use Rattle.tmpl_code.proofs.TailLemmas.{Putting}
use Rattle.tmpl_code.proofs.node.Compiler.put_surveyed.Given as goal

abbrev pub decreases-loop-i : goal.decreases-loop-i
decreases-loop-i l = l.i

abbrev pub invariant-loop-i : goal.invariant-loop-i
invariant-loop-i l = record {
  nodes : Putting (set_view l.site.set.now) l.site.exit l.nodes l.i l.fn.self l.self;
  survey : SurveysNodes (nodes_in (drop l.i l.nodes)) l.survey;
}
