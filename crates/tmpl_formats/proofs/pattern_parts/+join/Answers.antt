use Rattle.std.proofs.lemmas.Result.{IfOk-weaker}
use Rattle.tmpl_formats.specs.computed.PatternRows.{trees_of}
use Rattle.tmpl_formats.specs.PatternView.{tree_of}
use Rattle.tmpl_formats.proofs.PatternPartsLemmas.{last-part, two-parts}
use Rattle.tmpl_formats.proofs.pattern_parts.+join.Goals as goal

pub returns-in-Some-clause-written : goal.returns-in-Some-clause-written
returns-in-Some-clause-written t c = λ text rest row. last-part c.args.is_either text rest c.args.parts.now.items c.pop.new.self.items c.in-Some.part c.in-Some.ensures.items row

pub returns-clause-written : goal.returns-clause-written
returns-clause-written t c =
    IfOk-weaker c.joint_of.result _ _
    (λ node e text rest row. two-parts c.args.is_either text rest (trees_of c.args.parts.now.items) (trees_of c.join.new.parts.items) (trees_of c.join-2.new.parts.items)
    (tree_of c.in_ok-first.first) (tree_of c.in_ok-second.second) (tree_of node) e c.in_ok-second.ensures.written c.in_ok-first.ensures.written row)
    c.joint_of.ensures
