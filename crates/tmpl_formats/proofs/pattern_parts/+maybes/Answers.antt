use Rattle.std.proofs.Common.{◌/◌, ◌-◌, arith}
use Rattle.std.proofs.lemmas.Result.{IfOk-weaker}
use Rattle.tmpl_formats.specs.PatternView.{tree_of}
use Rattle.tmpl_formats.proofs.PatternPartsLemmas.{no_maybe, more_maybes}
use Rattle.tmpl_formats.proofs.pattern_parts.+maybes.Goals as goal

pub returns-then-count-eq0 : goal.returns-then-count-eq0
returns-then-count-eq0 t c = no_maybe (tree_of c.args.turn.now) c.args.count c.if-count-eq0.true

pub returns : goal.returns
returns t c =
    IfOk-weaker c.joint_of.result _ _
    (λ node e. more_maybes (tree_of c.args.turn.now) (tree_of c.in_ok-first.first) (tree_of c.in_ok-second.second) (tree_of node) (c.args.count / 2) (c.args.count - c.args.count / 2) c.args.count
    (omega arith) e c.in_ok-first.ensures c.in_ok-second.ensures)
    c.joint_of.ensures
