use Rattle.std.proofs.Common.{◌/◌, ◌-◌, ap, arith}
use Rattle.std.proofs.lemmas.Result.{IfOk-weaker}
use Rattle.tmpl_formats.specs.PatternView.{plain, tree_of}
use Rattle.tmpl_formats.proofs.PatternPartsLemmas.{no_turn, one_turn, more_turns}
use Rattle.tmpl_formats.proofs.pattern_parts.+copies.Goals as goal

pub returns-then-count-eq0 : goal.returns-then-count-eq0
returns-then-count-eq0 t c = no_turn (tree_of c.args.turn.now) c.args.count c.if-count-eq0.true

pub returns-then-count-eq1 : goal.returns-then-count-eq1
returns-then-count-eq1 t c =
    IfOk-weaker c.copy.result _ _ (λ node e. one_turn (tree_of c.args.turn.now) (tree_of node) c.args.count c.if-count-eq1.true (ap plain e)) c.copy.ensures

pub returns : goal.returns
returns t c =
    IfOk-weaker c.joint_of.result _ _
    (λ node e. more_turns (tree_of c.args.turn.now) (tree_of c.in_ok-first.first) (tree_of c.in_ok-second.second) (tree_of node) (c.args.count / 2) (c.args.count - c.args.count / 2) c.args.count
    (omega arith) e c.in_ok-first.ensures c.in_ok-second.ensures)
    c.joint_of.ensures
