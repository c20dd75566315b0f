use Rattle.std.proofs.Common.{ap}
use Rattle.std.proofs.lemmas.Result.{IfOk-weaker}
use Rattle.tmpl_formats.specs.PatternView.{plain, tree_of}
use Rattle.tmpl_formats.proofs.PatternPartsLemmas.{one_maybe}
use Rattle.tmpl_formats.proofs.pattern_parts.maybe.Goals as goal

pub returns : goal.returns
returns c = IfOk-weaker c.joint_of.result _ _ (λ node e. one_maybe (tree_of c.args.turn.now) (tree_of c.in_ok-one.one) (tree_of node) e (ap plain c.in_ok-one.ensures)) c.joint_of.ensures
