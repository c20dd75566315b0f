use Rattle.std.proofs.lemmas.Result.{IfOk-weaker}
use Rattle.tmpl_formats.specs.PatternView.{tree_of}
use Rattle.tmpl_formats.proofs.PatternPartsLemmas.{all_turns}
use Rattle.tmpl_formats.proofs.pattern_parts.repeat.Goals as goal

pub returns : goal.returns
returns c =
    IfOk-weaker c.joint_of.result _ _
    (λ node e. all_turns (tree_of c.args.turn.now) (tree_of c.in_ok-least.least) (tree_of c.in_ok-more.more) (tree_of node) c.args.times.least c.args.times.most c.requires e
    c.in_ok-least.ensures c.in_ok-more.ensures)
    c.joint_of.ensures
