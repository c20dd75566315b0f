use Rattle.std.proofs.Common.{ap, ◌∙◌}
use Rattle.tmpl_formats.specs.PatternView.{plain, tree_of}
use Rattle.tmpl_formats.proofs.PatternPartsLemmas.{any_turns}
use Rattle.tmpl_formats.proofs.pattern_parts.further_of.Goals as goal

pub returns-in_ok-turns-in-None : goal.returns-in_ok-turns-in-None
returns-in_ok-turns-in-None c =
    let copy = c.in_ok-turns-in-None.turns.value in
    rw c.in-None.is (any_turns (tree_of c.args.turn.now) (tree_of copy) (ap tree_of c.in_ok-turns-in-None.ensures.ok ∙ ap plain c.in_ok-one-in-None.ensures))
