use Rattle.tmpl_problems.proofs.LineLemmas.{line_parts}
use Rattle.tmpl_problems.proofs.line.push_line.Goals as goal

pub returns : goal.returns
returns c =
    line_parts _ _ _ _ _ _ _ _ _ _ c.in_ok-push_shown.ensures c.in_ok-push_place.ensures c.in_ok-push_shown-2.ensures c.push_str.ensures.bytes
