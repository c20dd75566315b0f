use Rattle.std.proofs.Common.{◌∙◌}
use Rattle.tmpl_formats.specs.PatternView.{marks_of}
use Rattle.tmpl_formats.proofs.LinesLoopLemmas.{bad_line, good_line, no_match}
use Rattle.tmpl_formats.proofs.lines.line_mistake.Goals as goal

pub returns-in_default : goal.returns-in_default
returns-in_default c = c.not_utf8.ensures ∙ bad_line (marks_of c.args.pattern.now.root) c.args.line.now c.in_default.ensures.cases.0

pub returns-then-branch : goal.returns-then-branch
returns-then-branch c = good_line _ _ _ _ c.in-Ok.ensures.cases.0 c.in-Ok.ensures.cases.1 c.if-branch.true c.in_ok-has_match.ensures

pub returns-else-branch : goal.returns-else-branch
returns-else-branch c = no_match _ _ _ _ c.in-Ok.ensures.cases.0 c.in-Ok.ensures.cases.1 c.if-branch.false c.in_ok-has_match.ensures
