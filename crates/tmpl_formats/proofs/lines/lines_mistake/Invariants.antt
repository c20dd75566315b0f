use Rattle.tmpl_formats.proofs.LinesLoopLemmas.{IsAtLine}
use Rattle.tmpl_formats.specs.PatternView.{marks_of}
use Rattle.tmpl_formats.proofs.lines.lines_mistake.Given as goal

abbrev pub invariant-loop-offset : goal.invariant-loop-offset
invariant-loop-offset l = IsAtLine (marks_of l.pattern.root) l.text l.start l.offset
