use Rattle.tmpl_formats.proofs.MachineLemmas.{IsAt}
use Rattle.tmpl_formats.specs.computed.JsonLines.{step, ends, start}
use Rattle.tmpl_formats.specs.computed.LineView.{lines_of}
use Rattle.tmpl_formats.proofs.json_lines.json_lines_mistake.Given as goal

abbrev pub invariant-loop-offset : goal.invariant-loop-offset
invariant-loop-offset l = IsAt step ends start l.text l.offset (lines_of l.lines)
