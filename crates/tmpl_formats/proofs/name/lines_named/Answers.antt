use Rattle.tmpl_formats.specs.Name.{lines}
use Rattle.tmpl_formats.proofs.name.lines_named.Goals as goal

pub returns : goal.returns
returns c = lines (rw c.in-Ok.ensures.cases.0 at (rw c.in-Some.is at c.in_ok-pattern.ensures))
