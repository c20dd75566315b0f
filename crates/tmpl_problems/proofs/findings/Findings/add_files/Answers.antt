use Rattle.std.proofs.Common.{◌∙◌}
use Rattle.tmpl_problems.proofs.findings.Findings.add_files.Goals as goal

pub returns : goal.returns
returns c = let told = c.in_ok-add_each.ensures in (told.0, told.1, c.in_ok-add_asked.ensures ∙ told.2)
