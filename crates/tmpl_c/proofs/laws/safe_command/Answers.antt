use Rattle.tmpl_c.proofs.SafeLemmas.{safe_command}
use Rattle.tmpl_c.proofs.laws.safe_command.Goals as goal

pub returns : goal.returns
returns c = safe_command
