use Rattle.tmpl_syntax.proofs.ReadingLemmas.{has-outcome, has-one-outcome, accepts-as-parsed, refuses-as-parsed}
use Rattle.tmpl_syntax.proofs.laws.one_outcome.Goals as goal

pub returns : goal.returns
returns c = record { exists = has-outcome; one = has-one-outcome; accepted = accepts-as-parsed; refused = refuses-as-parsed }
