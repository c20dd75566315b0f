use Rattle.tmpl_syntax.proofs.PrintableNodeLemmas.{keeps-printable}
use Rattle.tmpl_syntax.proofs.laws.printable.Goals as goal

pub returns : goal.returns
returns c = keeps-printable
