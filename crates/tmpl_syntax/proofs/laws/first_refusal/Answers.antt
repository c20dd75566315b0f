use Rattle.tmpl_syntax.proofs.FirstRefusalLemmas.{finds_refusal}
use Rattle.tmpl_syntax.proofs.laws.first_refusal.Goals as goal

pub returns : goal.returns
returns c = finds_refusal
