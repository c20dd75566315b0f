use Rattle.tmpl_syntax.proofs.ItemLemmas.{has-items, has-some, one-list}
use Rattle.tmpl_syntax.proofs.laws.one_list_of_items.Goals as goal

pub returns : goal.returns
returns c = record { exists = has-some; one = one-list; computed = has-items }
