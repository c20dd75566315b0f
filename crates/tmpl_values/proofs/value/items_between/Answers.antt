use Rattle.tmpl_values.proofs.ItemLemmas.{items_of-range}
use Rattle.tmpl_values.proofs.value.items_between.Goals as goal

pub returns : goal.returns
returns c = items_of-range c.args.items.now c.args.i c.args.j
