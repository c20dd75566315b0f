use Rattle.std.proofs.Common.{◌≤◌, subst}
use Rattle.tmpl_values.specs.View.{val_of}
use Rattle.tmpl_values.specs.Item.{HasPart}
use Rattle.tmpl_values.proofs.ItemLemmas.{item_count-of}
use Rattle.tmpl_values.proofs.value.Val.part.Goals as goal

pub items_between-requires : goal.items_between-requires
items_between-requires c =
    let has = subst (λ v. HasPart c.args.i c.args.j (val_of v)) c.in-List.is c.requires in
    (has.0, subst (λ n. c.args.j ≤ n) (item_count-of c.in-List.items.now) has.1)
