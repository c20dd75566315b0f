use Rattle.std.proofs.Common.{◌∙◌, Ok, ap, sym}
use Rattle.tmpl_values.specs.View.{items_of}
use Rattle.tmpl_funcs.specs.computed.Answer.{IsAnswer}
use Rattle.tmpl_funcs.proofs.AddedLemmas.{IsErrAnd-along}
use Rattle.tmpl_funcs.proofs.IndexLemmas.{item_of, item_of-Ok, item_of-Err}
use Rattle.tmpl_funcs.proofs.index.list_item.Goals as goal

pub returns-in_err-i-clause-table : goal.returns-in_err-i-clause-table
returns-in_err-i-clause-table c =
    IsErrAnd-along (IsAnswer (item_of (items_of c.args.items.now) c.args.place)) c.from_residual.result _ c.from_residual.ensures.1
    (item_of-Err c.args.items.now c.args.place _ c.in_err-i.ensures)

pub returns-clause-table : goal.returns-clause-table
returns-clause-table c =
    item_of-Ok c.args.items.now c.args.place c.in_ok-i.i c.index-items-i.result c.in_ok-i.ensures c.index-items-i.is ∙ ap (λ v. Ok v) (sym c.of.ensures.value)
