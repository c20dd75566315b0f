use Rattle.tmpl_values.specs.Quote.{quote}
use Rattle.tmpl_values.proofs.PutLemmas.{IsPut-append, IsPut-stop}
use Rattle.tmpl_values.proofs.quote.put_quoted.Goals as goal

pub returns-in_err-put : goal.returns-in_err-put
unfolding quote
returns-in_err-put g c = IsPut-stop _ c.from_residual.ensures.0 c.in_err-put.ensures

pub returns-in_err-put_inside : goal.returns-in_err-put_inside
unfolding quote
returns-in_err-put_inside g c = IsPut-append c.in_ok-put.ensures (IsPut-stop _ c.from_residual-in_err-put_inside.ensures.0 c.in_err-put_inside.ensures)

pub returns : goal.returns
unfolding quote
returns g c = IsPut-append c.in_ok-put.ensures (IsPut-append c.in_ok-put_inside.ensures c.put-2.ensures)
