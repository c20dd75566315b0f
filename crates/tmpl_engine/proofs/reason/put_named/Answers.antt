use Rattle.tmpl_values.proofs.PutLemmas.{IsPut-append, IsPut-stop}
use Rattle.tmpl_engine.proofs.reason.put_named.Goals as goal

pub returns-in_err-put : goal.returns-in_err-put
returns-in_err-put g c = IsPut-stop _ c.from_residual.ensures.0 c.in_err-put.ensures

pub returns : goal.returns
returns g c = IsPut-append c.in_ok-put.ensures c.put_quoted.ensures
