use Rattle.std.proofs.Common.{◌∙◌}
use Rattle.tmpl_values.proofs.PutLemmas.{IsPut-along, IsPut-append, IsPut-stop}
use Rattle.tmpl_engine.proofs.reason.put_limit.Goals as goal

pub returns-in_err-put : goal.returns-in_err-put
returns-in_err-put g c = IsPut-stop _ c.from_residual.ensures.0 c.in_err-put.ensures

pub returns : goal.returns
returns g c = IsPut-append c.in_ok-put.ensures (IsPut-along c.put-2.ensures (c.as_bytes.ensures.value ∙ c.format.ensures.text))
