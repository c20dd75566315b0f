use Rattle.tmpl_values.proofs.PutLemmas.{IsPut-append, IsPut-stop}
use Rattle.tmpl_tool.proofs.messages.part.write_line.Goals as goal

pub returns-in_err-put : goal.returns-in_err-put
returns-in_err-put g c = IsPut-stop _ c.from_residual.ensures.0 c.in_err-put.ensures

pub returns-in_err-write_parts : goal.returns-in_err-write_parts
returns-in_err-write_parts g c =
    IsPut-append c.in_ok-put.ensures (IsPut-stop _ c.from_residual-in_err-write_parts.ensures.0 c.in_err-write_parts.ensures)

pub returns : goal.returns
returns g c = IsPut-append c.in_ok-put.ensures (IsPut-append c.in_ok-write_parts.ensures c.put-2.ensures)
