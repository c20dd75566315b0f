use Rattle.std.proofs.Common.{Some, ap, ◌∙◌}
use Rattle.tmpl_formats.proofs.FormatLemmas.{utf8_none, utf8_some}
use Rattle.tmpl_formats.proofs.mistake.not_utf8.Goals as goal

pub returns-in-Ok : goal.returns-in-Ok
returns-in-Ok c = utf8_none c.args.text.now c.in-Ok.ensures.cases.1

pub returns-in-Err : goal.returns-in-Err
returns-in-Err c = ap Some (c.valid_up_to.ensures ∙ c.in-Err.ensures.valid_len) ∙ utf8_some c.args.text.now c.in-Err.ensures.cases.0
