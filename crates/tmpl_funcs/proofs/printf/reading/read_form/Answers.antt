use Rattle.tmpl_funcs.proofs.FormLemmas.{form_at-read}
use Rattle.tmpl_funcs.proofs.printf.reading.read_form.Goals as goal

pub returns : goal.returns
returns c = form_at-read c.args.bytes.now c.front_len-n.result c.read_width.result c.front_len-n.ensures.longest c.read_width.ensures
