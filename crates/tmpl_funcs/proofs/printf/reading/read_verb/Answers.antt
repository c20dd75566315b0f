use Rattle.std.proofs.Common.{sym}
use Rattle.tmpl_funcs.specs.computed.View.{letter_of}
use Rattle.tmpl_funcs.proofs.FormLemmas.{verb_after-read}
use Rattle.tmpl_funcs.proofs.printf.reading.read_verb.Goals as goal

pub returns-in_ok-form-in-len1-up : goal.returns-in_ok-form-in-len1-up
returns-in_ok-form-in-len1-up c =
    verb_after-read c.args.flags.now c.args.width.now _ c.args.bytes.now (letter_of c.in_ok-of-in-len1-up.field-0) c.in_ok-form-in-len1-up.form
    c.in-len1-up.len_at_least (sym c.in_ok-of-in-len1-up.ensures) c.in_ok-form-in-len1-up.ensures
