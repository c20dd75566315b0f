use Rattle.std.proofs.Common.{◌≡◌, ◌-◌, get_or, length, take, drop, refl, rules}
use Rattle.tmpl_funcs.proofs.FormLemmas.{precision_after-read}
use Rattle.tmpl_funcs.proofs.printf.reading.read_precision.Goals as goal

pub returns-in-46 : goal.returns-in-46
returns-in-46 c =
    let bytes = c.args.bytes.now in
    let point : get_or bytes 0 0 ≡ 46 = search rules in
    precision_after-read c.args.flags.now c.args.width.now c.read_verb.result bytes
    (take (length bytes - 1) (drop 1 bytes)) c.front_len-n.result c.in-46.len_at_least point refl c.front_len-n.ensures.longest c.read_verb.ensures
