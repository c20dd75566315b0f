use Rattle.tmpl_funcs.proofs.ReadingLemmas.{sound, complete, one, in-order}
use Rattle.tmpl_funcs.proofs.laws.one_format_reading.Goals as goal

pub returns : goal.returns
returns c =
    let format = c.args.format.now in record { reads = sound format; read = complete format; one = one format; order = in-order format }
