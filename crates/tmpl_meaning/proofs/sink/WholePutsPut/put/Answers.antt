use Rattle.std.proofs.Common.{refl}
use Rattle.tmpl_meaning.proofs.sink.WholePutsPut.put.Goals as goal

pub returns : goal.returns
returns g c =
    let put = c.put_all.ensures in record { count = put.count; bytes = put.bytes; through = refl }
