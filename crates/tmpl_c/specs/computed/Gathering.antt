-- What was put to a sink that gathers it.
use Rattle.std.specs.Prelude.{Some, []}
use Rattle.tmpl_meaning.specs.Sink.{Told}
use Rattle.tmpl_c.specs.declared.gathered.Gathered.{Gathered}

abbrev pub told_of : Gathered → Told
told_of g = record { bytes = Some g.bytes.items; failures = g.failures }

-- nothing was put yet
abbrev pub nothing_put : Told
nothing_put = record { bytes = Some []; failures = 0 }
