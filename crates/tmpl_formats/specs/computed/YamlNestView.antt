-- What the nest of the code stands for.
use Rattle.std.specs.Prelude.{reverse}
use Rattle.tmpl_formats.specs.computed.YamlNest as computed
use Rattle.tmpl_formats.specs.declared.yaml_nest.Nest.{Nest}

abbrev pub nest_of : Nest → computed.Nest
nest_of n = record { awaited = n.expects; levels = reverse n.levels.items; brackets = reverse n.brackets.items }
