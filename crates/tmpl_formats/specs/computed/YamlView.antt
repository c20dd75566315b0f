-- What the machine of the code stands for.
use Rattle.tmpl_formats.specs.computed.Yaml.{Config}
use Rattle.tmpl_formats.specs.computed.YamlNestView.{nest_of}
use Rattle.tmpl_formats.specs.declared.yaml.Yaml.{Yaml}

abbrev pub config_of : Yaml → Config
config_of y = record { before = y.before; last = y.last; control = y.control; scalar = y.scalar.items; nest = nest_of y.nest }
