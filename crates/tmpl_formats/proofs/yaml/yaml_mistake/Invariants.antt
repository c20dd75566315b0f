use Rattle.tmpl_formats.proofs.MachineLemmas.{IsAt}
use Rattle.tmpl_formats.specs.computed.Yaml.{step, ends, start}
use Rattle.tmpl_formats.specs.computed.YamlView.{config_of}
use Rattle.tmpl_formats.proofs.yaml.yaml_mistake.Given as goal

abbrev pub invariant-loop-offset : goal.invariant-loop-offset
invariant-loop-offset l = IsAt step ends start l.text l.offset (config_of l.yaml)
