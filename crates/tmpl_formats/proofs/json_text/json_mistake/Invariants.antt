use Rattle.tmpl_formats.proofs.MachineLemmas.{IsAt}
use Rattle.tmpl_formats.specs.computed.Json.{step, ends, start}
use Rattle.tmpl_formats.specs.computed.View.{config_of}
use Rattle.tmpl_formats.proofs.json_text.json_mistake.Given as goal

abbrev pub invariant-loop-offset : goal.invariant-loop-offset
invariant-loop-offset l = IsAt step ends start l.text l.offset (config_of l.json)
