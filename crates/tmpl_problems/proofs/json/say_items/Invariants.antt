use Rattle.std.proofs.Common.{map, take}
use Rattle.serde_json.specs.Written.{compact_text}
use Rattle.tmpl_hints.specs.Sentence.{Adds}
use Rattle.tmpl_problems.specs.Json.{item_of, lines_between}
use Rattle.tmpl_problems.proofs.json.say_items.Given as goal

abbrev pub invariant-loop-index : goal.invariant-loop-index
invariant-loop-index l = Adds l.initial.said l.said (lines_between (map (λ f. compact_text (item_of f)) (take l.index l.findings)))
