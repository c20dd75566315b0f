use Rattle.std.proofs.Common.{◌≡◌, map, take}
use Rattle.tmpl_c.specs.Passed.{pair_of}
use Rattle.tmpl_c.specs.computed.Question.{pair_in}
use Rattle.tmpl_c.proofs.question.templates_of.Given as goal

abbrev pub invariant-loop-file : goal.invariant-loop-file
invariant-loop-file l = map pair_in l.sources.items ≡ map pair_of (take l.file-index l.files)
