use Rattle.std.proofs.Common.{◌≡◌, ◌++◌, List, take}
use Rattle.tmpl_syntax.specs.View.{set_view}
use Rattle.tmpl_problems.specs.Errors.{AreOfFiles, errors_in}
use Rattle.tmpl_problems.specs.Finding.{Finding}
use Rattle.tmpl_problems.proofs.findings.Findings.add_each.Given as goal

abbrev pub invariant-loop-file : goal.invariant-loop-file
invariant-loop-file l = (errors : List Finding)
    × AreOfFiles (set_view l.initial.set) (take l.file-index l.files) (set_view l.set) errors
    × (errors_in l.self ≡ errors_in l.initial.self ++ errors)
