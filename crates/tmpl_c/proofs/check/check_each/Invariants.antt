use Rattle.std.proofs.Common.{◌≡◌, drop}
use Rattle.tmpl_syntax.specs.View.{set_view}
use Rattle.tmpl_syntax.specs.computed.Parse.{parsed}
use Rattle.tmpl_c.specs.Checked.{check_status}
use Rattle.tmpl_c.specs.Passed.{pairs_of}
use Rattle.tmpl_c.proofs.CheckLemmas.{status_from}
use Rattle.tmpl_c.proofs.check.check_each.Given as goal

-- the files come to what the status so far and those that are left do
abbrev pub invariant-loop-file : goal.invariant-loop-file
invariant-loop-file l =
    check_status parsed (pairs_of l.files) ≡ status_from l.status (set_view l.set) (pairs_of (drop l.file-index l.files))
