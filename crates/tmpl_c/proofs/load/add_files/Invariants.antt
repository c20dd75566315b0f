use Rattle.std.proofs.Common.{◌≡◌, drop}
use Rattle.tmpl_engine.specs.View.{templates_of}
use Rattle.tmpl_syntax.specs.computed.Parse.{parsed}
use Rattle.tmpl_c.specs.Passed.{each_added, pairs_of}
use Rattle.tmpl_c.proofs.load.add_files.Given as goal

-- whatever the files that are left come to, the files come to
abbrev pub invariant-loop-file : goal.invariant-loop-file
invariant-loop-file l =
    each_added parsed (templates_of l.initial.engine) (pairs_of l.files) ≡ each_added parsed (templates_of l.engine) (pairs_of (drop l.file-index l.files))
