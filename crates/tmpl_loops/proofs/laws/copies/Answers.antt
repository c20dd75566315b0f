use Rattle.tmpl_loops.proofs.CopyLemmas.{calls_copy, loops_copy, runs_copy}
use Rattle.tmpl_loops.proofs.FindLemmas.{finds_loops}
use Rattle.tmpl_loops.proofs.laws.copies.Goals as goal

pub returns : goal.returns
returns c = record { loops = loops_copy; calls = calls_copy; runs = runs_copy; finds = finds_loops }
