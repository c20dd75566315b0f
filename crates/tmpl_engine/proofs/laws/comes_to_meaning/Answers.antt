use Rattle.tmpl_engine.specs.State.{starting_dot}
use Rattle.tmpl_engine.proofs.TreeLemmas.{run-leads}
use Rattle.tmpl_engine.proofs.laws.comes_to_meaning.Goals as goal

pub returns : goal.returns
returns c =
    λ plan size linked some number start t input fits is-t at-start. run-leads plan size linked some number t fits is-t start at-start (starting_dot input)
