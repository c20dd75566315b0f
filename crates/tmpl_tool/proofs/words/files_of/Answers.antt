use Rattle.std.proofs.Common.{◌∙◌, ap, codes, map, []}
use Rattle.std.specs.Prelude.{unwrap_or}
use Rattle.std.proofs.lemmas.Result.{IfOk-weaker}
use Rattle.clap.specs.Words.{found_of}
use Rattle.clap.proofs.WalkLemmas.{raw_values-rows}
use Rattle.tmpl_tool.proofs.words.files_of.Goals as goal

pub returns-in-Some : goal.returns-in-Some
returns-in-Some c =
    let given = ap (λ o. unwrap_or o []) (c.in-Some.ensures ∙ raw_values-rows (found_of c.args.matches.now) (codes "file")) in
    IfOk-weaker c.copied.result _ _ (λ files same. ap (map (λ s. s.now)) same ∙ given) c.copied.ensures

pub returns-in-None : goal.returns-in-None
returns-in-None c =
    let given = ap (λ o. unwrap_or o []) (c.in-None.ensures ∙ raw_values-rows (found_of c.args.matches.now) (codes "file")) in
    rw c.new.ensures.items given
