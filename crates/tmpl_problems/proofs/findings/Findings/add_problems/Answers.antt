use Rattle.std.proofs.Common.{◌∙◌, ◌++◌, ap, append_assoc, map}
use Rattle.std.proofs.lemmas.Result.{on_ok_weaker}
use Rattle.tmpl_problems.specs.Errors.{error_of, left_in}
use Rattle.tmpl_problems.proofs.findings.Findings.add_problems.Goals as goal

pub returns : goal.returns
returns c =
    let e = error_of c.args.file.now in
    let old = c.args.self.now in
    let refused = map e c.as_slice.result.now in
    let beyond = map e c.as_slice-2.result.now in
    let left = left_in c.args.file.now c.args.problems.now.left in
    on_ok_weaker c.add_left.result
    (λ added. added ∙ ap (λ xs. xs ++ left) c.in_ok-add_errors-2.ensures ∙ ap (λ xs. (xs ++ beyond) ++ left) c.in_ok-add_errors.ensures
    ∙ append_assoc (old ++ refused) beyond left ∙ append_assoc old refused (beyond ++ left)
    ∙ ap (λ ps. old ++ (map e ps ++ (beyond ++ left))) c.as_slice.ensures.value
    ∙ ap (λ qs. old ++ (map e c.args.problems.now.refused.items ++ (map e qs ++ left))) c.as_slice-2.ensures.value)
    c.add_left.ensures
