use Rattle.std.proofs.Common.{◌≡◌, ◌∙◌, ◌+◌, ◌++◌, [], ◌∷◌, ap, append-nil, append_assoc, refl, subst, sym, take}
use Rattle.std.proofs.lemmas.List.{take_more}
use Rattle.tmpl_syntax.specs.View.{set_view}
use Rattle.tmpl_problems.specs.Errors.{AreOfFiles, errors_in}
use Rattle.tmpl_problems.specs.declared.source.Source.{Source}
use Rattle.tmpl_problems.proofs.ErrorLemmas.{of_more, told_more}
use Rattle.tmpl_problems.proofs.findings.Findings.add_each.Goals as goal

pub loop-file-init : goal.loop-file-init
loop-file-init c = ([], (refl, refl), sym (append-nil (errors_in c.args.self.now)))

pub loop-file-preserved : goal.loop-file-preserved
loop-file-preserved c =
    let all = c.args.files.now in
    let i = c.loop-file.file-index in
    let file = c.file-item.result in
    let old = set_view c.args.set.now in
    let mid = set_view c.loop-file.set in
    let new = set_view c.add_checked.new.set in
    let parts : take (i + 1) all ≡ take i all ++ file ∷ [] =
    take_more all i file c.loop-file-test.true ∙ ap (λ (f : Source). take i all ++ f ∷ []) (sym c.file-item.is) in
    let before = c.loop-file.invariant in
    let checked = c.in_ok-add_checked.ensures in (
      before.0 ++ checked.0,
      subst (λ fs. AreOfFiles old fs new (before.0 ++ checked.0)) (sym parts)
          (of_more old mid new (take i all) file before.0 checked.0 before.1 checked.1),
      c.in_ok-add_surveyed.ensures ∙ told_more c.loop-file.self c.add_checked.new.self mid new file checked.0 checked.1 checked.2
          ∙ ap (λ xs. xs ++ checked.0) before.2 ∙ append_assoc (errors_in c.args.self.now) before.0 checked.0,
    )
