use Rattle.std.proofs.Common.{All, refl, subst}
use Rattle.tmpl_syntax.specs.View.{set_view}
use Rattle.tmpl_syntax.specs.Examine.{Examined, IsLocated}
use Rattle.tmpl_problems.specs.Errors.{errors_of}
use Rattle.tmpl_problems.proofs.findings.Findings.add_checked.Goals as goal

pub returns : goal.returns
returns c =
    let problems = c.in_ok-problems.problems in
    let name = c.args.file.now.name.now in
    let same = c.as_slice.ensures.value in
    let (all, was_examined, was_located, reports) = c.in_ok-problems.ensures in
    let examined = subst (λ bytes. Examined (set_view c.args.set.now) name bytes (set_view c.check_file.new.set) all) same was_examined in
    let located = subst (λ bytes. All (IsLocated bytes) all) same was_located in
    (errors_of name problems, (all, problems, refl, examined, located, reports), c.in_ok-add_problems.ensures)
