use Rattle.std.proofs.Common.{◌∙◌, List, ap, map, subst, sym}
use Rattle.tmpl_syntax.specs.Kept.{IsSet}
use Rattle.tmpl_syntax.specs.View.{entries_view, set_view, template_of}
use Rattle.tmpl_syntax.specs.declared.set.Set.{Set}
use Rattle.tmpl_syntax.specs.computed.View.{page_of}
use Rattle.tmpl_syntax.specs.Print.Laws.{SetBack}
use Rattle.std.specs.List.{flat_map}
use Rattle.tmpl_syntax.specs.Print.Printed.{template_said}
use Rattle.tmpl_syntax.specs.computed.Print.{page_with}
use Rattle.tmpl_syntax.proofs.SetInvariantLemmas.{kept-printable}
use Rattle.tmpl_syntax.proofs.PageLemmas.{page_nothing}
use Rattle.tmpl_syntax.proofs.PrintedLemmas.{set_reads_same}
use Rattle.tmpl_syntax.proofs.SetLemmas.{Entry}
use Rattle.tmpl_syntax.proofs.print.print_set.Goals as goal

pub returns-clause-printed : goal.returns-clause-printed
unfolding page_of page_with entries_view set_view
returns-clause-printed c =
    let p = page_of c.loop-name.page in
    let said = flat_map template_said (set_view c.args.set.now) in
    ap (λ q. q.0)
    (sym (page_nothing p) ∙ ap (λ (es : List Entry). page_with p (flat_map template_said (map template_of es))) (sym c.in-None.ensures.steps.0)
    ∙ c.loop-name.invariant ∙ ap (λ q. page_with q said) c.new-page.ensures)

pub returns-clause-read_back : goal.returns-clause-read_back
unfolding set_view
returns-clause-read_back c =
    let ts = set_view c.args.set.now in
    let kept : IsSet ts = subst (λ (s : Set). IsSet (entries_view s.0)) c.set.view_is c.set.invariant in
    subst (λ bytes. SetBack bytes ts) (sym (returns-clause-printed c)) (set_reads_same ts (kept-printable ts kept.0))
