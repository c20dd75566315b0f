use Rattle.std.proofs.Common.{◌≡◌, ℕ, List, Option, Some, sym, ap, subst, ◌∙◌, map, option_map, slice_get}
use Rattle.std.proofs.lemmas.Option.{slice_get-map}
use Rattle.tmpl_syntax.specs.View.{entries_view, set_view, template_of}
use Rattle.tmpl_syntax.specs.Kept.{IsSet}
use Rattle.tmpl_syntax.specs.declared.set.Set.{Set}
use Rattle.tmpl_syntax.proofs.SetLemmas.{Entry}
use Rattle.tmpl_syntax.proofs.SetInvariantLemmas.{at-kept}
use Rattle.tmpl_syntax.proofs.set.Set.template.Goals as goal

-- what stands at a number of the entries
at-number : (number : ℕ) (es fs : List Entry) (found : Option Entry) → found ≡ slice_get es number → es ≡ fs
    → option_map template_of found ≡ slice_get (map template_of fs) number
at-number number es fs found is same =
    ap (option_map template_of) is ∙ sym (slice_get-map template_of es number)
    ∙ ap (λ (es : List Entry). slice_get (map template_of es) number) same

pub returns-clause-kept : goal.returns-clause-kept
unfolding entries_view set_view
returns-clause-kept c =
    at-kept (set_view c.args.self.now) c.args.number (template_of (c.in-Some.name.now, c.in-Some.tree.now))
    (subst (λ (s : Set). IsSet (entries_view s.0)) c.self.view_is c.self.invariant).0
    (at-number c.args.number c.as_slice.result c.args.self.now.0 (Some (c.in-Some.name.now, c.in-Some.tree.now))
    c.in-Some.ensures.entry (c.as_slice.ensures.entries ∙ ap (λ (s : Set). s.0) c.self.view_is))
