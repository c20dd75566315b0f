use Rattle.std.proofs.Common.{◌≡◌, Option, Some, None, Bor, refl, ap, subst, ◌∙◌, map}
use Rattle.std.specs.Option.{option_map, option_copied}
use Rattle.tmpl_syntax.specs.View.{entries_view, set_view, template_of, tree_of}
use Rattle.tmpl_syntax.specs.Kept.{IsSet}
use Rattle.tmpl_syntax.specs.Set.{tree_named}
use Rattle.tmpl_syntax.specs.declared.set.Set.{Set}
use Rattle.tmpl_syntax.specs.declared.tree.Tree as held
use Rattle.tmpl_syntax.proofs.SetLemmas.{lookup-view}
use Rattle.tmpl_syntax.proofs.SetInvariantLemmas.{found-kept}
use Rattle.tmpl_syntax.proofs.set.Set.get.Goals as goal

copied : (o : Option (Bor held.Tree)) → option_map (λ (t : Bor held.Tree). tree_of t.now) o ≡ option_map tree_of (option_copied o)
copied None = refl
copied (Some t) = refl

pub returns-clause-value : goal.returns-clause-value
unfolding entries_view set_view
returns-clause-value c =
    copied c.get.result ∙ ap (option_map tree_of) c.get.ensures.value
    ∙ lookup-view c.args.name.now c.self.inside.templates.entries
    ∙ ap (λ (s : Set). tree_named c.args.name.now (map template_of s.0)) c.self.view_is

pub returns-clause-kept : goal.returns-clause-kept
unfolding set_view
returns-clause-kept c =
    found-kept c.args.name.now (set_view c.args.self.now) c.get.result
    (subst (λ (s : Set). IsSet (entries_view s.0)) c.self.view_is c.self.invariant).0 (returns-clause-value c)
