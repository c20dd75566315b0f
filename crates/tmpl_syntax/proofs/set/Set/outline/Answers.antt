use Rattle.std.proofs.Common.{◌∙◌, subst, sym}
use Rattle.tmpl_syntax.specs.Kept.{AreKept, IsSet}
use Rattle.tmpl_syntax.specs.Set.{defined_each}
use Rattle.tmpl_syntax.specs.View.{entries_view, set_view}
use Rattle.tmpl_syntax.specs.declared.set.Set.{Set}
use Rattle.tmpl_syntax.proofs.OutlineLemmas.{outline_each, outline_kept}
use Rattle.tmpl_syntax.proofs.set.Set.outline.Goals as goal

pub define_all-requires : goal.define_all-requires
unfolding set_view
define_all-requires c =
    let own : IsSet (set_view c.args.self.now) = subst (λ (s : Set). IsSet (entries_view s.0)) c.self.view_is c.self.invariant in
    subst AreKept (sym c.in_ok-outlines.ensures) (outline_kept (set_view c.args.self.now) own)

pub returns-clause-value : goal.returns-clause-value
unfolding set_view
returns-clause-value c =
    let own : IsSet (set_view c.args.self.now) = subst (λ (s : Set). IsSet (entries_view s.0)) c.self.view_is c.self.invariant in
    c.in_ok-define_all.ensures.ok
    ∙ (λ j. defined_each (c.with_hash-outline.ensures.empty j) (c.in_ok-outlines.ensures j))
    ∙ outline_each (set_view c.args.self.now) own
