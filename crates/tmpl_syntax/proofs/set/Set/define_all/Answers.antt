use Rattle.std.proofs.Common.{◌≡◌, ◌∙◌, List, ap, map, subst, sym}
use Rattle.tmpl_syntax.specs.Kept.{IsSet}
use Rattle.tmpl_syntax.specs.Set.{defined_each}
use Rattle.tmpl_syntax.specs.View.{entries_view, template_of}
use Rattle.tmpl_syntax.proofs.SetInvariantLemmas.{each-kept, each-own}
use Rattle.tmpl_syntax.proofs.SetLemmas.{Entry}
use Rattle.tmpl_syntax.proofs.set.Set.define_all.Goals as goal

pub invariant_of-self-2 : goal.invariant_of-self-2
invariant_of-self-2 c =
    let was = entries_view c.self.inside.templates.entries in
    let added = map template_of c.args.templates.items in
    let is : entries_view c.define_each.new.set.entries ≡ defined_each was added =
    c.define_each.ensures.defined ∙ ap (λ (es : List Entry). defined_each (entries_view es) added) c.reserve.ensures.entries in
    subst IsSet (sym is) (each-kept was added c.self.invariant.0 c.requires, each-own was added c.self.invariant.1)
