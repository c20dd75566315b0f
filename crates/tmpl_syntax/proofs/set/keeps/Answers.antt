use Rattle.std.proofs.Common.{◌≡◌, ◌&&◌, Option, Some, None, refl, sym, ap, ◌∙◌}
use Rattle.std.specs.Option.{option_map, is_some}
use Rattle.tmpl_syntax.specs.View.{entries_view, nodes_in, tree_of}
use Rattle.tmpl_syntax.specs.Set.{tree_named, is_blank}
use Rattle.tmpl_syntax.proofs.SetLemmas.{lookup-view}
use Rattle.tmpl_syntax.proofs.set.keeps.Goals as goal

some-mapped : {A B : Type 0} (f : A → B) (o : Option A) → is_some o ≡ is_some (option_map f o)
some-mapped f None = refl
some-mapped f (Some x) = refl

pub returns-then-is_blank : goal.returns-then-is_blank
unfolding entries_view
returns-then-is_blank c =
    let es = c.args.set.now.entries in
    let there = is_some (tree_named c.args.name.now (entries_view es)) in
    c.contains_key.ensures ∙ some-mapped tree_of _ ∙ ap is_some (lookup-view c.args.name.now es)
    ∙ ap (λ b. b && there) (sym c.if-is_blank.true ∙ c.is_blank.ensures ∙ ap (λ ns. is_blank (nodes_in ns)) c.as_slice.ensures.value)
