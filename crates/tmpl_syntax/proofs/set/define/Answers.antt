use Rattle.std.proofs.Common.{◌≡◌, ◌&&◌, false, Result, Ok, Err, IsOk, OnOk, sym, ap, ◌∙◌, map}
use Rattle.std.specs.Option.{is_some}
use Rattle.std.proofs.lemmas.Bool.{false≢true}
use Rattle.tmpl_syntax.specs.View.{entries_view, template_of, tree_of}
use Rattle.tmpl_syntax.specs.Set.{tree_named, is_blank}
use Rattle.tmpl_syntax.proofs.SetLemmas.{add_definition-insert}
use Rattle.tmpl_syntax.proofs.set.define.Goals as goal

-- what holds where a call succeeds holds where it does
where_ok : {A E P : Type 0} (r : Result A E) → IsOk r → OnOk r P → P
where_ok (Ok x) ok p = p
where_ok (Err e) ok p = absurd (false≢true ok)

pub returns-then-not-keeps-clause-defined : goal.returns-then-not-keeps-clause-defined
unfolding entries_view
returns-then-not-keeps-clause-defined c =
    let es = c.args.set.now.entries in
    let added : (is_blank (tree_of c.args.tree).nodes && is_some (tree_named c.args.name.items (map template_of es))) ≡ false =
    ap (λ name. is_blank (tree_of c.args.tree).nodes && is_some (tree_named name (entries_view es))) (sym c.as_slice.ensures.value)
    ∙ sym c.keeps.ensures ∙ c.if-not-keeps.true in
    ap (map template_of) (where_ok c.insert.result (c.insert.ensures.succeeds c.requires) c.insert.ensures.entries)
    ∙ add_definition-insert es c.args.name c.args.tree added
