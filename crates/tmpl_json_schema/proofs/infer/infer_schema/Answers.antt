use Rattle.std.proofs.Common.{◌≤◌, sym, subst, ap, ◌∙◌, suc, arith, codes}
use Rattle.std.specs.Borrow.{Bor}
use Rattle.std.specs.List.{AllByRecursion}
use Rattle.serde_json.specs.Data.{Data, object, depth}
use Rattle.serde_json.specs.Read.{max_depth}
use Rattle.serde_json.specs.View.{view, members_view}
use Rattle.serde_json.specs.declared.value.Value.{Value}
use Rattle.serde_json.proofs.Views.{view-Object}
use Rattle.tmpl_json_schema.specs.Inferred.{Conforms, IsInferred}
use Rattle.tmpl_json_schema.proofs.ConformLemmas.{each-conforms, inferred-draft, members_depth-put}
use Rattle.tmpl_json_schema.proofs.infer.infer_schema.Goals as goal

pub returns-clause-conform : goal.returns-clause-conform
returns-clause-conform c =
    let draft = view c.in_ok-try_from_str.field-0 in
    let schema = members_view c.in_ok-schema.schema.entries in
    subst (λ (d : Data). AllByRecursion (λ (s : Bor Value). Conforms d (view s.now)) c.args.samples.now)
    (sym (view-Object c.put.new.map ∙ ap object c.in_ok-put.ensures.ok))
    (each-conforms (suc 40) draft schema c.args.samples.now c.in_ok-schema.ensures.conform)

pub returns-clause-plain : goal.returns-clause-plain
returns-clause-plain c =
    subst IsInferred (sym (view-Object c.put.new.map ∙ ap object c.in_ok-put.ensures.ok))
    (inferred-draft (view c.in_ok-try_from_str.field-0) (members_view c.in_ok-schema.schema.entries) c.in_ok-schema.ensures.plain)

pub returns-clause-nests : goal.returns-clause-nests
returns-clause-nests c =
    let draft = view c.in_ok-try_from_str.field-0 in
    let schema = members_view c.in_ok-schema.schema.entries in
    let flat : depth draft ≤ 126 = let e = c.in_ok-try_from_str.ensures in rw e (omega arith) in
    subst (λ (d : Data). depth d ≤ max_depth) (sym (view-Object c.put.new.map ∙ ap object c.in_ok-put.ensures.ok))
    (omega (arith, members_depth-put (codes "$schema") draft schema 126 flat (omega (arith, c.in_ok-schema.ensures.nests))))
