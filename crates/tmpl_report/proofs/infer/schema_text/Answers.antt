use Rattle.std.proofs.Common.{IfSome, IsUtf8, subst, string_bytes}
use Rattle.std.specs.Borrow.{Bor}
use Rattle.std.specs.List.{AllByRecursion}
use Rattle.serde_json.specs.View.{view}
use Rattle.serde_json.specs.declared.value.Value.{Value}
use Rattle.tmpl_values.specs.Json.{tree_value}
use Rattle.tmpl_json_schema.specs.Document.{ConformsTo}
use Rattle.tmpl_json_schema.specs.Inferred.{Conforms}
use Rattle.tmpl_json_schema.proofs.DocumentLemmas.{document-read}
use Rattle.tmpl_report.proofs.InferredLemmas.{samples-told}
use Rattle.tmpl_report.proofs.infer.schema_text.Goals as goal

pub returns-clause-inferred : goal.returns-clause-inferred
returns-clause-inferred c =
    let text = string_bytes c.in_ok-text.text in
    let root = view c.in_ok-schema.schema in
    let is_text : IsUtf8 text = subst IsUtf8 c.as_str-shown.ensures.value c.as_str-shown.utf8 in
    (root, document-read text root is_text (c.in_ok-text.ensures.reads_back c.in_ok-schema.ensures.nests), c.in_ok-schema.ensures.plain)

pub returns-clause-conform : goal.returns-clause-conform
returns-clause-conform c =
    let text = string_bytes c.in_ok-text.text in
    let root = view c.in_ok-schema.schema in
    let is_text : IsUtf8 text = subst IsUtf8 c.as_str-shown.ensures.value c.as_str-shown.utf8 in
    let lent = c.in_ok-lent.lent.items in
    let conform = subst (AllByRecursion (λ (s : Bor Value). Conforms root (view s.now))) c.as_slice.ensures.value c.in_ok-schema.ensures.conform in
    subst (AllByRecursion (λ (s : Value). IfSome (tree_value (view s)) (ConformsTo text))) c.in_ok-lent.ensures
    (samples-told text root lent (document-read text root is_text (c.in_ok-text.ensures.reads_back c.in_ok-schema.ensures.nests)) conform)
