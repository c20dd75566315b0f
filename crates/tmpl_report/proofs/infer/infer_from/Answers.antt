use Rattle.std.proofs.Common.{◌≡◌, ◌<◌, take, length, sym, subst, ◌∙◌, arith, string_bytes, IfSome}
use Rattle.std.proofs.lemmas.List.{take_all}
use Rattle.std.specs.List.{AllByRecursion}
use Rattle.serde_json.specs.View.{view}
use Rattle.tmpl_values.specs.Json.{tree_value}
use Rattle.tmpl_json_schema.specs.Document.{ConformsTo}
use Rattle.tmpl_report.specs.computed.Inferred.{AreRead}
use Rattle.tmpl_report.proofs.InferredLemmas.{read-next, files-conform, files-refused}
use Rattle.tmpl_report.proofs.infer.infer_from.Goals as goal

pub loop-file-preserved : goal.loop-file-preserved
loop-file-preserved c =
    let within : c.loop-file.file-index < length c.args.files.now = omega arith in
    read-next c.args.files.now c.loop-file.file-index c.file-item.result c.loop-file.findings c.add_sample.new.findings
    c.loop-file.samples.items c.add_sample.new.samples.items within c.file-item.is c.loop-file.invariant c.in_ok-add_sample.ensures

pub returns-then-has_errors : goal.returns-then-has_errors
returns-then-has_errors c =
    let files = c.args.files.now in
    let all : take c.loop-file.file-index files ≡ files = take_all c.loop-file.file-index files c.loop-file-test.false in
    let are_read = subst (λ fs. AreRead fs c.loop-file.findings c.loop-file.samples.items) all c.loop-file.invariant in
    let some = sym c.has_errors.ensures ∙ c.if-has_errors.true in
    (some, files-refused files c.loop-file.findings c.loop-file.samples.items are_read some)

pub returns : goal.returns
returns c =
    let files = c.args.files.now in
    let all : take c.loop-file.file-index files ≡ files = take_all c.loop-file.file-index files c.loop-file-test.false in
    let are_read = subst (λ fs. AreRead fs c.loop-file.findings c.loop-file.samples.items) all c.loop-file.invariant in (
      files-conform (string_bytes c.in_ok-text.text) files c.loop-file.findings c.loop-file.samples.items are_read (sym c.has_errors.ensures ∙ c.if-has_errors.false)
          (subst (AllByRecursion (λ s. IfSome (tree_value (view s)) (ConformsTo (string_bytes c.in_ok-text.text)))) c.as_slice.ensures.value c.in_ok-text.ensures.conform),
      c.in_ok-text.ensures.inferred,
    )
