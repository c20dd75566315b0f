use Rattle.std.proofs.Common.{◌≡◌, Ok, subst, sym}
use Rattle.serde_json.specs.View.{view}
use Rattle.tmpl_values.specs.Json.{data_of, tree_value}
use Rattle.tmpl_json_schema.specs.Document.{IsOfSchema}
use Rattle.tmpl_json_schema.proofs.ConformLemmas.{if-some}
use Rattle.tmpl_json_schema.proofs.DocumentLemmas.{document-read}
use Rattle.tmpl_report.proofs.FailureLemmas.{value-read}
use Rattle.tmpl_report.proofs.samples.failing.Suspect.is_of_schema.Goals as goal

pub returns-in-Ok : goal.returns-in-Ok
returns-in-Ok c = λ e v is.
    let root = view c.args.self.now.root.now in
    let bytes = c.as_bytes.result.now in
    let d = view c.in-Ok.value in
    let said = c.in-Ok.ensures.ok in
    let has : data_of bytes ≡ Ok v = subst (λ bs. data_of bs ≡ Ok v) (sym c.as_bytes.ensures.value) is in
    if-some (IsOfSchema root) (tree_value d) v (c.conforms_to.ensures e) (value-read bytes d v (document-read bytes d said.0 said.1) has)
