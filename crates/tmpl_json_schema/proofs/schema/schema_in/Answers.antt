use Rattle.std.proofs.Common.{rules, ◌≡◌, true}
use Rattle.serde_json.specs.View.{view}
use Rattle.tmpl_shape.specs.View.{defs_in, shape_of}
use Rattle.tmpl_json_schema.specs.computed.Fitting.{Context, IsReadOf, IsSound}
use Rattle.tmpl_json_schema.specs.computed.Defined.{are_defined}
use Rattle.tmpl_json_schema.proofs.DocumentLemmas.{document-fits}
use Rattle.tmpl_json_schema.proofs.schema.schema_in.Goals as goal

pub returns-clause-fits : goal.returns-clause-fits
returns-clause-fits c =
    let names = c.as_slice-names.result.now in
    let ds = c.in_ok-definitions.definitions.items in
    let shape = shape_of c.in_ok-shape.shape in
    let context : Context = record { draft = c.in_ok-draft.draft; names = names; root = view c.args.root.now } in
    let sound : IsSound context = (c.in_ok-draft.ensures, c.are_looked_up.ensures c.if-not-are_looked_up.false c.in_ok-draft.ensures) in
    let defined : are_defined (defs_in ds) names ≡ true = search rules in
    let is : IsReadOf context context.root shape = c.in_ok-shape.ensures in
    λ v h. document-fits context sound ds c.in_ok-definitions.ensures defined shape is h.0 v h.1
