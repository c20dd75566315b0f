use Rattle.std.proofs.Common.{◌≡◌, Some, subst, sym}
use Rattle.tmpl_json_schema.specs.Document.{referent}
use Rattle.serde_json.specs.View.{view}
use Rattle.tmpl_json_schema.proofs.schema.definition_of.Goals as goal

pub returns-in_ok-name-in-Ok : goal.returns-in_ok-name-in-Ok
returns-in_ok-name-in-Ok c =
    let d = view c.in-Some.value.now in
    (d, subst (λ p. referent p (view c.args.reader.now.root.now) ≡ Some d) (sym c.in_ok-name-in-Ok.ensures) c.in-Some.ensures, c.in-Ok.ensures)
