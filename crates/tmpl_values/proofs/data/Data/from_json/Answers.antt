use Rattle.std.proofs.Common.{ap, sym, subst}
use Rattle.tmpl_values.specs.row.View.{value_of}
use Rattle.tmpl_values.specs.Json.{data_of, IsConverted}
use Rattle.tmpl_values.proofs.TreeLemmas.{tree_of-some, tree_of-none, if_json, refused-as}
use Rattle.tmpl_values.proofs.data.Data.from_json.Goals as goal

pub returns-in_err-value : goal.returns-in_err-value
returns-in_err-value c =
    refused-as (data_of c.args.bytes.now) c.in_err-value.field-0.0 c.from_residual.result c.from_residual.ensures.1
    (λ other. ap if_json (tree_of-none c.args.bytes.now (c.in_err-value.ensures.err other)))

pub returns : goal.returns
returns c =
    let read = c.in_ok-value.ensures.ok in
    subst (λ o. IsConverted value_of c.data_of.result (if_json o)) (sym (tree_of-some c.args.bytes.now _ read.0 read.1)) c.data_of.ensures
