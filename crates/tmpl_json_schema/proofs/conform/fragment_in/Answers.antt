use Rattle.std.proofs.Common.{◌∙◌, Some, ap, sym}
use Rattle.tmpl_json_schema.proofs.MeetLemmas.{unescaped}
use Rattle.tmpl_json_schema.proofs.conform.fragment_in.Goals as goal

pub returns : goal.returns
returns c =
    c.in_ok-fragment.ensures ∙ ap Some (unescaped c.in_ok-fragment.fragment.now (sym c.contains.ensures.value ∙ c.if-contains.false))
