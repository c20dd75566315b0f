use Rattle.std.proofs.Common.{◌∙◌, ◌++◌, ap, sym, append_assoc}
use Rattle.tmpl_values.proofs.PutLemmas.{IsPut-along, IsPut-stop, IsPut-append}
use Rattle.tmpl_tool.proofs.MessageLemmas.{parts-more}
use Rattle.tmpl_tool.proofs.messages.part.write_parts.Goals as goal

pub returns-in_err-write_part : goal.returns-in_err-write_part
returns-in_err-write_part g c =
    let before = c.loop-part.invariant in
    let more = parts-more c.args.parts.now c.loop-part.part-index _ c.loop-part-test.true in
    IsPut-along (IsPut-append before.2 (IsPut-stop _ c.from_residual.ensures.0 c.in_err-write_part.ensures))
    (sym (before.1 ∙ ap (λ r. before.0 ++ r) more))

pub loop-part-preserved : goal.loop-part-preserved
loop-part-preserved g c =
    let before = c.loop-part.invariant in
    let more = parts-more c.args.parts.now c.loop-part.part-index _ c.loop-part-test.true in (
      before.0 ++ _,
      before.1 ∙ ap (λ r. before.0 ++ r) more ∙ sym (append_assoc before.0 _ _),
      IsPut-append before.2 c.in_ok-write_part.ensures,
    )
