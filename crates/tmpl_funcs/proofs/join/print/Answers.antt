use Rattle.std.proofs.Common.{◌∙◌, ◌++◌, ap, sym, Ok}
use Rattle.tmpl_values.specs.Value.{string}
use Rattle.tmpl_funcs.specs.View.{values_of}
use Rattle.tmpl_funcs.specs.Join.{join_operands}
use Rattle.tmpl_funcs.specs.declared.join.NothingText.TheVariants.{Nil}
use Rattle.tmpl_funcs.proofs.JoinLemmas.{map-operand_shown, operands_of}
use Rattle.tmpl_funcs.proofs.join.print.Goals as goal

pub returns : goal.returns
returns c =
    let cells = c.args.operands.now in
    ap (λ ws. Ok (string (join_operands ws))) (sym (map-operand_shown (values_of cells))) ∙
    ap (λ s. Ok (string s)) (sym (c.in_ok-add_joined.ensures ∙ ap (λ s. s ++ join_operands (operands_of Nil cells)) c.reserve-bytes.ensures)) ∙
    ap (λ v. Ok v) (sym c.buffer.ensures.value)
