use Rattle.std.proofs.Common.{◌++◌, ap, sym}
use Rattle.tmpl_funcs.proofs.JoinLemmas.{join_operands-by, operands_of}
use Rattle.tmpl_funcs.proofs.join.add_joined.Goals as goal

pub loop-operand-init : goal.loop-operand-init
loop-operand-init c =
    ap (λ t. c.args.bytes.now.items ++ t) (sym (join_operands-by (operands_of c.args.nothing_text c.args.operands.now)))
