use Rattle.std.proofs.Common.{◌++◌, ap, sym}
use Rattle.tmpl_funcs.specs.View.{values_of}
use Rattle.tmpl_funcs.proofs.JoinLemmas.{parted-by}
use Rattle.tmpl_funcs.proofs.join.add_parted.Goals as goal

pub loop-operand-init : goal.loop-operand-init
loop-operand-init c =
    ap (λ t. c.args.bytes.now.items ++ t) (sym (parted-by (values_of c.args.operands.now)))
