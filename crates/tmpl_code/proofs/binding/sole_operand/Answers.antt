use Rattle.std.proofs.Common.{arith, ◌≤◌, length, sym}
use Rattle.tmpl_grammar.specs.View.{binding_of}
use Rattle.tmpl_code.proofs.ActionLemmas.{in-one}
use Rattle.tmpl_code.proofs.binding.sole_operand.Goals as goal

pub returns-in-len2-up-as_slice : goal.returns-in-len2-up-as_slice
returns-in-len2-up-as_slice c =
    let several : 2 ≤ length c.command-item.result.operands.items = rw (← c.as_slice-in-len1.ensures.value) (omega (arith, c.in-len2-up-as_slice.len_at_least)) in
    rw (← c.as_slice.ensures.value) (sym (in-one (binding_of c.args.header.now.binding) c.as_slice.result.now c.command-item.result
    (omega (arith, c.in-len1.len_at_least)) (omega (arith, c.in-len1.len_below)) c.command-item.is several))
