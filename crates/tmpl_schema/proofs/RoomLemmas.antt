-- For code that goes over commands one by one: each weighs less than all of them.
use Rattle.std.proofs.Common.{arith, ◌≡◌, ◌<◌, zero, suc, ℕ, List, [], ◌∷◌, length, get_or}
use Rattle.tmpl_grammar.specs.View.{commands_in, operands_in}
use Rattle.tmpl_grammar.specs.declared.tree.Command as held_command
use Rattle.tmpl_grammar.proofs.WeightLemmas.{all_weight, weights}

pub command-lighter : (cs : List held_command.Command) (i : ℕ) (c : held_command.Command) → i < length cs → c ≡ get_or cs i c
    → weights (operands_in c.operands.items) < all_weight (commands_in cs)
command-lighter [] i c h is = absurd (omega arith)
command-lighter (d ∷ cs) zero c h is = rw is (omega arith)
command-lighter (d ∷ cs) (suc i) c h is = omega (arith, command-lighter cs i c (omega arith) is)

pub ruleset lighter = (command-lighter)
