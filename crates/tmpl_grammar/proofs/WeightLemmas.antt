-- For code on pipelines: the weight of operands one level at a time, by which its recursion ends, and how many there are.
use Rattle.std.proofs.Common.{arith, ◌≡◌, ◌+◌, ◌<◌, ℕ, zero, suc, List, [], ◌∷◌, length, get_or, refl, ap}
use Rattle.tmpl_grammar.specs.Tree.{Operand, group, Operands, no_operand, operand, operand_count, Pipeline, no_command, command}
use Rattle.tmpl_grammar.specs.View.{operand_of, operands_in, commands_in}
use Rattle.tmpl_grammar.specs.declared.tree.Operand as held
use Rattle.tmpl_grammar.specs.declared.tree.Command as held_command

pub operand_count-of : (os : List held.Operand) → operand_count (operands_in os) ≡ length os
operand_count-of [] = refl
operand_count-of (o ∷ os) = ap suc (operand_count-of os)

pub ruleset counts = (operand_count-of)

-- how much there is to look at
abbrev mutual
  pub weight : Operand → ℕ
  weight (group commands names) = suc (all_weight commands)
  weight _ = 0

  pub weights : Operands → ℕ
  weights no_operand = 0
  weights (operand o os) = suc (weight o + weights os)

  pub all_weight : Pipeline → ℕ
  all_weight no_command = 0
  all_weight (command os cs) = suc (weights os + all_weight cs)

pub item-weight : (os : List held.Operand) (i : ℕ) (o : held.Operand) → i < length os → o ≡ get_or os i o → weight (operand_of o) < weights (operands_in os)
item-weight [] i o h is = absurd (omega arith)
item-weight (p ∷ os) zero o h is = rw is (omega arith)
item-weight (p ∷ os) (suc i) o h is = omega (arith, item-weight os i o (omega arith) is)

-- the operands of a command, as a slice has them
pub slice-weights : (cs : List held_command.Command) (i : ℕ) (c : held_command.Command) (os : List held.Operand) → i < length cs
    → os ≡ (get_or cs i c).operands.items → weights (operands_in os) < all_weight (commands_in cs)
slice-weights [] i c os h is = absurd (omega arith)
slice-weights (d ∷ cs) zero c os h is = rw is (omega arith)
slice-weights (d ∷ cs) (suc i) c os h is = omega (arith, slice-weights cs i c os (omega arith) is)

pub ruleset lighter = (item-weight, slice-weights)
