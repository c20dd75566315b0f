-- For `sole_operand`: where there are none or more of them, no command and no operand is the only one.
use Rattle.std.proofs.Common.{arith, ◌≡◌, ◌∙◌, ◌<◌, ◌≤◌, List, [], ◌∷◌, ap, get_or, length, sym, None}
use Rattle.tmpl_grammar.specs.Tree.{Binding, Operands, Pipeline, no_command, command}
use Rattle.tmpl_grammar.specs.View.{commands_in, operands_in}
use Rattle.tmpl_grammar.specs.declared.tree.Command as held_command
use Rattle.tmpl_grammar.specs.declared.tree.Operand as held_operand
use Rattle.tmpl_code.specs.Code.{sole_of}

pub of-none : (b : Binding) (cs : List held_command.Command) → length cs < 1 → sole_of b (commands_in cs) ≡ None
of-none b [] h = grind arith
of-none b (c ∷ cs) h = absurd (omega arith)

of-more : (b : Binding) (os ps : Operands) (p : Pipeline) → sole_of b (command os (command ps p)) ≡ None
of-more b os ps p = grind arith

pub of-several : (b : Binding) (cs : List held_command.Command) → 2 ≤ length cs → sole_of b (commands_in cs) ≡ None
of-several b [] h = absurd (omega arith)
of-several b (c ∷ []) h = absurd (omega arith)
of-several b (c ∷ d ∷ cs) h = of-more b _ _ _

pub in-none : (b : Binding) (os : List held_operand.Operand) → length os < 1 → sole_of b (command (operands_in os) no_command) ≡ None
in-none b [] h = grind arith
in-none b (o ∷ os) h = absurd (omega arith)

pub in-several : (b : Binding) (os : List held_operand.Operand) → 2 ≤ length os → sole_of b (command (operands_in os) no_command) ≡ None
in-several b [] h = absurd (omega arith)
in-several b (o ∷ []) h = absurd (omega arith)
in-several b (o ∷ p ∷ os) h = grind arith

pub in-one : (b : Binding) (cs : List held_command.Command) (c : held_command.Command) → 1 ≤ length cs → length cs < 2 → c ≡ get_or cs 0 c
    → 2 ≤ length c.operands.items → sole_of b (commands_in cs) ≡ None
in-one b [] c some few is h = absurd (omega arith)
in-one b (d ∷ []) c some few is h = ap (λ (x : held_command.Command). sole_of b (command (operands_in x.operands.items) no_command)) (sym is) ∙ in-several b c.operands.items h
in-one b (d ∷ e ∷ cs) c some few is h = absurd (omega arith)

pub ruleset soles = (of-none, of-several, in-none, in-several)
