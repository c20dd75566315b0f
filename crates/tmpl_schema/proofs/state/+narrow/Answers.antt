use Rattle.std.proofs.Common.{arith, ◌≡◌, ◌∙◌, ◌≤◌, ◌<◌, IfOk, Bool, List, [], ◌∷◌, length, get_or, refl, sym, ap, subst}
use Rattle.std.proofs.lemmas.Grind.{common_steps}
use Rattle.tmpl_grammar.specs.View.{commands_in, operands_in}
use Rattle.tmpl_grammar.specs.declared.tree.Command as held_command
use Rattle.tmpl_shape.specs.computed.Shapes.{Base}
use Rattle.tmpl_shape.specs.computed.View.{base_of}
use Rattle.tmpl_schema.specs.computed.Check.{State, narrow, narrow_command}
use Rattle.tmpl_schema.specs.computed.View.{state_of}
use Rattle.tmpl_schema.proofs.state.+narrow.Goals as goal

-- a pipeline of one command is narrowed by it
one-command : (base : Base) (c : Bool) (cs : List held_command.Command) (d : held_command.Command) (k : State) → 1 ≤ length cs → length cs < 2 → d ≡ get_or cs 0 d
    → narrow base c (commands_in cs) k ≡ narrow_command base c (operands_in d.operands.items) k
one-command base c [] d k h g e = absurd (omega arith)
one-command base c (x ∷ []) d k h g e = subst (λ (y : held_command.Command). narrow base c (commands_in (x ∷ [])) k ≡ narrow_command base c (operands_in y.operands.items) k) (sym e) refl
one-command base c (x ∷ y ∷ cs) d k h g e = absurd (omega arith)

pub narrow-returns-in-empty-rest : goal.narrow-returns-in-empty-rest
narrow-returns-in-empty-rest t c =
    let base = base_of c.args.base.now in
    let cs = c.args.commands.now in
    let d = c.first-item.result in
    let k = state_of c.args.state.now in
    let short : length cs < 2 = grind (arith, common_steps, c.in-empty-rest.len_below) in
    let one = one-command base c.args.full cs d k c.in-len1-up.len_at_least short c.first-item.is in
    let same = one ∙ ap (λ os. narrow_command base c.args.full (operands_in os) k) (sym c.as_slice.ensures.value) in
    subst (λ (x : State). IfOk c.narrow_command.result (λ r. state_of r ≡ x)) (sym same) c.narrow_command.ensures
