-- For code that looks at operands and commands as slices: what more than one of them tell, and calls of most functions.
use Rattle.std.proofs.Common.{arith, ◌≡◌, ◌≤◌, ◌⊎◌, inl, inr, Bool, List, [], ◌∷◌, None, length, refl}
use Rattle.tmpl_grammar.specs.Tree.{Operand, Operands, no_operand, operand, Pipeline, no_command, command}
use Rattle.tmpl_grammar.specs.View.{commands_in, operands_in}
use Rattle.tmpl_grammar.specs.declared.tree.Operand as held
use Rattle.tmpl_grammar.specs.declared.tree.Command as held_command
use Rattle.tmpl_funcs.specs.declared.func.Func.{Func}
use Rattle.tmpl_funcs.specs.declared.func.Func.TheVariants as func
use Rattle.tmpl_schema.specs.computed.Check.{bounds_of, call_fact, compare_fact, one_of, pipeline_call, pipeline_place}

pub not-one : (os : List held.Operand) → 2 ≤ length os → one_of (operands_in os) ≡ None
not-one [] h = absurd (omega arith)
not-one (o ∷ []) h = absurd (omega arith)
not-one (o ∷ p ∷ os) h = refl

pub not-one-call : (cs : List held_command.Command) → 2 ≤ length cs → pipeline_call (commands_in cs) ≡ None
not-one-call [] h = absurd (omega arith)
not-one-call (c ∷ []) h = absurd (omega arith)
not-one-call (c ∷ d ∷ cs) h = refl

pub not-bounds : (os : List held.Operand) → 3 ≤ length os → bounds_of None (operands_in os) ≡ None
not-bounds [] h = absurd (omega arith)
not-bounds (o ∷ []) h = absurd (omega arith)
not-bounds (o ∷ p ∷ []) h = absurd (omega arith)
not-bounds (o ∷ p ∷ q ∷ os) h = refl

pub no-call : (c : Bool) (f : Func) → (f ≡ func.Len → ⊥) → call_fact c f no_operand ≡ None
no-call c func.Len h = absurd (h refl)
no-call c _ h = refl

pub other-call : (c : Bool) (f : Func) (o : Operand) (os : Operands) → (f ≡ func.Len → ⊥)
    → call_fact c f (operand o os) ≡ compare_fact c f o os
other-call c func.Len o os h = absurd (h refl)
other-call c _ o os h = refl

no-place : (os : Operands) (p : Pipeline) → pipeline_place (command os p) ≡ None ⊎ (p ≡ no_command)
no-place os no_command = inr refl
no-place no_operand (command us p) = inl refl
no-place (operand o os) (command us p) = inl refl

pub not-one-place : (cs : List held_command.Command) → 2 ≤ length cs → pipeline_place (commands_in cs) ≡ None
not-one-place [] h = absurd (omega arith)
not-one-place (c ∷ []) h = absurd (omega arith)
not-one-place (c ∷ d ∷ cs) h = elim (no-place (operands_in c.operands.items) (commands_in (d ∷ cs))) [ inl e ↦ e | inr e ↦ cc ]

pub ruleset rests = (not-one, not-one-call, not-one-place, not-bounds, no-call, other-call)
