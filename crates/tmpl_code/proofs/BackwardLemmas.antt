-- For `put_operands` and `put_commands`, which go from the last to the first: what the relation says of one more in front.
use Rattle.std.proofs.Common.{arith, ◌≤◌, ◌≡◌, ◌∙◌, ◌+◌, ◌-◌, ◌<◌, ℕ, Bool, true, false, List, ◌∷◌, length, drop, get_or, refl, ap, sym}
use Rattle.std.proofs.lemmas.List.{at_drop_more}
use Rattle.tmpl_grammar.specs.Tree.{Operands, no_operand, operand}
use Rattle.tmpl_grammar.specs.View.{operand_of, operands_in, commands_in}
use Rattle.tmpl_grammar.specs.declared.tree.Operand as held
use Rattle.tmpl_grammar.specs.declared.tree.Command as held_command
use Rattle.tmpl_code.specs.computed.Held.{Ends, after_decision}
use Rattle.tmpl_code.specs.Layout.{Layout}
use Rattle.tmpl_code.specs.Code.{Code, is_last, DecideAt, OperandAt, JunctionAt}
use Rattle.tmpl_code.proofs.TailLemmas.{passes}

-- a loop to the first that ended there says of all what it kept
pub at-first : {A B : Type 0} (f : List A → B) (xs : List A) {i : ℕ} {v : B} → v ≡ f (drop i xs) → i ≡ 0 → v ≡ f xs
at-first f xs kept first = kept ∙ ap (λ k. f (drop k xs)) first

pub from_none : {A : Type 0} (xs : List A) (i : ℕ) → i ≤ 0 → drop i xs ≡ xs
from_none xs i le = let none : i ≡ 0 = omega arith in ap (λ k. drop k xs) none

pub commands_from : (cs : List held_command.Command) (i : ℕ) (c : held_command.Command) → i < length cs → c ≡ get_or cs i c
    → commands_in (drop i cs) ≡ commands_in (c ∷ drop (i + 1) cs)
commands_from cs i c h is = at_drop_more commands_in cs i c h ∙ ap (λ (d : held_command.Command). commands_in (d ∷ drop (i + 1) cs)) (sym is)

pub operands_from : (os : List held.Operand) (i : ℕ) (o : held.Operand) → i < length os → o ≡ get_or os i o
    → operands_in (drop i os) ≡ operands_in (o ∷ drop (i + 1) os)
operands_from os i o h is = at_drop_more operands_in os i o h ∙ ap (λ (d : held.Operand). operands_in (d ∷ drop (i + 1) os)) (sym is)

-- one operand more
pub junction_more : (lay : Layout) (above : ℕ) (is_or piped : Bool) (os : List held.Operand) (i : ℕ) (o : held.Operand) (last : Bool) (new mid more old : Code)
    → i < length os → o ≡ get_or os i o → last ≡ is_last (operands_in (drop (i + 1) os)) piped → mid ≡ after_decision last is_or piped (length old) more
    → OperandAt (operand_of o) above lay new mid → JunctionAt is_or (operands_in (drop (i + 1) os)) piped above lay more old
    → Ends old more → JunctionAt is_or (operands_in (drop i os)) piped above lay new old
junction_more lay above is_or piped os i o last new mid more old h is e put at others on =
    let rest : Operands = operands_in (drop (i + 1) os) in
    let decided_here : mid ≡ after_decision (is_last rest piped) is_or piped (length old) more = rw (← e) put in
    rw (operands_from os i o h is) (mid, at, decides rest (is_last rest piped) decided_here others (λ t. none rest piped t others))
  where
    decides : (rest : Operands) (b : Bool) → mid ≡ after_decision b is_or piped (length old) more → JunctionAt is_or rest piped above lay more old
        → (b ≡ true → more ≡ old) → DecideAt b is_or piped (JunctionAt is_or rest piped above lay) mid old
    decides rest true put others none = put ∙ none refl
    decides rest false put others none = (length more - length old, more, put, others, passes on refl)

    none : (os : Operands) (piped : Bool) → is_last os piped ≡ true → JunctionAt is_or os piped above lay more old → more ≡ old
    none no_operand false e l = l
    none no_operand true e l = l
    none (operand o os) piped e l = cc
