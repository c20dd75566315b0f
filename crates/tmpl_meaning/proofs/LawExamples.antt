-- Not needed by any proof: what the laws of limits and of files and lines say of one template, computed.
use Rattle.std.proofs.Common.{◌≡◌, ℕ, false, List, [], ◌∷◌, Some, None, refl, codes}
use Rattle.tmpl_grammar.specs.Tree.{nil, no_operand, operand, no_command, command, unbound}
use Rattle.tmpl_syntax.specs.Tree.{NodeKind, Nodes, Tree, none, then, text, action, template_node}
use Rattle.tmpl_syntax.specs.Set.{Template}
use Rattle.tmpl_meaning.specs.Laws.{Unplaced, without_place}
use Rattle.tmpl_meaning.specs.Laws.{IsWithinLimits}
use Rattle.tmpl_meaning.specs.Meaning.{Cause, Ran, Rules, calls_too_deep, nil_command, ran, steps_spent}
use Rattle.tmpl_meaning.specs.declared.missing_key.MissingKey.TheVariants.{Default}

abbrev rules : ℕ → ℕ → Rules
rules steps depth = record { missing_key = Default; step_limit = steps; depth_limit = depth }

abbrev tree_in : List ℕ → Nodes → Tree
tree_in file ns = record { file = file; nodes = ns }

abbrev faults_with : List ℕ → ℕ → List ℕ → Cause → Ran
faults_with bytes line name cause = record {
  text = bytes;
  fault = Some (record { file = codes "f"; line = line; template = name; cause = cause });
  made_text = false;
}

-- {{nil}}, which is refused
abbrev refused : NodeKind
refused = action (record { binding = unbound; pipeline = command (operand nil no_operand) no_command })

-- t is A{{template "u"}}B, and u is C{{nil}} on the line 2
abbrev both : Nodes → List Template
both ns = (codes "u", tree_in (codes "f") ns) ∷ []

abbrev run : ℕ → ℕ → Ran
run steps depth = ran (rules steps depth) (both (then 2 (text (codes "C")) (then 2 refused none))) (codes "t")
    (tree_in (codes "f") (then 1 (text (codes "A")) (then 1 (template_node (codes "u") None) (then 1 (text (codes "B")) none)))) None

-- four steps and a depth of two are enough: the fault is the template's own
whole : run 4 2 ≡ faults_with (codes "AC") 2 (codes "u") nil_command
whole = refl

same-with-more : run 9 9 ≡ run 4 2
same-with-more = refl

no-limit-ends-it : IsWithinLimits (run 4 2)
no-limit-ends-it = tt

-- with three steps, or one, or with no call allowed, it is cut off: the fault is the limit's
cut-by-steps : run 3 2 ≡ faults_with (codes "AC") 2 (codes "u") (steps_spent 3)
cut-by-steps = refl

cut-at-the-call : run 1 2 ≡ faults_with (codes "A") 1 (codes "t") (steps_spent 1)
cut-at-the-call = refl

cut-by-depth : run 4 1 ≡ faults_with (codes "A") 1 (codes "t") (calls_too_deep 1)
cut-by-depth = refl

a-limit-ends-it : (IsWithinLimits (run 3 2) → ⊥) × (IsWithinLimits (run 4 1) → ⊥)
a-limit-ends-it = (λ w. w, λ w. w)

-- the same trees in another file and at other lines: the name of the template and the cause are the same
elsewhere : Ran
elsewhere = ran (rules 4 2) ((codes "u", tree_in (codes "g") (then 7 (text (codes "C")) (then 8 refused none))) ∷ []) (codes "t")
    (tree_in (codes "h") (then 5 (text (codes "A")) (then 6 (template_node (codes "u") None) none))) None

told : Unplaced
told = record { text = codes "AC"; fault = Some (codes "u", nil_command); made_text = false }

no-place-is-told : (without_place (run 4 2) ≡ told) × (without_place elsewhere ≡ told)
unfolding elsewhere told
no-place-is-told = (refl, refl)
