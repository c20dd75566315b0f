-- For the bound on what a template needs: an action needs no more than two and one for each of its tokens.
use Rattle.std.proofs.Common.{arith, ◌≡◌, ◌∙◌, ◌≤◌, ℕ, suc, ◌+◌, max, Bool, false, List, [], ◌∷◌, ◌++◌, Option, ap, length, length-append}
use Rattle.tmpl_lex.specs.Piece.{Token}
use Rattle.tmpl_grammar.specs.Tree as tree
use Rattle.tmpl_grammar.specs.Tree.{Operand, Operands, Pipeline, Binding, unbound, declare_pair, Header}
use Rattle.tmpl_grammar.specs.Pipeline.{SpellsPipeline}
use Rattle.tmpl_grammar.proofs.PartsLemmas.{pipeline-parts, ChainedParts, OperandParts, MoreParts, CommandParts, LaterParts, PipelineParts}
use Rattle.tmpl_grammar.specs.Header.{is_range, Then, SpellsHeader}
use Rattle.tmpl_grammar.specs.Action.{Action, pipeline_action, opening, else_branch, template_action, block_action, SpellsGiven, SpellsAction}
use Rattle.tmpl_grammar.specs.Need.{called_or_alone, need_of_operand, need_of_arguments, need_of_command, need_of_commands}
use Rattle.tmpl_grammar.specs.Need.{need_of_pipeline, need_of_given, declared_count}
use Rattle.tmpl_grammar.proofs.HeaderLemmas.{Bound, binding-parts}

-- ---- each value has a cell

by-first : (P : ℕ → Type 0) (o : Operand) (call alone : ℕ) → P call → P alone → P (called_or_alone o call alone)
by-first P o call alone h k = grind arith

commands-least : (piped : ℕ) (cs : Pipeline) → 1 ≤ need_of_commands piped cs
commands-least piped tree.no_command = omega arith
commands-least piped (tree.command os cs) = let rest = commands-least 1 cs in omega (arith, rest)

operand-least : (o : Operand) → 1 ≤ need_of_operand o
operand-least (tree.group commands names) = commands-least 0 commands
operand-least _ = omega arith

command-least : (piped : ℕ) (os : Operands) → 1 ≤ need_of_command piped os
command-least piped tree.no_operand = omega arith
command-least piped (tree.operand o os) = by-first (λ n. 1 ≤ n) o (max 1 (need_of_arguments piped os)) (need_of_operand o) (omega arith) (operand-least o)

-- ---- each value has a token

one-token : (o : Operand) (names : List (List ℕ)) (ts : List Token) → ChainedParts o names ts → 1 ≤ length ts
one-token o names ts h = grind arith

joined : (ts us vs : List Token) → ts ≡ us ++ vs → length ts ≡ length us + length vs
joined ts us vs e = ap length e ∙ length-append us vs

mutual
  operand-within : (o : Operand) (ts : List Token) → OperandParts o ts → need_of_operand o ≤ length ts
  operand-within (tree.fields (n ∷ ns)) ts s = one-token (tree.fields (n ∷ [])) ns ts s
  operand-within (tree.variable name names) ts s = one-token (tree.variable name []) names ts s
  operand-within (tree.group commands names) ts s =
      omega (arith, parts-within commands s.1 s.7, joined ts (s.0 ∷ s.1) (s.2 ∷ s.3) s.4)
  operand-within o ts s = one-token o [] ts s

  arguments-within : (held : ℕ) (os : Operands) (ts : List Token) → MoreParts os ts → need_of_arguments held os ≤ held + length ts
  arguments-within held tree.no_operand ts s = omega arith
  arguments-within held (tree.operand o os) ts s =
      let here = operand-within o s.2 s.6 in
      omega (arith, here, arguments-within (suc held) os s.3 s.7, joined ts (s.0 ∷ s.1) (s.2 ++ s.3) s.4, length-append s.2 s.3)

  command-within : (piped : ℕ) (os : Operands) (ts : List Token) → CommandParts os ts → need_of_command piped os ≤ piped + length ts
  command-within piped tree.no_operand ts s = absurd s
  command-within piped (tree.operand o os) ts s =
      grind (arith, operand-least o, operand-within o s.1 s.5, arguments-within piped os s.2 s.6, joined ts s.0 (s.1 ++ s.2) s.3, length-append s.1 s.2)

  later-within : (cs : Pipeline) (ts : List Token) → LaterParts cs ts → need_of_commands 1 cs ≤ 1 + length ts
  later-within tree.no_command ts s = omega arith
  later-within (tree.command os cs) ts s =
      omega (arith, command-within 1 os s.1 s.6, later-within cs s.2 s.7, joined ts (s.0 ∷ s.1) s.2 s.3)

  parts-within : (cs : Pipeline) (ts : List Token) → PipelineParts cs ts → need_of_commands 0 cs ≤ length ts
  parts-within tree.no_command ts s = absurd s
  parts-within (tree.command os cs) ts s =
      omega (arith, command-least 0 os, command-within 0 os s.0 s.3, later-within cs s.1 s.4, joined ts s.0 s.1 s.2)

pipeline-within : (cs : Pipeline) (ts : List Token) → SpellsPipeline cs ts → need_of_commands 0 cs ≤ length ts
pipeline-within cs ts s = parts-within cs ts (pipeline-parts cs ts s)

-- ---- and so has each variable

-- one token is before those after it
after : {Is : Token → Type 0} {Rest : List Token → Type 0} {ts : List Token} → (s : Then Is Rest ts) → 1 + length s.2 ≤ length ts
after {ts = ts} s = omega (arith, joined ts s.0 (s.1 ∷ s.2) s.3)

bound-within : (b : Binding) (p : Pipeline) (ts : List Token) → Bound b (SpellsPipeline p) ts → declared_count b + need_of_pipeline p ≤ length ts
bound-within unbound p ts s = let n = pipeline-within p ts s in omega (arith, n)
bound-within (declare_pair key name) p ts s =
    let sign = s.6.6.6 in
    omega (arith, after s, after s.6, after s.6.6, after sign, pipeline-within p sign.2 sign.6)
bound-within _ p ts s = omega (arith, after s, after s.6, pipeline-within p s.6.2 s.6.6)

-- ---- actions

-- what a header's variables and its pipeline need together
abbrev pub header_cells : Header → ℕ
header_cells h = declared_count h.binding + need_of_pipeline h.pipeline

-- what an action adds to what its template needs: a control has two at most for itself
abbrev pub cells_of : Action → ℕ
cells_of (pipeline_action h) = header_cells h
cells_of (opening c h) = 2 + header_cells h
cells_of (else_branch br h) = 2 + header_cells h
cells_of (template_action name given) = need_of_given given
cells_of (block_action name p) = need_of_pipeline p
cells_of _ = 0

header-within : (in_range : Bool) (h : Header) (ts : List Token) → SpellsHeader in_range h ts → header_cells h ≤ length ts
header-within in_range h ts spelled = bound-within h.binding h.pipeline ts (binding-parts in_range h.binding _ ts spelled).1

given-within : (given : Option Pipeline) (ts : List Token) → SpellsGiven given ts → need_of_given given ≤ 1 + length ts
given-within given ts h = grind (arith, pipeline-within)

pub action-within : (a : Action) (ts : List Token) → SpellsAction a ts → cells_of a ≤ 2 + length ts
action-within (pipeline_action h) ts s = let n = header-within false h ts s in omega (arith, n)
action-within (opening c h) ts s = omega (arith, after s, header-within (is_range c) h s.2 s.6)
action-within (else_branch br h) ts s = omega (arith, after s, after s.6, header-within false h s.6.2 s.6.6)
action-within (template_action name given) ts s = omega (arith, after s, after s.6, given-within given s.6.2 s.6.6)
action-within (block_action name p) ts s = omega (arith, after s, after s.6, pipeline-within p s.6.2 s.6.6)
action-within _ ts s = omega arith
