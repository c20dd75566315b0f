-- For the law that what a file defines can be printed: what holds of the actions that its tokens spell.
use Rattle.std.proofs.Common.{arith, ℕ, ◌≤◌, Bool, false, List, [], ◌∷◌, ◌++◌, Some, None, subst}
use Rattle.tmpl_values.specs.Bytes.{AreBytes}
use Rattle.tmpl_lex.specs.Piece.{Token}
use Rattle.tmpl_grammar.specs.Tree as tree
use Rattle.tmpl_grammar.specs.Tree.{Operand, Operands, Pipeline, Binding, unbound, Header, declare_pair}
use Rattle.tmpl_grammar.specs.Action.{Action, pipeline_action, opening, else_branch, define_action, template_action, block_action, IsQuoted, SpellsAction}
use Rattle.tmpl_grammar.specs.Header.{is_range, IsVariable, Then, SpellsHeader}
use Rattle.tmpl_grammar.specs.Depth.{depth_of, depth_of_pipeline, most_deep}
use Rattle.tmpl_grammar.specs.Pipeline.{SpellsPipeline}
use Rattle.tmpl_grammar.proofs.PartsLemmas.{pipeline-parts, ChainParts, OperandParts, MoreParts, CommandParts, LaterParts, PipelineParts}
use Rattle.tmpl_grammar.specs.Operand as operand
use Rattle.tmpl_grammar.specs.Operand.{IsOperand}
use Rattle.tmpl_grammar.specs.Printable.{AreFieldNames, OfOperand, OfMore, OfCommand, OfLater, OfCommands, OfPipeline, OfVariable}
use Rattle.tmpl_grammar.specs.Printable.{OfBinding, OfAction, OfHeader}
use Rattle.tmpl_grammar.proofs.PrintableTokenLemmas.{IsRead, AreRead}
use Rattle.tmpl_grammar.proofs.PrintableConstantLemmas.{of-constant}
use Rattle.tmpl_grammar.proofs.HeaderLemmas.{Bound, binding-parts}

of-token : (t : Token) (o : Operand) → IsRead t → IsOperand t o → OfOperand o
of-token t _ r (operand.field is begins) = ((begins, rw is at r.names), tt)
of-token t _ r (operand.variable is) = (rw is at r.names, tt)
of-token t o r (operand.a_constant is) = of-constant t o r.bytes is
of-token _ _ r _ = tt

-- ---- pipelines

read-parts : (ts us : List Token) → AreRead (ts ++ us) → AreRead ts × AreRead us
read-parts [] us h = (tt, h)
read-parts (t ∷ ts) us h = let more = read-parts ts us h.1 in ((h.0, more.0), more.1)

of-chain : (ns : List (List ℕ)) (ts : List Token) → AreRead ts → ChainParts ns ts → AreFieldNames ns
of-chain [] ts r s = tt
of-chain (n ∷ ns) ts r s = let h = subst AreRead s.2 r in grind (arith, h.0, of-chain ns s.1 h.1 s.6)

mutual
  of-operand : (o : Operand) (ts : List Token) → AreRead ts → OperandParts o ts → OfOperand o
  of-operand (tree.fields []) ts r s = let h = subst AreRead s.2 r in of-token s.0 (tree.fields []) h.0 s.3
  of-operand (tree.fields (n ∷ ns)) ts r s =
      let h = subst AreRead s.2 r in
      ((of-token s.0 (tree.fields (n ∷ [])) h.0 s.3).0, of-chain ns s.1 h.1 s.4)
  of-operand (tree.variable name names) ts r s =
      let h = subst AreRead s.2 r in
      ((of-token s.0 (tree.variable name []) h.0 s.3).0, of-chain names s.1 h.1 s.4)
  of-operand (tree.number_constant n) ts r s = let h = subst AreRead s.2 r in of-token s.0 (tree.number_constant n) h.0 s.3
  of-operand (tree.text_constant bytes) ts r s = let h = subst AreRead s.2 r in of-token s.0 (tree.text_constant bytes) h.0 s.3
  of-operand (tree.group commands names) ts r s =
      let h = (subst AreRead s.4 r).1 in
      let parts = read-parts s.1 (s.2 ∷ s.3) h in
      (of-parts commands s.1 parts.0 s.7, of-chain names s.3 parts.1.1 s.8)
  of-operand _ ts r s = tt

  of-more : (os : Operands) (ts : List Token) → AreRead ts → MoreParts os ts → OfMore os
  of-more tree.no_operand ts r s = tt
  of-more (tree.operand o os) ts r s =
      let h = (subst AreRead s.4 r).1 in
      let parts = read-parts s.2 s.3 (read-parts s.1 (s.2 ++ s.3) h).1 in
      (of-operand o s.2 parts.0 s.6, of-more os s.3 parts.1 s.7)

  of-command : (os : Operands) (ts : List Token) → AreRead ts → CommandParts os ts → OfCommand os
  of-command tree.no_operand ts r s = s
  of-command (tree.operand o os) ts r s =
      let parts = read-parts s.1 s.2 (read-parts s.0 (s.1 ++ s.2) (subst AreRead s.3 r)).1 in
      (of-operand o s.1 parts.0 s.5, of-more os s.2 parts.1 s.6)

  of-later : (cs : Pipeline) (ts : List Token) → AreRead ts → LaterParts cs ts → OfLater cs
  of-later tree.no_command ts r s = tt
  of-later (tree.command os cs) ts r s =
      let parts = read-parts s.1 s.2 (subst AreRead s.3 r).1 in
      (s.5, of-command os s.1 parts.0 s.6, of-later cs s.2 parts.1 s.7)

  of-parts : (cs : Pipeline) (ts : List Token) → AreRead ts → PipelineParts cs ts → OfCommands cs
  of-parts tree.no_command ts r s = s
  of-parts (tree.command os cs) ts r s =
      let parts = read-parts s.0 s.1 (subst AreRead s.2 r) in
      (of-command os s.0 parts.0 s.3, of-later cs s.1 parts.1 s.4)

pub of-commands : (cs : Pipeline) (ts : List Token) → AreRead ts → SpellsPipeline cs ts → OfCommands cs
of-commands cs ts r s = of-parts cs ts r (pipeline-parts cs ts s)

-- ---- actions

after : {Is : Token → Type 0} {Rest : List Token → Type 0} {ts : List Token} → (s : Then Is Rest ts) → AreRead ts → IsRead s.1 × AreRead s.2
after s r = (read-parts s.0 (s.1 ∷ s.2) (rw s.3 at r)).1

of-variable : (name : List ℕ) (t : Token) → IsRead t → IsVariable name t → OfVariable name
of-variable name t r v = grind arith

of-bound : (b : Binding) (p : Pipeline) (ts : List Token) → depth_of_pipeline p ≤ most_deep → AreRead ts
    → Bound b (SpellsPipeline p) ts → OfBinding b × OfPipeline p
of-bound unbound p ts d r s = (tt, (of-commands p ts r s, d))
of-bound (declare_pair key name) p ts d r s =
    let h = after s r in
    let k = after s.6.6 (after s.6 h.1).1 in
    let sign = s.6.6.6 in
    ((of-variable key s.1 h.0 s.5, of-variable name s.6.6.1 k.0 s.6.6.5), (of-commands p sign.2 (after sign k.1).1 sign.6, d))
of-bound _ p ts d r s =
    let h = after s r in
    (of-variable _ s.1 h.0 s.5, (of-commands p s.6.2 (after s.6 h.1).1 s.6.6, d))

of-header : (in_range : Bool) (h : Header) (ts : List Token) → depth_of_pipeline h.pipeline ≤ most_deep → AreRead ts
    → SpellsHeader in_range h ts → OfHeader in_range h
of-header in_range h ts d r spelled =
    let parts = binding-parts in_range h.binding _ ts spelled in
    let bound = of-bound h.binding h.pipeline ts d r parts.1 in (parts.0, bound.0, bound.1)

of-named : {Rest : List Token → Type 0} {ts : List Token} (name : List ℕ) → (s : Then (IsQuoted name) Rest ts) → AreRead ts → AreBytes name × AreRead s.2
of-named name s r = let h = after s r in (of-constant s.1 (tree.text_constant name) (let t = h.0 in t.bytes) s.5, h.1)

pub of_action : (a : Action) (ts : List Token) → depth_of a ≤ most_deep → AreRead ts → SpellsAction a ts → OfAction a
of_action (pipeline_action h) ts d r s = of-header false h ts d r s
of_action (opening c h) ts d r s = of-header (is_range c) h s.2 d (after s r).1 s.6
of_action (else_branch br h) ts d r s = of-header false h s.6.2 d (after s.6 (after s r).1).1 s.6.6
of_action (define_action name) ts d r s = (of-named name s.6 (after s r).1).0
of_action (template_action name None) ts d r s = ((of-named name s.6 (after s r).1).0, tt)
of_action (template_action name (Some p)) ts d r s =
    let n = of-named name s.6 (after s r).1 in
    (n.0, (of-commands p s.6.2 n.1 s.6.6, d))
of_action (block_action name p) ts d r s =
    let n = of-named name s.6 (after s r).1 in
    (n.0, (of-commands p s.6.2 n.1 s.6.6, d))
of_action _ ts d r s = tt
