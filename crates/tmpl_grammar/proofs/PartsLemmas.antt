-- For the lemmas of pipelines: what tokens that spell one consist of, by cases on the tree.
use Rattle.std.proofs.Common.{◌≡◌, ℕ, true, List, [], ◌∷◌, ◌++◌, refl, sym, ap, subst, ◌∙◌}
use Rattle.tmpl_lex.specs.declared.piece.TokenKind.TheVariants as kind
use Rattle.tmpl_lex.specs.Piece.{Token}
use Rattle.tmpl_grammar.specs.Token.{begins_name, name_in}
use Rattle.tmpl_grammar.specs.Tree as tree
use Rattle.tmpl_grammar.specs.Tree.{Operand, Operands, Pipeline}
use Rattle.tmpl_grammar.specs.Constant as constant
use Rattle.tmpl_grammar.specs.Operand as operand
use Rattle.tmpl_grammar.specs.Operand.{IsOperand}
use Rattle.tmpl_grammar.specs.Pipeline as spells
use Rattle.tmpl_grammar.specs.Pipeline.{IsBlank, IsChain, may_be_later, SpellsOperand, SpellsMore, SpellsCommand, SpellsLater, SpellsPipeline}

-- fields of these names, with nothing between them
abbrev pub ChainParts : List (List ℕ) → List Token → Type 0
ChainParts [] ts = ts ≡ []
ChainParts (n ∷ ns) ts =
    (t : Token) × (us : List Token) × (ts ≡ t ∷ us) × (t.kind ≡ kind.Field) × (begins_name (name_in t) ≡ true)
    × (name_in t ≡ n) × ChainParts ns us

-- a token that is an operand of its own, and a chain
abbrev pub ChainedParts : Operand → List (List ℕ) → List Token → Type 0
ChainedParts o names ts = (t : Token) × (us : List Token) × (ts ≡ t ∷ us) × IsOperand t o × ChainParts names us

abbrev mutual
  -- an operand
  pub OperandParts : Operand → List Token → Type 0
  OperandParts (tree.fields (n ∷ ns)) ts = ChainedParts (tree.fields (n ∷ [])) ns ts
  OperandParts (tree.variable name names) ts = ChainedParts (tree.variable name []) names ts
  OperandParts (tree.group commands names) ts =
      (l : Token) × (inner : List Token) × (r : Token) × (us : List Token) × (ts ≡ l ∷ inner ++ r ∷ us)
      × (l.kind ≡ kind.LeftParenthesis) × (r.kind ≡ kind.RightParenthesis) × PipelineParts commands inner
      × ChainParts names us
  OperandParts o ts = ChainedParts o [] ts

  -- operands, each after white space, and perhaps white space
  pub MoreParts : Operands → List Token → Type 0
  MoreParts tree.no_operand ts = IsBlank ts
  MoreParts (tree.operand o os) ts =
      (w : Token) × (ws : List Token) × (a : List Token) × (b : List Token) × (ts ≡ w ∷ ws ++ (a ++ b))
      × IsBlank (w ∷ ws) × OperandParts o a × MoreParts os b

  -- one or more operands
  pub CommandParts : Operands → List Token → Type 0
  CommandParts tree.no_operand ts = ⊥
  CommandParts (tree.operand o os) ts =
      (ws : List Token) × (a : List Token) × (b : List Token) × (ts ≡ ws ++ (a ++ b)) × IsBlank ws × OperandParts o a
      × MoreParts os b

  -- commands, each after a bar
  pub LaterParts : Pipeline → List Token → Type 0
  LaterParts tree.no_command ts = ts ≡ []
  LaterParts (tree.command os cs) ts =
      (bar : Token) × (a : List Token) × (b : List Token) × (ts ≡ bar ∷ a ++ b) × (bar.kind ≡ kind.Pipe)
      × (may_be_later os ≡ true) × CommandParts os a × LaterParts cs b

  -- one or more commands
  pub PipelineParts : Pipeline → List Token → Type 0
  PipelineParts tree.no_command ts = ⊥
  PipelineParts (tree.command os cs) ts =
      (a : List Token) × (b : List Token) × (ts ≡ a ++ b) × CommandParts os a × LaterParts cs b

-- ---- the parts of what is spelled

chain-parts : (names : List (List ℕ)) (ts : List Token) → IsChain names ts → ChainParts names ts
chain-parts _ _ spells.no_field = refl
chain-parts _ _ (spells.field {t = t} {names = names} {ts = ts} is begins more) = (t, ts, refl, is, begins, refl, chain-parts names ts more)

-- a token that is an operand, of a chain of at least one field
abbrev IsOne : Operand → Type 0
IsOne (tree.fields []) = ⊥
IsOne _ = Unit {0}

pub is-one : (t : Token) (o : Operand) → IsOperand t o → IsOne o × ((ts : List Token) → ChainedParts o [] ts → OperandParts o ts)
is-one _ _ (operand.a_constant (constant.number is)) = (tt, λ ts c. c)
is-one _ _ _ = (tt, λ ts c. c)

mutual
  operand-parts : (o : Operand) (ts : List Token) → SpellsOperand o ts → OperandParts o ts
  operand-parts _ _ (spells.single {t = t} {o = o} is) = (is-one t o is).1 (t ∷ []) (t, [], refl, is, refl)
  operand-parts _ _ (spells.of_fields {t = t} {names = names} {ts = ts} is chain) = (t, ts, refl, is, chain-parts names ts chain)
  operand-parts _ _ (spells.of_variable {t = t} {names = names} {ts = ts} is chain) = (t, ts, refl, is, chain-parts names ts chain)
  operand-parts _ _ (spells.of_group {l = l} r {commands = cs} {names = names} {inner = inner} {ts = ts} left p right chain) =
      (l, inner, r, ts, refl, left, right, pipeline-parts cs inner p, chain-parts names ts chain)

  more-parts : (os : Operands) (ts : List Token) → SpellsMore os ts → MoreParts os ts
  more-parts _ _ (spells.no_operand blank) = blank
  more-parts _ _ (spells.next_operand {w = w} ws {ts = ts} {us = us} {o = o} {os = os} blank first more) =
      (w, ws, ts, us, refl, blank, operand-parts o ts first, more-parts os us more)

  command-parts : (os : Operands) (ts : List Token) → SpellsCommand os ts → CommandParts os ts
  command-parts _ _ (spells.operands ws {ts = ts} {us = us} {o = o} {os = os} blank first more) =
      (ws, ts, us, refl, blank, operand-parts o ts first, more-parts os us more)

  later-parts : (cs : Pipeline) (ts : List Token) → SpellsLater cs ts → LaterParts cs ts
  later-parts _ _ spells.no_command = refl
  later-parts _ _ (spells.next_command {bar = bar} {ts = ts} {us = us} {os = os} {cs = cs} is may first more) =
      (bar, ts, us, refl, is, may, command-parts os ts first, later-parts cs us more)

  pub pipeline-parts : (cs : Pipeline) (ts : List Token) → SpellsPipeline cs ts → PipelineParts cs ts
  pipeline-parts _ _ (spells.commands {ts = ts} {us = us} {os = os} {cs = cs} first more) =
      (ts, us, refl, command-parts os ts first, later-parts cs us more)

-- ---- what is spelled from its parts

chain-whole : (names : List (List ℕ)) (ts : List Token) → ChainParts names ts → IsChain names ts
chain-whole [] ts c = subst (IsChain []) (sym c) spells.no_field
chain-whole (n ∷ names) ts (t, us, is, field, begins, name, rest) =
    subst (IsChain (n ∷ names)) (sym is) (subst (λ n. IsChain (n ∷ names) (t ∷ us)) name (spells.field field begins (chain-whole names us rest)))

single-whole : (o : Operand) (ts : List Token) → ChainedParts o [] ts → SpellsOperand o ts
single-whole o ts (t, us, is, at, rest) = subst (SpellsOperand o) (sym (is ∙ ap (λ us. t ∷ us) rest)) (spells.single at)

mutual
  operand-whole : (o : Operand) (ts : List Token) → OperandParts o ts → SpellsOperand o ts
  operand-whole (tree.fields (n ∷ ns)) ts (t, us, is, at, chain) =
      subst (SpellsOperand (tree.fields (n ∷ ns))) (sym is) (spells.of_fields at (chain-whole ns us chain))
  operand-whole (tree.variable x names) ts (t, us, is, at, chain) =
      subst (SpellsOperand (tree.variable x names)) (sym is) (spells.of_variable at (chain-whole names us chain))
  operand-whole (tree.group cs names) ts (l, inner, r, us, is, left, right, p, chain) =
      subst (SpellsOperand (tree.group cs names)) (sym is) (spells.of_group r left (pipeline-whole cs inner p) right (chain-whole names us chain))
  operand-whole o ts s = single-whole o ts s

  more-whole : (os : Operands) (ts : List Token) → MoreParts os ts → SpellsMore os ts
  more-whole tree.no_operand ts s = spells.no_operand s
  more-whole (tree.operand o os) ts (w, ws, a, b, is, blank, first, rest) =
      subst (SpellsMore (tree.operand o os)) (sym is) (spells.next_operand ws blank (operand-whole o a first) (more-whole os b rest))

  command-whole : (os : Operands) (ts : List Token) → CommandParts os ts → SpellsCommand os ts
  command-whole tree.no_operand ts s = absurd s
  command-whole (tree.operand o os) ts (ws, a, b, is, blank, first, rest) =
      subst (SpellsCommand (tree.operand o os)) (sym is) (spells.operands ws blank (operand-whole o a first) (more-whole os b rest))

  later-whole : (cs : Pipeline) (ts : List Token) → LaterParts cs ts → SpellsLater cs ts
  later-whole tree.no_command ts s = subst (SpellsLater tree.no_command) (sym s) spells.no_command
  later-whole (tree.command os cs) ts (bar, a, b, is, bars, may, first, rest) =
      subst (SpellsLater (tree.command os cs)) (sym is) (spells.next_command bars may (command-whole os a first) (later-whole cs b rest))

  pub pipeline-whole : (cs : Pipeline) (ts : List Token) → PipelineParts cs ts → SpellsPipeline cs ts
  pipeline-whole tree.no_command ts s = absurd s
  pipeline-whole (tree.command os cs) ts (a, b, is, first, rest) =
      subst (SpellsPipeline (tree.command os cs)) (sym is) (spells.commands (command-whole os a first) (later-whole cs b rest))
