-- For `is_shallow` and `pipeline`: a pipeline is as deep as the parentheses of its tokens are open at most.
use Rattle.std.proofs.Common.{arith, ◌≡◌, ◌∙◌, ◌≤◌, ℕ, suc, ◌+◌, ◌-◌, ◌<◌, max, nat_le, false, List, [], ◌∷◌, ◌++◌, refl, ap, subst, append_assoc, append-nil}
use Rattle.std.proofs.lemmas.Bool.Decides.{nat_tests}
use Rattle.tmpl_lex.specs.declared.piece.TokenKind.{TokenKind}
use Rattle.tmpl_lex.specs.declared.piece.TokenKind.TheVariants as kind
use Rattle.tmpl_lex.specs.Piece.{Token}
use Rattle.tmpl_grammar.specs.Tree as tree
use Rattle.tmpl_grammar.specs.Tree.{Operand, Operands, Pipeline}
use Rattle.tmpl_grammar.specs.Operand.{IsOperand}
use Rattle.tmpl_grammar.specs.Pipeline.{IsBlank, SpellsPipeline}
use Rattle.tmpl_grammar.proofs.PartsLemmas.{pipeline-parts, ChainParts, ChainedParts, OperandParts, MoreParts, CommandParts, LaterParts, PipelineParts}
use Rattle.tmpl_grammar.specs.Depth.{depth_of_operand, depth_of_operands, depth_of_pipeline}
use Rattle.tmpl_grammar.specs.computed.Depth.{depth_after, deepest}

-- tokens that close what they open, and open this many within
abbrev Nests : ℕ → List Token → Type 0
Nests d ts = (n : ℕ) (us : List Token) → deepest n (ts ++ us) ≡ max (n + d) (deepest n us)

least : (n : ℕ) (ts : List Token) → n ≤ deepest n ts
least n [] = omega arith
least n (t ∷ ts) = omega arith

-- a token after which too many are open
pub too-deep : (most n m : ℕ) (ts : List Token) (t : Token) (us : List Token) → ts ≡ t ∷ us → m ≡ depth_after t.kind n → most < m
    → nat_le (deepest n ts) most ≡ false
too-deep most n m ts t us is e h =
    grind (arith, nat_tests, least m us)

none-nests : Nests 0 []
none-nests n us = let low = least n us in omega (arith, low)

-- a token that is no parenthesis, and tokens after it
one-nests : (t : Token) (ts : List Token) (d : ℕ) → ((n : ℕ) → depth_after t.kind n ≡ n) → Nests d ts → Nests d (t ∷ ts)
one-nests t ts d same h = grind arith

of-kind : (t : Token) (ts : List Token) (d : ℕ) (k : TokenKind) → t.kind ≡ k → ((n : ℕ) → depth_after k n ≡ n) → Nests d ts → Nests d (t ∷ ts)
of-kind t ts d k is same = one-nests t ts d (λ n. ap (λ k. depth_after k n) is ∙ same n)

-- one list after another
both-nest : (ts us : List Token) (d e : ℕ) → Nests d ts → Nests e us → Nests (max d e) (ts ++ us)
both-nest ts us d e h k n vs = grind (arith, append_assoc ts us vs, h n (us ++ vs), k n vs)

blank-nests : (ws ts : List Token) (d : ℕ) → IsBlank ws → Nests d ts → Nests d (ws ++ ts)
blank-nests [] ts d b h = h
blank-nests (w ∷ ws) ts d b h = of-kind w (ws ++ ts) d kind.Space b.0 (λ n. refl) (blank-nests ws ts d b.1 h)

chain-nests : (names : List (List ℕ)) (ts : List Token) → ChainParts names ts → Nests 0 ts
chain-nests [] ts c = rw c none-nests
chain-nests (n ∷ names) ts (t, us, is, field, begins, name, rest) =
    rw is (of-kind t us 0 kind.Field field (λ n. refl) (chain-nests names us rest))

operand-apart : (t : Token) (o : Operand) → IsOperand t o → (n : ℕ) → depth_after t.kind n ≡ n
operand-apart t o is n = grind arith

chained-nests : (o : Operand) (names : List (List ℕ)) (ts : List Token) → ChainedParts o names ts → Nests 0 ts
chained-nests o names ts (t, us, is, at, chain) = rw is (one-nests t us 0 (operand-apart t o at) (chain-nests names us chain))

-- parentheses around tokens, and a chain after them
group-nests : (l r : Token) (ts us : List Token) (d : ℕ) → l.kind ≡ kind.LeftParenthesis → r.kind ≡ kind.RightParenthesis → Nests d ts → Nests 0 us
    → Nests (1 + d) (l ∷ ts ++ r ∷ us)
group-nests l r ts us d left right h k n vs =
    let whole = ap (deepest (suc n)) (append_assoc ts (r ∷ us) vs) in
    let at_left = ap (λ k. deepest (depth_after k n) ((ts ++ r ∷ us) ++ vs)) left in
    let at_right = ap (λ k. deepest (depth_after k (suc n)) (us ++ vs)) right ∙ ap (λ m. deepest m (us ++ vs)) (let e : suc n - 1 ≡ n = omega arith in e) in
    omega (arith, whole, at_left, at_right, h (suc n) (r ∷ (us ++ vs)), k n vs, least n vs)

mutual
  operand-nests : (o : Operand) (ts : List Token) → OperandParts o ts → Nests (depth_of_operand o) ts
  operand-nests (tree.fields (n ∷ ns)) ts s = chained-nests (tree.fields (n ∷ [])) ns ts s
  operand-nests (tree.variable name names) ts s = chained-nests (tree.variable name []) names ts s
  operand-nests (tree.group commands names) ts (l, inner, r, us, is, left, right, p, chain) =
      rw is (group-nests l r inner us (depth_of_pipeline commands) left right (pipeline-nests commands inner p) (chain-nests names us chain))
  operand-nests o ts s = chained-nests o [] ts s

  more-nests : (os : Operands) (ts : List Token) → MoreParts os ts → Nests (depth_of_operands os) ts
  more-nests tree.no_operand ts s = subst (Nests 0) (append-nil ts) (blank-nests ts [] 0 s none-nests)
  more-nests (tree.operand o os) ts (w, ws, a, b, is, blank, spells, rest) =
      rw is (blank-nests (w ∷ ws) (a ++ b) _ blank (both-nest a b _ _ (operand-nests o a spells) (more-nests os b rest)))

  command-nests : (os : Operands) (ts : List Token) → CommandParts os ts → Nests (depth_of_operands os) ts
  command-nests tree.no_operand ts s = absurd s
  command-nests (tree.operand o os) ts (ws, a, b, is, blank, spells, rest) =
      rw is (blank-nests ws (a ++ b) _ blank (both-nest a b _ _ (operand-nests o a spells) (more-nests os b rest)))

  later-nests : (cs : Pipeline) (ts : List Token) → LaterParts cs ts → Nests (depth_of_pipeline cs) ts
  later-nests tree.no_command ts s = rw s none-nests
  later-nests (tree.command os cs) ts (bar, a, b, is, bars, may, spells, rest) =
      rw is (of-kind bar (a ++ b) _ kind.Pipe bars (λ n. refl) (both-nest a b _ _ (command-nests os a spells) (later-nests cs b rest)))

  pipeline-nests : (cs : Pipeline) (ts : List Token) → PipelineParts cs ts → Nests (depth_of_pipeline cs) ts
  pipeline-nests tree.no_command ts s = absurd s
  pipeline-nests (tree.command os cs) ts (a, b, is, spells, rest) =
      rw is (both-nest a b _ _ (command-nests os a spells) (later-nests cs b rest))

pub pipeline-depth : (cs : Pipeline) (ts : List Token) → SpellsPipeline cs ts → depth_of_pipeline cs ≡ deepest 0 ts
pipeline-depth cs ts s = let nests = pipeline-nests cs ts (pipeline-parts cs ts s) 0 [] in grind (arith, append-nil ts, nests)
