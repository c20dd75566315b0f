-- The grammar of a pipeline ("Arguments" and "Pipelines" in the documentation of Go's text/template): which tokens
-- spell which tree. White space may stand between any two tokens, but not inside a chain.
use Rattle.std.specs.Prelude.{◌≡◌, ℕ, Bool, true, false, List, [], ◌∷◌, ◌++◌}
use Rattle.tmpl_lex.specs.declared.piece.TokenKind.TheVariants as kind
use Rattle.tmpl_lex.specs.Piece.{Token}
use Rattle.tmpl_grammar.specs.Token.{begins_name, name_in}
use Rattle.tmpl_grammar.specs.Tree as tree
use Rattle.tmpl_grammar.specs.Tree.{Operand, Operands, Pipeline}
use Rattle.tmpl_grammar.specs.Operand.{IsOperand}

-- perhaps white space
abbrev pub IsBlank : List Token → Type 0
IsBlank [] = Unit {0}
IsBlank (t ∷ ts) = (t.kind ≡ kind.Space) × IsBlank ts

-- fields of these names, with nothing between them
pub data IsChain : List (List ℕ) → List Token → Type 0 where
  no_field : IsChain [] []
  field : {t : Token} {names : List (List ℕ)} {ts : List Token} → t.kind ≡ kind.Field
      → begins_name (name_in t) ≡ true → IsChain names ts → IsChain (name_in t ∷ names) (t ∷ ts)

-- a later command begins with no constant, `nil` or dot
abbrev pub may_be_later : Operands → Bool
may_be_later (tree.operand (tree.fields names) os) = true
may_be_later (tree.operand (tree.variable name names) os) = true
may_be_later (tree.operand (tree.function f) os) = true
may_be_later (tree.operand (tree.group commands names) os) = true
may_be_later os = false

mutual
  -- an operand: one token; a field or a variable and a chain; or a pipeline in parentheses and a chain
  pub data SpellsOperand : Operand → List Token → Type 0 where
    single : {t : Token} {o : Operand} → IsOperand t o → SpellsOperand o (t ∷ [])
    of_fields : {t : Token} {n : List ℕ} {names : List (List ℕ)} {ts : List Token}
        → IsOperand t (tree.fields (n ∷ [])) → IsChain names ts → SpellsOperand (tree.fields (n ∷ names)) (t ∷ ts)
    of_variable : {t : Token} {name : List ℕ} {names : List (List ℕ)} {ts : List Token}
        → IsOperand t (tree.variable name []) → IsChain names ts → SpellsOperand (tree.variable name names) (t ∷ ts)
    of_group : {l : Token} (r : Token) {commands : Pipeline} {names : List (List ℕ)} {inner ts : List Token}
        → l.kind ≡ kind.LeftParenthesis → SpellsPipeline commands inner → r.kind ≡ kind.RightParenthesis
        → IsChain names ts → SpellsOperand (tree.group commands names) (l ∷ inner ++ r ∷ ts)

  -- operands, each after white space, and perhaps white space
  pub data SpellsMore : Operands → List Token → Type 0 where
    no_operand : {ws : List Token} → IsBlank ws → SpellsMore tree.no_operand ws
    next_operand : {w : Token} (ws : List Token) {ts us : List Token} {o : Operand} {os : Operands} → IsBlank (w ∷ ws)
        → SpellsOperand o ts → SpellsMore os us → SpellsMore (tree.operand o os) (w ∷ ws ++ (ts ++ us))

  -- one or more operands
  pub data SpellsCommand : Operands → List Token → Type 0 where
    operands : (ws : List Token) {ts us : List Token} {o : Operand} {os : Operands} → IsBlank ws → SpellsOperand o ts
        → SpellsMore os us → SpellsCommand (tree.operand o os) (ws ++ (ts ++ us))

  -- commands, each after a bar
  pub data SpellsLater : Pipeline → List Token → Type 0 where
    no_command : SpellsLater tree.no_command []
    next_command : {bar : Token} {ts us : List Token} {os : Operands} {cs : Pipeline} → bar.kind ≡ kind.Pipe
        → may_be_later os ≡ true → SpellsCommand os ts → SpellsLater cs us
        → SpellsLater (tree.command os cs) (bar ∷ ts ++ us)

  -- one or more commands
  pub data SpellsPipeline : Pipeline → List Token → Type 0 where
    commands : {ts us : List Token} {os : Operands} {cs : Pipeline} → SpellsCommand os ts → SpellsLater cs us
        → SpellsPipeline (tree.command os cs) (ts ++ us)
