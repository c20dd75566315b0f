-- For `one_action`: tokens that no pipeline has, so that no header begins with a keyword.
use Rattle.std.proofs.Common.{arith, ◌≡◌, ◌∙◌, List, [], ◌∷◌, ◌++◌, Option, None, refl}
use Rattle.tmpl_lex.specs.declared.piece.TokenKind.{TokenKind}
use Rattle.tmpl_lex.specs.declared.piece.TokenKind.TheVariants as kind
use Rattle.tmpl_lex.specs.Piece.{Token}
use Rattle.tmpl_grammar.specs.computed.Operand.{operand_at, operand_by, word_operand, func_named}
use Rattle.tmpl_grammar.specs.computed.Parser.{Parser, step, step_by, steps, place_operand, finished}
use Rattle.tmpl_grammar.specs.Tree.{Operand, Pipeline}
use Rattle.tmpl_grammar.specs.Pipeline.{IsBlank, SpellsPipeline}
use Rattle.tmpl_grammar.specs.Keyword.{IsWord}
use Rattle.tmpl_grammar.specs.computed.Keyword.{spelling}
use Rattle.tmpl_grammar.specs.computed.Reading.{pipeline_in}
use Rattle.tmpl_grammar.specs.declared.keyword.Keyword.{Keyword}
use Rattle.tmpl_grammar.proofs.SpelledLemmas.{steps-append, step-at, blank-steps}
use Rattle.tmpl_grammar.proofs.PipelineLemmas.{reads-spelled}
use Rattle.tmpl_grammar.proofs.OptionLemmas.{no-value}

-- at no place of a pipeline may this token stand
abbrev pub IsStray : Token → Type 0
IsStray t = (h : Parser) → step t h ≡ None

none-place_operand : (last : Option Operand) (h : Parser) → place_operand last None h ≡ None
none-place_operand last h = grind arith

-- a sign is no operand
pub sign-stray : (k : TokenKind) → ((t : Token) (h : Parser) → step_by k t h ≡ place_operand h.last (operand_at t) h) → ((t : Token) → operand_by k t ≡ None)
    → (t : Token) → t.kind ≡ k → IsStray t
unfolding operand_at
sign-stray k steps none t e h = step-at k t h e ∙ steps t h ∙ simp (e, none) (none-place_operand h.last h)

-- no keyword is an operand
keyword-none : (k : Keyword) → word_operand (spelling k) ≡ None
unfolding word_operand func_named
keyword-none k = grind arith

pub word-stray : (k : Keyword) (t : Token) → IsWord (spelling k) t → IsStray t
unfolding operand_at
word-stray k t w h = step-at kind.Word t h w.0 ∙ simp (w.0, w.1, keyword-none k) (none-place_operand h.last h)

steps-none : (ts : List Token) → steps None ts ≡ None
steps-none [] = refl
steps-none (t ∷ ts) = steps-none ts

-- tokens that spell a pipeline have none of these among them, and are not all white space
module _ {A : Type 0} (cs : Pipeline) where
  pub none-stray : (ts us : List Token) (t : Token) → IsStray t → SpellsPipeline cs (ts ++ t ∷ us) → A
  unfolding pipeline_in
  none-stray ts us t stray s = grind (arith, no-value, reads-spelled, steps-append, steps-none)

  pub none-blank : (ts : List Token) → IsBlank ts → SpellsPipeline cs ts → A
  unfolding pipeline_in finished
  none-blank ts b s = grind (arith, blank-steps, no-value, reads-spelled)
