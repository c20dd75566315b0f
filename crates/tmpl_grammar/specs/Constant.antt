pub mod Integer
pub mod Quoted
-- The constant that a token stands for ("Arguments" in the documentation of Go's text/template: "A boolean, string,
-- character, integer .. constant in Go syntax").
use Rattle.std.specs.Prelude.{ℕ, ℤ, ◌==◌, not, pos, List, [], ◌∷◌, ◌++◌, filter, flat_map, codes}
use Rattle.std.specs.Str.{byte}
use Rattle.tmpl_values.specs.Rune.{Rune, bytes_in}
use Rattle.tmpl_lex.specs.Piece.{Token}
use Rattle.tmpl_lex.specs.declared.piece.TokenKind.TheVariants as kind
use Rattle.tmpl_grammar.specs.Token.{token}
use Rattle.tmpl_grammar.specs.Tree.{Operand, number_constant, text_constant}
use Rattle.tmpl_grammar.specs.Constant.Integer.{IsInteger}
use Rattle.tmpl_grammar.specs.Constant.Quoted.{SpellsRunes, code_of}

-- a number; the text of a string, by its runes; that of a raw string, without carriage returns; a character, which is
-- one rune, by its code
pub data IsConstant : Token → Operand → Type 0 where
  number : {bs : List ℕ} {n : ℤ} → IsInteger bs n → IsConstant (token kind.Number bs) (number_constant n)
  string : {bs : List ℕ} {rs : List Rune} → SpellsRunes (byte "\"") bs rs
      → IsConstant (token kind.String (codes "\"" ++ bs ++ codes "\"")) (text_constant (flat_map bytes_in rs))
  raw_string : (bs : List ℕ) → IsConstant (token kind.RawString (codes "`" ++ bs ++ codes "`"))
      (text_constant (filter (λ b. not (b == byte "\r")) bs))
  character : {bs : List ℕ} {r : Rune} → SpellsRunes (byte "'") bs (r ∷ [])
      → IsConstant (token kind.Character (codes "'" ++ bs ++ codes "'")) (number_constant (pos (code_of r)))
