-- For the reader of the table of tokens: what its rows say of some bytes.
use Prim.Native.String.{String}
use Rattle.std.proofs.Common.{◌≡◌, ℕ, zero, suc, List, [], ◌∷◌, ◌++◌, refl, codes, arith, ap, length, filter, inr}
use Rattle.std.proofs.lemmas.Option.{same_Some}
use Rattle.tmpl_lex.specs.declared.piece.TokenKind.{TokenKind}
use Rattle.tmpl_lex.specs.declared.piece.TokenKind.TheVariants as kind
use Rattle.tmpl_lex.specs.Bytes.{is_space}
use Rattle.tmpl_lex.specs.Delimiter.{closes_marked}
use Rattle.tmpl_lex.specs.Piece.{Token}
use Rattle.tmpl_lex.specs.Token.{IsToken, space, number, field, dot, string, at_marker, no_byte, a_byte, an_escape}
use Rattle.tmpl_lex.proofs.OneTokenLemmas.{found}

abbrev token : TokenKind → String → Token
token k bytes = record { kind = k; bytes = codes bytes }

abbrev Row : TokenKind → String → String → Type 0
Row k bytes rest = IsToken k (codes bytes) (codes rest)

-- white space ends before a right trim marker, of which its last byte is a part
before_a_marker : Row kind.Space " " " -}}"
before_a_marker = space refl (at_marker [] (closes_marked refl))

-- and no white space is left where such a marker stands
in_a_marker : Row kind.Space " " "-}}" → ⊥
in_a_marker h = let f = (found h).no_end in cc

-- a number takes each name byte and dot after its first digit
a_number : Row kind.Number "-1.x_" "-2"
a_number = number {sign = codes "-"} 49 (inr (inr refl)) refl (record { passes = refl; longest = refl })

-- and is no shorter
half_a_number : Row kind.Number "1" "2" → ⊥
half_a_number h =
    let n : 2 ≡ 1 = ap (λ (t : Token). length t.bytes) (same_Some (token kind.Number "12") (token kind.Number "1") (found h).front) in
    omega (arith, n)

-- a field needs a name, and a dot has none after it
a_field : Row kind.Field ".a" ".b"
a_field = field (record { passes = refl; longest = refl })

a_dot : Row kind.Dot "." "}}"
a_dot = dot refl

-- `}}` and an escaped quote may stand in a string
a_string : Row kind.String "\"}}\\\"\"" "}}"
a_string = string (a_byte refl refl refl (a_byte refl refl refl (an_escape refl no_byte)))

-- a minus alone is no token
a_minus : (k : TokenKind) → IsToken k (codes "-") (codes "}}") → ⊥
a_minus k h = let f = (found h).front in cc

-- of all bytes just four are white space
abbrev below : ℕ → List ℕ
below zero = []
below (suc n) = below n ++ n ∷ []

white_space : filter is_space (below 256) ≡ 9 ∷ 10 ∷ 13 ∷ 32 ∷ []
white_space = refl
