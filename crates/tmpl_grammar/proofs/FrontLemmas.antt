-- For `printed_tokens`: the tokens that are printed stand at the front of what is printed.
use Rattle.std.proofs.Common.{arith, ◌≡◌, ◌∙◌, ℕ, true, false, nat_eq, List, [], ◌∷◌, ◌++◌, refl, sym, ap, subst, append_assoc, codes}
use Rattle.std.specs.Char.{is_ascii_digit}
use Rattle.std.specs.List.{list_all}
use Rattle.std.proofs.lemmas.List.Concat.{flat_map-append}
use Rattle.std.proofs.lemmas.Bool.Decides.{nat_tests}
use Rattle.tmpl_lex.specs.declared.piece.TokenKind.TheVariants as kind
use Rattle.tmpl_lex.specs.Bytes.{is_space, is_name_byte, is_number_byte, BeginsNone, Stops}
use Rattle.tmpl_lex.specs.Delimiter.{IsLeftMarker}
use Rattle.tmpl_lex.specs.Piece.{Token}
use Rattle.tmpl_lex.specs.Token as row
use Rattle.tmpl_lex.specs.Token.{IsToken, at_byte}
use Rattle.tmpl_grammar.specs.Print.{bytes_of, Spells, token, space}

-- the token stands before these bytes
abbrev pub IsFront : Token → List ℕ → Type 0
IsFront t rest = IsToken t.kind t.bytes rest

-- what ends a number ends a name
pub stops-name : (rest : List ℕ) → Stops is_number_byte rest → Stops is_name_byte rest
stops-name rest stop = grind (arith, nat_tests)

-- ---- words, fields and variables

pub word-front : (b : ℕ) (bs rest : List ℕ) → is_ascii_digit b ≡ false → list_all is_name_byte (b ∷ bs) ≡ true → Stops is_name_byte rest
    → IsFront (token kind.Word (b ∷ bs)) rest
word-front b bs rest d all stop = row.word d (record { passes = all; longest = stop })

pub field-front : (b : ℕ) (bs rest : List ℕ) → list_all is_name_byte (b ∷ bs) ≡ true → Stops is_name_byte rest → IsFront (token kind.Field (46 ∷ b ∷ bs)) rest
field-front b bs rest all stop = row.field (record { passes = all; longest = stop })

pub variable-front : (name rest : List ℕ) → list_all is_name_byte name ≡ true → Stops is_name_byte rest → IsFront (token kind.Variable (36 ∷ name)) rest
variable-front name rest all stop = row.variable (record { passes = all; longest = stop })

-- ---- a space

-- bytes that may stand after a `{{`, a space or a bar: they begin no white space and no trim marker
pub data Solid : List ℕ → Type 0 where
  solid : {b : ℕ} {bs : List ℕ} → is_space b ≡ false → nat_eq b 45 ≡ false → Solid (b ∷ bs)
  minus : {d : ℕ} {bs : List ℕ} → is_ascii_digit d ≡ true → Solid (45 ∷ d ∷ bs)

solid-stops : {bs : List ℕ} → Solid bs → Stops is_space bs
solid-stops s = grind (arith, nat_tests)

solid-undashed : {bs : List ℕ} → Solid bs → BeginsNone (λ xs. xs ≡ codes "-}}") bs
solid-undashed s = grind (arith, nat_tests)

pub solid-unmarked : {bs : List ℕ} → Solid bs → BeginsNone IsLeftMarker bs
solid-unmarked s = grind (arith, nat_tests)

pub space-front : (rest : List ℕ) → Solid rest → IsFront space rest
space-front rest s = row.space refl (at_byte (solid-stops s) (solid-undashed s))

-- ---- one list after another

pub bytes-append : (ts us : List Token) (rest : List ℕ) → bytes_of (ts ++ us) ++ rest ≡ bytes_of ts ++ (bytes_of us ++ rest)
bytes-append ts us rest = ap (λ bs. bs ++ rest) (flat_map-append (λ t. t.bytes) ts us) ∙ append_assoc (bytes_of ts) (bytes_of us) rest

pub spells-append : (ts us : List Token) (rest : List ℕ) → Spells ts (bytes_of us ++ rest) → Spells us rest → Spells (ts ++ us) rest
spells-append [] us rest h k = k
spells-append (t ∷ ts) us rest h k = (subst (IsFront t) (sym (bytes-append ts us rest)) h.0, spells-append ts us rest h.1 k)
