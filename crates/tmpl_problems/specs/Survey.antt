-- What is suspicious in a file that may be accepted all the same, and the templates that it defines and calls: our own
-- rules.
use Rattle.std.specs.Prelude.{◌≡◌, ℕ, ◌+◌, ◌==◌, nat_le, Bool, true, false, not, ◌&&◌, ◌||◌, List, [], ◌∷◌, ◌++◌, codes}
use Rattle.std.specs.Prelude.{Option, None, option_map, if◌then◌else◌, length, map, filter, string_bytes, All}
use Rattle.std.specs.List.{AllZip, enumerate_from, filter_map, flat_map, list_any}
use Rattle.std.specs.Str.{bytes_eq}
use Rattle.tmpl_lex.specs.Begin.{BeginsAt}
use Rattle.tmpl_lex.specs.Cut.{Cuts}
use Rattle.tmpl_lex.specs.Piece.{Token, Piece, text, action, unreadable}
use Rattle.tmpl_lex.specs.Place.{StandsAt}
use Rattle.tmpl_syntax.specs.Column.{IsPlace}
use Rattle.tmpl_syntax.specs.declared.column.Place.{Place}
use Rattle.tmpl_problems.specs.Sign.{first_sign}
use Rattle.tmpl_problems.specs.Tokens.{declared_names, name_after, unused_words, used_names}
use Rattle.tmpl_problems.specs.declared.survey.Named.{Named}
use Rattle.tmpl_problems.specs.declared.survey.Warning.{Warning}

-- ---- what is found in a file

-- the tokens of a piece, if it is an action that can be read
abbrev pub tokens_in : Piece → List Token
tokens_in (action line ts) = ts
tokens_in other = []

abbrev pub is_unreadable : Piece → Bool
is_unreadable (unreadable line) = true
is_unreadable other = false

-- the pieces before one that can't be read
abbrev pub readable : List Piece → List Piece
readable [] = []
readable (p ∷ ps) = if is_unreadable p then [] else p ∷ readable ps

-- what is found in a file is made, in order, of these things in its pieces; where one of them can't be read, of those
-- before it at first, and of what is found beyond no more is said than that it is at places of the file
pub record Tells {A B : Type 0} (things : List Piece → List A) (Makes : A → B → Type 0) (place : B → Place)
    (file : List ℕ) (found : List B) : Type 0 where
  pub pieces : List Piece
  pub cut : Cuts false 1 file pieces
  pub front : List B
  pub beyond : List B
  pub parts : found ≡ front ++ beyond
  pub told : AllZip Makes (things (readable pieces)) front
  pub placed : All (λ b. IsPlace file (place b)) beyond
  pub all : list_any is_unreadable pieces ≡ false → beyond ≡ []

-- ---- the templates of a file

abbrev pub definers : List (List ℕ)
definers = codes "define" ∷ codes "block" ∷ []

abbrev pub callers : List (List ℕ)
callers = codes "template" ∷ codes "block" ∷ []

-- the names that pieces give after one of these words, each with the number of its piece, where the first has this one
abbrev pub names_from : List (List ℕ) → ℕ → List Piece → List (ℕ × List ℕ)
names_from words first pieces =
    filter_map (λ p. option_map (λ name. (p.0, name)) (name_after words (tokens_in p.1))) (enumerate_from first pieces)

abbrev pub named_place : Named → Place
named_place n = record { start = n.start; line = n.line; column = n.column }

-- the name is reported where the action begins that gives it
pub record IsNamed (file : List ℕ) (given : ℕ × List ℕ) (n : Named) : Type 0 where
  pub name : n.name.now ≡ given.1
  pub begins : BeginsAt file given.0 n.start
  pub place : IsPlace file (named_place n)

-- the file defines and calls just these
abbrev pub Names : List (List ℕ) → List ℕ → List Named → Type 0
Names words file found = Tells (names_from words 0) (IsNamed file) named_place file found

-- ---- what is suspicious

-- the texts among pieces that have a sign, each with its first one
abbrev pub sign_of : Piece → Option (List ℕ × ℕ × List ℕ)
sign_of (text line bytes) = option_map (λ sign. (bytes, sign.0, sign.1)) (first_sign bytes)
sign_of other = None

abbrev pub suspicious : List Piece → List (List ℕ × ℕ × List ℕ)
suspicious pieces = filter_map sign_of pieces

abbrev pub warned_place : Warning → Place
warned_place w = record { start = w.start; line = w.line; column = w.column }

-- a sign after this many bytes of a text is reported by its message, where it stands in the file
pub record IsWarning (file : List ℕ) (sign : List ℕ × ℕ × List ℕ) (w : Warning) : Type 0 where
  pub begins : ℕ
  pub stands : StandsAt file begins sign.0
  pub start : w.start ≡ begins + sign.1
  pub words : string_bytes w.text ≡ sign.2
  pub place : IsPlace file (warned_place w)

-- ---- variables

-- a variable that an action declares: the number of its piece, its name, and whether it is the first of two, which has
-- to be there for the second to be
pub record Declared : Type 0 where
  pub piece : ℕ
  pub name : List ℕ
  pub is_first : Bool

-- the names that an action of this number declares, as variables
abbrev pub declared_in : ℕ → List (List ℕ) → List Declared
declared_in number names =
    map (λ x. record { piece = number; name = x.1; is_first = length names == 2 && x.0 == 0 }) (enumerate_from 0 names)

-- the variables that pieces declare, and the names that they use, each with the number of its piece
abbrev pub declared_from : ℕ → List Piece → List Declared
declared_from first pieces =
    flat_map (λ p. declared_in p.0 (declared_names (tokens_in p.1))) (enumerate_from first pieces)

abbrev pub used_from : ℕ → List Piece → List (ℕ × List ℕ)
used_from first pieces =
    flat_map (λ p. map (λ name. (p.0, name)) (used_names (tokens_in p.1))) (enumerate_from first pieces)

-- those whose names are not among these, and of equal names the first
abbrev pub firsts : List (List ℕ) → List Declared → List Declared
firsts known [] = []
firsts known (d ∷ ds) =
    if list_any (bytes_eq d.name) known then firsts (d.name ∷ known) ds else d ∷ firsts (d.name ∷ known) ds

-- nothing may be reported of it, or its name is used in its piece or in one after it
abbrev pub is_used : List (ℕ × List ℕ) → Declared → Bool
is_used uses d = d.is_first || list_any (λ u. nat_le d.piece u.0 && bytes_eq d.name u.1) uses

-- the variables that nothing uses, each where its name is first declared
abbrev pub unused : List Piece → List Declared
unused pieces = filter (λ d. not (is_used (used_from 0 pieces) d)) (firsts [] (declared_from 0 pieces))

-- the variable is reported as unused, where the action begins that declares it
pub record IsUnused (file : List ℕ) (d : Declared) (w : Warning) : Type 0 where
  pub words : string_bytes w.text ≡ unused_words d.name
  pub begins : BeginsAt file d.piece w.start
  pub place : IsPlace file (warned_place w)

-- the warnings of a file are those of its texts, in order, and then those of variables that nothing uses; where one of
-- its pieces can't be read, of those beyond it no more is said than that they are at places of the file
pub record Warns (file : List ℕ) (found : List Warning) : Type 0 where
  pub pieces : List Piece
  pub cut : Cuts false 1 file pieces
  pub front : List Warning
  pub beyond : List Warning
  pub parts : found ≡ front ++ beyond
  pub told : AllZip (IsWarning file) (suspicious (readable pieces)) front
  pub placed : All (λ w. IsPlace file (warned_place w)) beyond
  pub variables : list_any is_unreadable pieces ≡ false → AllZip (IsUnused file) (unused pieces) beyond
