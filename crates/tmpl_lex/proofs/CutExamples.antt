-- What the definition of the cut says of some files of which no row of tests/rows speaks, computed.
use Prim.Native.String.{String}
use Rattle.std.proofs.Common.{◌≡◌, List, [], ◌∷◌, refl, codes, map}
use Rattle.tmpl_lex.specs.declared.piece.TokenKind.{TokenKind}
use Rattle.tmpl_lex.specs.declared.piece.TokenKind.TheVariants as kind
use Rattle.tmpl_lex.specs.Piece.{Token, Piece, text, action, unreadable}
use Rattle.tmpl_lex.specs.computed.Cut.{cut_of, cut_within}
use Rattle.tmpl_lex.specs.computed.Action.{opened, inside, comment_end}

abbrev token : TokenKind → String → Token
token k spelling = record { kind = k; bytes = codes spelling }

-- a file and its pieces
record Example : Type 0 where
  file : String
  pieces : List Piece

-- a text `a` after which nothing can be read
abbrev unreadable_after : String → Example
unreadable_after file = record { file = file; pieces = text 1 (codes "a") ∷ unreadable 1 ∷ [] }

abbrev examples : List Example
examples =
    -- a file of no bytes has no piece
    record { file = ""; pieces = [] }
    -- one brace opens nothing, and `}}` alone is text
    ∷ record { file = "{a}} }{"; pieces = text 1 (codes "{a}} }{") ∷ [] }
    -- names, variables and numbers are longest runs
    ∷ record {
      file = "{{$x:=f -1.5,$}}";
      pieces = action 1 (
          token kind.Variable "$x" ∷ token kind.Declare ":=" ∷ token kind.Word "f" ∷ token kind.Space " "
          ∷ token kind.Number "-1.5" ∷ token kind.Comma "," ∷ token kind.Variable "$" ∷ []) ∷ [];
    }
    -- `}}` may stand inside each kind of quotes, and an escaped quote does not end them
    ∷ record {
      file = "{{\"}}\\\"\"`}}`'}}'}}";
      pieces = action 1 (
          token kind.String "\"}}\\\"\"" ∷ token kind.RawString "`}}`" ∷ token kind.Character "'}}'" ∷ []) ∷ [];
    }
    -- dot and signs
    ∷ record {
      file = "{{(.)|=}}";
      pieces = action 1 (
          token kind.LeftParenthesis "(" ∷ token kind.Dot "." ∷ token kind.RightParenthesis ")"
          ∷ token kind.Pipe "|" ∷ token kind.Assign "=" ∷ []) ∷ [];
    }
    -- an action of white space, with a marker on neither side, on each alone, and on both
    ∷ record {
      file = "{{ }}{{- }}{{ -}}{{-  -}}";
      pieces =
          action 1 (token kind.Space " " ∷ []) ∷ action 1 [] ∷ action 1 [] ∷ action 1 [] ∷ [];
    }
    -- the first `{{` counts, also of three or four braces, and no token begins with a brace
    ∷ unreadable_after "a{{{{b}}"
    ∷ record { file = "{{{ }}"; pieces = unreadable 1 ∷ [] }
    -- the one byte of white space belongs to the left marker, so the second `-` begins no token
    ∷ unreadable_after "a {{- -}} b"
    -- a comment that is not closed directly after its first `*/`
    ∷ unreadable_after "a{{/*c*/ }}"
    -- white space before a right marker is a token
    ∷ record { file = "{{.  -}} b"; pieces = action 1 (token kind.Dot "." ∷ token kind.Space " " ∷ []) ∷ text 1 (codes "b") ∷ [] }
    -- a marker takes nothing after a comment
    ∷ record { file = "{{1 -}}{{/*c*/}} x"; pieces = action 1 (token kind.Number "1" ∷ []) ∷ text 1 (codes " x") ∷ [] }
    -- an action stands on the line of its `{{`, and a text on that of its first byte which is kept
    ∷ record {
      file = "a\n{{.\n-}}\n b{{.}}";
      pieces =
          text 1 (codes "a\n") ∷ action 2 (token kind.Dot "." ∷ []) ∷ text 4 (codes "b") ∷ action 4 (token kind.Dot "." ∷ []) ∷ [];
    }
    ∷ []

each-cut : map (λ e. cut_of (codes e.file)) examples ≡ map (λ e. e.pieces) examples
unfolding cut_of cut_within opened comment_end inside
each-cut = refl
