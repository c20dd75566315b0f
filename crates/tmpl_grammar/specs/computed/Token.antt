-- The white space of an action, and what stands after it.
use Rattle.std.specs.Prelude.{Bool, true, false, List, [], ◌∷◌, drop, Option, Some, None}
use Rattle.std.specs.List.{list_all, prefix_len}
use Rattle.tmpl_lex.specs.declared.piece.TokenKind.{TokenKind}
use Rattle.tmpl_lex.specs.declared.piece.TokenKind.TheVariants as kind
use Rattle.tmpl_lex.specs.Piece.{Token}

abbrev pub is_space_kind : TokenKind → Bool
is_space_kind kind.Space = true
is_space_kind k = false

abbrev pub is_white : Token → Bool
is_white t = is_space_kind t.kind

-- nothing but white space
abbrev pub is_blank : List Token → Bool
is_blank ts = list_all is_white ts

-- without the white space at the front
abbrev pub without_front : List Token → List Token
without_front ts = drop (prefix_len is_white ts) ts

abbrev pub first : List Token → Option (Token × List Token)
first [] = None
first (t ∷ ts) = Some (t, ts)

-- the first token that is no white space, and those after it
abbrev pub next : List Token → Option (Token × List Token)
next ts = first (without_front ts)
