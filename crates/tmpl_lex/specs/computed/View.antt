-- What Rust values of the reading of an action stand for.
use Rattle.std.specs.Prelude.{ℕ, List, map, take, Option, Some, None}
use Rattle.std.specs.Borrow.{Bor}
use Rattle.tmpl_lex.specs.declared.action.Opened as declared_opened
use Rattle.tmpl_lex.specs.declared.action.Opened.TheVariants as variant
use Rattle.tmpl_lex.specs.declared.part.Rest as declared_rest
use Rattle.tmpl_lex.specs.declared.piece.Token as declared_token
use Rattle.tmpl_lex.specs.declared.piece.TokenKind.{TokenKind}
use Rattle.tmpl_lex.specs.declared.trim.End as declared_end
use Rattle.tmpl_lex.specs.View.{token_of}
use Rattle.tmpl_lex.specs.computed.Action.{Inside, Opened, comment, tokens, neither}
use Rattle.tmpl_lex.specs.computed.Part.{Rest}
use Rattle.tmpl_lex.specs.computed.Token.{Begun}
use Rattle.tmpl_lex.specs.computed.Trim.{End}

-- this many of the first bytes
abbrev pub taken_of : List ℕ → Option ℕ → Option (List ℕ)
taken_of bs None = None
taken_of bs (Some n) = Some (take n bs)

-- the kind of a token, and its bytes after the first, which are this many of the first of these
abbrev pub begun_of : List ℕ → Option (TokenKind × ℕ) → Option Begun
begun_of bs None = None
begun_of bs (Some p) = Some (p.0, take p.1 bs)

-- the bytes on both sides of a place
abbrev pub pair_of : Option (Bor (List ℕ) × Bor (List ℕ)) → Option (List ℕ × List ℕ)
pair_of None = None
pair_of (Some p) = Some (p.0.now, p.1.now)

-- where an action or comment ends
abbrev pub end_of : declared_end.End → End
end_of e = record { trims = e.trims; rest = e.rest.now }

-- the tokens that were read, and the end that was found
abbrev pub inside_of : List declared_token.Token → Option declared_end.End → Option Inside
inside_of ts None = None
inside_of ts (Some e) = Some (map token_of ts, end_of e)

-- what was found after a `{{`, with the tokens that were read
abbrev pub opened_of : List declared_token.Token → declared_opened.Opened → Opened
opened_of ts (variant.Comment e) = comment (end_of e)
opened_of ts (variant.Action e) = tokens (map token_of ts) (end_of e)
opened_of ts variant.Neither = neither

-- what is left of a file
abbrev pub rest_of : declared_rest.Rest → Rest
rest_of r = record { trims = r.trims; line = r.line; bytes = r.bytes.now }
