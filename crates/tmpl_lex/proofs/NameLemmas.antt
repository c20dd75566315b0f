-- For the printer of tmpl_grammar: the bytes of a field or variable after the first are a name.
use Rattle.std.proofs.Common.{◌≡◌, ℕ, true, List, drop}
use Rattle.std.specs.List.{list_all}
use Rattle.tmpl_lex.specs.declared.piece.TokenKind.{TokenKind}
use Rattle.tmpl_lex.specs.declared.piece.TokenKind.TheVariants as kind
use Rattle.tmpl_lex.specs.Bytes.{is_name_byte}
use Rattle.tmpl_lex.specs.Token.{IsToken, field, variable}

-- the bytes are a name
abbrev pub IsNamed : List ℕ → Type 0
IsNamed name = list_all is_name_byte name ≡ true

-- the bytes after the first, by the kind of the token
abbrev pub OfKind : TokenKind → List ℕ → Type 0
OfKind kind.Field bs = IsNamed bs
OfKind kind.Variable bs = IsNamed bs
OfKind k bs = Unit {0}

pub token-OfKind : {k : TokenKind} {bs rest : List ℕ} → IsToken k bs rest → OfKind k (drop 1 bs)
token-OfKind (field run) = run.passes
token-OfKind (variable run) = run.passes
token-OfKind h = tt
