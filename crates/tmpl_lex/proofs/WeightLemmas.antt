-- For the bound of what a file needs (tmpl_syntax): at least two bytes an action, and one a token.
use Rattle.std.proofs.Common.{arith, ◌≡◌, ◌≤◌, ℕ, ◌+◌, Bool, List, [], ◌∷◌, ◌++◌, ap, length, append-nil, length-append}
use Rattle.tmpl_lex.specs.Cut.{Closed, Cuts, last, closed, unclosed}
use Rattle.tmpl_lex.specs.Delimiter.{Opens}
use Rattle.tmpl_lex.specs.Piece.{Token, Piece, text, action, unreadable}
use Rattle.tmpl_lex.specs.Text.{newlines, text_piece, Texts, trimmed}
use Rattle.tmpl_lex.specs.Token.{IsToken, bytes_of, Spells}
use Rattle.tmpl_lex.specs.declared.piece.TokenKind.{TokenKind}

-- two and one for each token
abbrev pub weight_of : Piece → ℕ
weight_of (text line bytes) = 0
weight_of (action line ts) = 2 + length ts
weight_of (unreadable line) = 0

abbrev pub weight : List Piece → ℕ
weight [] = 0
weight (p ∷ ps) = weight_of p + weight ps

text-weight : (line : ℕ) (bytes : List ℕ) (ps : List Piece) → weight (text_piece line bytes ++ ps) ≡ weight ps
text-weight line bytes ps = grind arith

texts-weight : {right left : Bool} {line : ℕ} {bytes : List ℕ} {texts : List Piece} → Texts right left line bytes texts → (ps : List Piece)
    → weight (texts ++ ps) ≡ weight ps
texts-weight (trimmed {line = line} {front = front} kept end f e) ps = text-weight (line + newlines front) kept ps

weight-append : (ps qs : List Piece) → weight (ps ++ qs) ≡ weight ps + weight qs
weight-append [] qs = omega arith
weight-append (p ∷ ps) qs = omega (arith, weight-append ps qs)

token-some : {k : TokenKind} {bytes rest : List ℕ} → IsToken k bytes rest → 1 ≤ length bytes
token-some h = grind arith

tokens-within : (ts : List Token) (rest : List ℕ) → Spells ts rest → length ts ≤ length (bytes_of ts)
tokens-within [] rest s = omega arith
tokens-within (t ∷ ts) rest s = omega (arith, token-some s.0, tokens-within ts rest s.1, length-append t.bytes (bytes_of ts))

opening-within : {left : Bool} {opening rest : List ℕ} → Opens left opening rest → 2 ≤ length opening
opening-within h = grind arith

closed-within : {line : ℕ} {body : List ℕ} {trims : Bool} {rest : List ℕ} {here : List Piece} → Closed line body trims rest here → weight here ≤ 2 + length body
closed-within h = grind (arith, length-append, tokens-within)

pub weight-within : {right : Bool} {line : ℕ} {bs : List ℕ} {ps : List Piece} → Cuts right line bs ps → weight ps ≤ length bs
weight-within (last {texts = texts} absent t) = omega (arith, texts-weight t [], ap weight (append-nil texts))
weight-within (closed {before = before} {opening = opening} {body = body} {rest = rest} {texts = texts} {here = here} {ps = ps} leads c cuts) =
    omega (
      arith,
      weight-within cuts,
      weight-append (texts ++ here) ps,
      texts-weight leads.texts here,
      closed-within c,
      length-append (before ++ opening ++ body) rest,
      length-append (before ++ opening) body,
      length-append before opening,
      opening-within leads.opens,
    )
weight-within (unclosed {line = line} {before = before} leads none) = omega (arith, texts-weight leads.texts (unreadable (line + newlines before) ∷ []))
