-- For `printable`: the pieces of a file are texts without `{{`, and tokens whose bytes are bytes and whose names are
-- names.
use Rattle.std.proofs.Common.{arith, ℕ, Bool, List, [], ◌∷◌, ◌++◌, codes}
use Rattle.tmpl_values.specs.Bytes.{AreBytes}
use Rattle.tmpl_lex.specs.Bytes.{Absent}
use Rattle.tmpl_lex.specs.Cut.{Closed, a_comment, an_action, TextBefore, Cuts, last, closed, unclosed}
use Rattle.tmpl_lex.specs.Piece.{Token, Piece, text, action, unreadable}
use Rattle.tmpl_lex.specs.Text.{text_piece, Texts, trimmed}
use Rattle.tmpl_lex.specs.Token.{bytes_of, Spells}
use Rattle.tmpl_lex.proofs.NameLemmas.{token-OfKind}
use Rattle.tmpl_lex.proofs.PartLemmas.{absent-part}
use Rattle.tmpl_syntax.specs.Print.Join.{IsText}
use Rattle.tmpl_grammar.proofs.PrintableTokenLemmas.{AreRead, bytes-front}

abbrev pub OfPiece : Piece → Type 0
OfPiece (text line bytes) = IsText bytes
OfPiece (action line ts) = AreRead ts
OfPiece (unreadable line) = Unit {0}

abbrev pub OfPieces : List Piece → Type 0
OfPieces [] = Unit {0}
OfPieces (p ∷ ps) = OfPiece p × OfPieces ps

of-append : (ps qs : List Piece) → OfPieces ps → OfPieces qs → OfPieces (ps ++ qs)
of-append [] qs h k = k
of-append (p ∷ ps) qs h k = (h.0, of-append ps qs h.1 k)

spells-read : (ts : List Token) (rest : List ℕ) → Spells ts rest → AreBytes (bytes_of ts) → AreRead ts
spells-read [] rest s h = tt
spells-read (t ∷ ts) rest s h =
    let b = bytes-front t.bytes (bytes_of ts) h in
    (record { names = token-OfKind s.0; bytes = b.0 }, spells-read ts rest s.1 b.1)

piece-of : (line : ℕ) (t : List ℕ) → Absent (codes "{{") t → OfPieces (text_piece line t)
piece-of line [] e = tt
piece-of line (b ∷ t) e = (record { some = omega arith; clear = e }, tt)

texts-of : {right left : Bool} {line : ℕ} {bs : List ℕ} {ps : List Piece} → Texts right left line bs ps → Absent (codes "{{") bs → OfPieces ps
texts-of (trimmed {front = front} kept end f e) h = piece-of _ kept (absent-part (codes "{{") front kept end h)

leads-of : {right : Bool} {line : ℕ} {before opening rest : List ℕ} {ps : List Piece} → TextBefore right line before opening rest ps → OfPieces ps
leads-of {before = before} h = texts-of h.texts (absent-part (codes "{{") [] before (codes "{") h.first)

closed-of : {line : ℕ} {body : List ℕ} {trims : Bool} {rest : List ℕ} {ps : List Piece} → Closed line body trims rest ps → AreBytes body → OfPieces ps
closed-of (a_comment inside a c) h = tt
closed-of (an_action {ts = ts} {closing = closing} {rest = rest} s c) h = (spells-read ts (closing ++ rest) s (bytes-front (bytes_of ts) closing h).0, tt)

pub cuts-of : {right : Bool} {line : ℕ} {bs : List ℕ} {ps : List Piece} → Cuts right line bs ps → AreBytes bs → OfPieces ps
cuts-of (last none t) h = texts-of t none
cuts-of (closed {before = before} {opening = opening} {body = body} {rest = rest} {texts = texts} {here = here} {ps = ps} leads c cuts) h =
    let b = bytes-front (before ++ opening ++ body) rest h in
    of-append (texts ++ here) ps (of-append texts here (leads-of leads) (closed-of c (bytes-front (before ++ opening) body b.0).1)) (cuts-of cuts b.1)
cuts-of (unclosed {line = line} {texts = texts} leads none) h = of-append texts (unreadable _ ∷ []) (leads-of leads) (tt, tt)
