-- For the law `one_cut`: what is computed after a `{{` is what the relations say.
use Rattle.std.proofs.Common.{◌≡◌, ◌∙◌, ℕ, zero, suc, ◌-◌, Bool, true, false, List, [], ◌∷◌, ◌++◌, Option, IfSome, Some, None, refl, sym, ap}
use Rattle.std.proofs.Common.{length, drop, append_assoc, arith, ◌<◌}
use Rattle.std.proofs.Math.Seq.{drop-append_seam}
use Rattle.std.proofs.lemmas.Bool.{and_parts}
use Rattle.std.proofs.lemmas.Bool.Decides.{nat_tests}
use Rattle.tmpl_lex.specs.Bytes.{Absent}
use Rattle.tmpl_lex.specs.Cut.{Closed, a_comment, an_action}
use Rattle.tmpl_lex.specs.Delimiter.{Closes, closes, closes_marked}
use Rattle.tmpl_lex.specs.Laws.{IsFound, BeginsWith}
use Rattle.tmpl_lex.specs.Piece.{Token, Piece, action}
use Rattle.tmpl_lex.specs.Token.{bytes_of, Spells}
use Rattle.tmpl_lex.specs.computed.Action.{Inside, inside, inside_after, inside_from, with_token, Opened, comment, tokens, neither, opened, opened_by}
use Rattle.tmpl_lex.specs.computed.Action.{opens_comment, comment_closed, comment_end}
use Rattle.tmpl_lex.specs.computed.Bytes.{split_pair}
use Rattle.tmpl_lex.specs.computed.Part.{pieces_of, ends_at}
use Rattle.tmpl_lex.specs.computed.Token.{front_token}
use Rattle.tmpl_lex.specs.computed.Trim.{End, right_delimiter}
use Rattle.tmpl_lex.proofs.ActionLemmas.{drop-sub_one, inside-closed, inside-token, front_token-some}
use Rattle.tmpl_lex.proofs.PartLemmas.{absent-split, split-is}
use Rattle.tmpl_lex.proofs.OneTokenLemmas.{Ends, found-ends, closes-found, found, stands}

-- ---- tokens and an end

-- these tokens and then this end stand at the front
pub record Reads (bs : List ℕ) (i : Inside) : Type 0 where
  pub closing : List ℕ
  pub spells : Spells i.0 (closing ++ i.1.rest)
  pub closes : Closes i.1.trims closing
  pub is : bs ≡ bytes_of i.0 ++ closing ++ i.1.rest

-- a token before others
reads-token : (bs : List ℕ) (t : Token) (i : Inside) → BeginsWith bs t → Reads (drop (length t.bytes) bs) i → Reads bs (t ∷ i.0, i.1)
reads-token bs t i here more = grind (arith, nat_tests, append_assoc, drop-append_seam)

inside_after-reads : (n : ℕ) (bs : List ℕ) → IfSome (inside_after n bs) (Reads (drop n bs))
inside_after-reads n [] = tt
inside_after-reads (suc n) (b ∷ bs) = inside_after-reads n bs
inside_after-reads zero (b ∷ bs) =
    go (right_delimiter (b ∷ bs)) refl (found-ends (b ∷ bs)) (front_token (b ∷ bs)) refl (λ t. inside_after-reads (length t.bytes - 1) bs)
  where
    add : (t : Token) → BeginsWith (b ∷ bs) t → 0 < length t.bytes → (o : Option Inside) → IfSome o (Reads (drop (length t.bytes - 1) bs))
        → IfSome (with_token t o) (Reads (b ∷ bs))
    add t here some None more = tt
    add t here some (Some i) more = reads-token (b ∷ bs) t i here (rw (drop-sub_one (length t.bytes) b bs some) at more)

    go : (c : Option End) → right_delimiter (b ∷ bs) ≡ c → IfSome c (Ends (b ∷ bs)) → (o : Option Token) → front_token (b ∷ bs) ≡ o
        → ((t : Token) → IfSome (inside_after (length t.bytes - 1) bs) (Reads (drop (length t.bytes - 1) bs)))
        → IfSome (inside_from c o (λ t. inside_after (length t.bytes - 1) bs)) (Reads (b ∷ bs))
    go (Some end) on e o at ih = record { closing = e.closing; spells = tt; closes = e.closes; is = e.is }
    go None on e None at ih = tt
    go None on e (Some t) at ih =
        add t (stands (b ∷ bs) t (record { no_end = on; front = at })) (front_token-some (b ∷ bs) t (sym at)) (inside_after (length t.bytes - 1) bs) (ih t)

inside-reads : (bs : List ℕ) → IfSome (inside bs) (Reads bs)
unfolding inside
inside-reads bs = inside_after-reads 0 bs

-- and no other tokens and end
spells-inside : (ts : List Token) (trims : Bool) (closing rest : List ℕ) → Spells ts (closing ++ rest) → Closes trims closing
    → inside (bytes_of ts ++ (closing ++ rest)) ≡ Some (ts, record { trims = trims; rest = rest })
spells-inside [] trims closing rest h c = inside-closed (closing ++ rest) (record { trims = trims; rest = rest }) (sym (closes-found rest c))
spells-inside (t ∷ ts) trims closing rest h c =
    let more : List ℕ = bytes_of ts ++ (closing ++ rest) in
    let at : IsFound (t.bytes ++ more) t = found h.0 in
    simp (append_assoc, inside-token (t.bytes ++ more) t (sym at.no_end) (sym at.front), drop-append_seam, spells-inside ts trims closing rest h.1 c)

-- ---- no token and no end begins as a comment

end-uncommented : {trims : Bool} {closing : List ℕ} (rest : List ℕ) → Closes trims closing → opens_comment (closing ++ rest) ≡ false
end-uncommented rest closes = refl
end-uncommented rest (closes_marked {w = w} h) = grind (arith, nat_tests)

token-uncommented : (bs : List ℕ) (t : Token) → front_token bs ≡ Some t → opens_comment bs ≡ false
token-uncommented [] t e = refl
token-uncommented (a ∷ []) t e = refl
token-uncommented (a ∷ b ∷ bs) t e = grind (arith, nat_tests, and_parts)

spells-uncommented : (ts : List Token) (trims : Bool) (closing rest : List ℕ) → Spells ts (closing ++ rest) → Closes trims closing
    → opens_comment (bytes_of ts ++ (closing ++ rest)) ≡ false
spells-uncommented [] trims closing rest h c = end-uncommented rest c
spells-uncommented (t ∷ ts) trims closing rest h c =
    let more : List ℕ = bytes_of ts ++ (closing ++ rest) in
    let at : IsFound (t.bytes ++ more) t = found h.0 in
    ap opens_comment (append_assoc t.bytes (bytes_of ts) (closing ++ rest)) ∙ token-uncommented (t.bytes ++ more) t at.front

uncommented : (bs : List ℕ) → opens_comment bs ≡ false → comment_end bs ≡ None
unfolding comment_end
uncommented bs e = simp e

-- ---- a comment, an action, or neither

-- a closed comment or action stands at the front
pub record HasClosed (line : ℕ) (bs : List ℕ) (end : End) (ps : List Piece) : Type 0 where
  pub body : List ℕ
  pub closed : Closed line body end.trims end.rest ps
  pub is : bs ≡ body ++ end.rest

-- .. if something was found
abbrev pub AtOpened : ℕ → List ℕ → Opened → Type 0
AtOpened line bs (comment end) = HasClosed line bs end []
AtOpened line bs (tokens ts end) = HasClosed line bs end (action line ts ∷ [])
AtOpened line bs neither = Unit {0}

slash-is : (bs : List ℕ) → opens_comment bs ≡ true → bs ≡ 47 ∷ 42 ∷ drop 2 bs
slash-is bs h = grind (arith, nat_tests)

comment-is : (line : ℕ) (bs : List ℕ) → IfSome (comment_end bs) (λ end. HasClosed line bs end [])
unfolding comment_end
comment-is line bs = go (opens_comment bs) refl (split_pair 42 47 (drop 2 bs)) refl
  where
    closed : (p : List ℕ × List ℕ) → opens_comment bs ≡ true → split_pair 42 47 (drop 2 bs) ≡ Some p → (o : Option End) → IfSome o (Ends p.1)
        → IfSome o (λ end. HasClosed line bs end [])
    closed p t s None ends = tt
    closed p t s (Some end) ends =
        let split = split-is 42 47 (drop 2 bs) p s in record {
          body = 47 ∷ 42 ∷ p.0 ++ 42 ∷ 47 ∷ [] ++ ends.closing;
          closed = a_comment p.0 split.first ends.closes;
          is = slash-is bs t
              ∙ ap (λ l. 47 ∷ 42 ∷ l) (split.is ∙ ap (λ l. p.0 ++ 42 ∷ 47 ∷ l) ends.is
              ∙ sym (append_assoc (p.0 ++ 42 ∷ 47 ∷ []) ends.closing end.rest ∙ append_assoc p.0 (42 ∷ 47 ∷ []) (ends.closing ++ end.rest)));
        }

    go : (t : Bool) → opens_comment bs ≡ t → (o : Option (List ℕ × List ℕ)) → split_pair 42 47 (drop 2 bs) ≡ o
        → IfSome (comment_closed t o) (λ end. HasClosed line bs end [])
    go false t o s = tt
    go true t None s = tt
    go true t (Some p) s = closed p t s (right_delimiter p.1) (found-ends p.1)

comment-end : (inside closing rest : List ℕ) (trims : Bool) → Absent (42 ∷ 47 ∷ []) (inside ++ 42 ∷ []) → Closes trims closing
    → comment_end (47 ∷ 42 ∷ (inside ++ 42 ∷ 47 ∷ (closing ++ rest))) ≡ Some (record { trims = trims; rest = rest })
unfolding comment_end
comment-end inside closing rest trims h c = ap (comment_closed true) (absent-split 42 47 inside (closing ++ rest) h) ∙ closes-found rest c

pub opened-closed : (line : ℕ) (bs : List ℕ) → AtOpened line bs (opened bs)
unfolding opened
opened-closed line bs = go (comment_end bs) (comment-is line bs) (inside bs) (inside-reads bs)
  where
    go : (c : Option End) → IfSome c (λ end. HasClosed line bs end []) → (i : Option Inside) → IfSome i (Reads bs) → AtOpened line bs (opened_by c i)
    go (Some end) at i reads = at
    go None at (Some i) r = record { body = bytes_of i.0 ++ r.closing; closed = an_action r.spells r.closes; is = r.is }
    go None at None r = tt

-- what is computed of a closed comment or action
pub record IsOpened (line : ℕ) (bs : List ℕ) (end : End) (ps : List Piece) : Type 0 where
  pub ends : ends_at (opened bs) ≡ Some end
  pub pieces : pieces_of line (opened bs) ≡ ps

pub closed-opened : {line : ℕ} {body : List ℕ} {trims : Bool} {rest : List ℕ} {ps : List Piece} → Closed line body trims rest ps
    → IsOpened line (body ++ rest) (record { trims = trims; rest = rest }) ps
unfolding opened
closed-opened (a_comment {trims = trims} inside_is {closing = closing} {rest = rest} h c) = grind (arith, nat_tests, append_assoc, comment-end)
closed-opened (an_action {trims = trims} {ts = ts} {closing = closing} {rest = rest} h c) =
    let none = uncommented (bytes_of ts ++ (closing ++ rest)) (spells-uncommented ts trims closing rest h c) in
    let found = spells-inside ts trims closing rest h c in
    record { ends = simp (append_assoc, none, found); pieces = simp (append_assoc, none, found) }

-- no closed comment or action begins with these bytes
abbrev NoneClosed : List ℕ → Type 0
NoneClosed bs = (line : ℕ) (body : List ℕ) (trims : Bool) (rest : List ℕ) (ps : List Piece) → Closed line body trims rest ps → bs ≡ body ++ rest → ⊥

pub neither-closed : (bs : List ℕ) → opened bs ≡ neither → NoneClosed bs
neither-closed bs e = grind (arith, nat_tests, closed-opened)

pub closed-neither : (bs : List ℕ) → NoneClosed bs → opened bs ≡ neither
closed-neither bs h = go (opened bs) (opened-closed 0 bs)
  where
    go : (o : Opened) → AtOpened 0 bs o → o ≡ neither
    go (comment end) c = absurd (h 0 c.body end.trims end.rest [] c.closed c.is)
    go (tokens ts end) c = absurd (h 0 c.body end.trims end.rest (action 0 ts ∷ []) c.closed c.is)
    go neither c = refl
