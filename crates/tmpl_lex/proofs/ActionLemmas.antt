-- For `read_inside`: what an action has inside, from token to token.
use Rattle.std.proofs.Common.{arith, ◌≡◌, ℕ, zero, suc, ◌-◌, ◌<◌, List, [], ◌∷◌, ◌++◌, Option}
use Rattle.std.proofs.Common.{Some, None, refl, sym, ap, ◌∙◌, length, drop, append_assoc, append-nil, map}
use Rattle.std.proofs.lemmas.List.{map-append}
use Rattle.tmpl_lex.specs.declared.piece.Token as declared
use Rattle.tmpl_lex.specs.Piece.{Token}
use Rattle.tmpl_lex.specs.View.{token_of}
use Rattle.tmpl_lex.specs.computed.Trim.{End, right_delimiter}
use Rattle.tmpl_lex.specs.computed.Token.{Begun, front_token, token_from}
use Rattle.tmpl_lex.specs.computed.Action.{Inside, inside, inside_after, with_token}

-- more tokens before what is inside further on
abbrev pub after : List Token → Option Inside → Option Inside
after ts None = None
after ts (Some i) = Some (ts ++ i.0, i.1)

inside_after-drop : (n : ℕ) (bs : List ℕ) → inside_after n bs ≡ inside_after 0 (drop n bs)
inside_after-drop zero bs = refl
inside_after-drop (suc n) [] = refl
inside_after-drop (suc n) (b ∷ bs) = inside_after-drop n bs

-- a token has at least one byte
token_from-some : (b : ℕ) (o : Option Begun) (t : Token) → Some t ≡ token_from b o → 0 < length t.bytes
token_from-some b o t e = grind arith

pub front_token-some : (bs : List ℕ) (t : Token) → Some t ≡ front_token bs → 0 < length t.bytes
front_token-some bs t e = grind (arith, token_from-some)

-- ---- where it ends

pub inside-closed : (bs : List ℕ) (e : End) → Some e ≡ right_delimiter bs → inside bs ≡ Some ([], e)
unfolding inside
inside-closed bs e h = grind arith

pub inside-none : (bs : List ℕ) → None ≡ right_delimiter bs → None ≡ front_token bs → inside bs ≡ None
unfolding inside
inside-none bs e f = grind arith

pub drop-sub_one : (n b : ℕ) (bs : List ℕ) → 0 < n → drop (n - 1) bs ≡ drop n (b ∷ bs)
drop-sub_one n b bs h = grind arith

pub inside-token : (bs : List ℕ) (t : Token) → None ≡ right_delimiter bs → Some t ≡ front_token bs
    → inside bs ≡ with_token t (inside (drop (length t.bytes) bs))
unfolding inside
inside-token bs t e f = grind (arith, drop-sub_one, front_token-some, inside_after-drop)

-- ---- token by token

-- these tokens were read, and what is inside the rest comes after them
pub record IsReadTo (all : List ℕ) (ts : List Token) (bs : List ℕ) : Type 0 where
  pub same : inside all ≡ after ts (inside bs)

after-nil : (o : Option Inside) → after [] o ≡ o
after-nil o = grind arith

pub IsReadTo-start : (bs : List ℕ) (ts : List declared.Token) → ts ≡ [] → IsReadTo bs (map token_of ts) bs
IsReadTo-start bs ts e = record { same = simp (e, after-nil) }

after-with_token : (ts : List Token) (t : Token) (o : Option Inside) → after ts (with_token t o) ≡ after (ts ++ t ∷ []) o
after-with_token ts t None = refl
after-with_token ts t (Some i) = ap (λ (us : List Token). Some (us, i.1)) (sym (append_assoc ts (t ∷ []) i.0))

-- one token more was read
pub IsReadTo-more : (all bs rest : List ℕ) (old new : List declared.Token) (t : declared.Token) → IsReadTo all (map token_of old) bs
    → None ≡ right_delimiter bs → Some (token_of t) ≡ front_token bs → new ≡ old ++ t ∷ [] → rest ≡ drop (length t.bytes.now) bs
    → IsReadTo all (map token_of new) rest
IsReadTo-more all bs rest old new t so_far on here grown left = record {
  same = so_far.same ∙ simp (inside-token bs (token_of t) on here, grown, map-append, left, after-with_token);
}

-- the action is closed
pub inside-read : (all bs : List ℕ) (ts : List Token) (e : End) → IsReadTo all ts bs → Some e ≡ right_delimiter bs → Some (ts, e) ≡ inside all
inside-read all bs ts e so_far h = grind (arith, append-nil, inside-closed)

-- no token begins
pub inside-unread : (all bs : List ℕ) (ts : List Token) → IsReadTo all ts bs → None ≡ right_delimiter bs → None ≡ front_token bs → None ≡ inside all
inside-unread all bs ts so_far e f = sym (so_far.same ∙ simp (inside-none bs e f))

pub ruleset reading = (IsReadTo-start, IsReadTo-more, inside-read, inside-unread)
