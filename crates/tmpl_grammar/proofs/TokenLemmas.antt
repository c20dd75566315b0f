-- For `one_action`: the first token that is no white space, and those after it.
use Rattle.std.proofs.Common.{◌≡◌, ◌∙◌, true, false, List, [], ◌∷◌, ◌++◌, Option, Some, None, refl, ap, subst, one-add}
use Rattle.std.proofs.lemmas.Bool.{and_parts}
use Rattle.tmpl_lex.specs.declared.piece.TokenKind.{TokenKind}
use Rattle.tmpl_lex.specs.declared.piece.TokenKind.TheVariants as kind
use Rattle.tmpl_lex.specs.Piece.{Token}
use Rattle.tmpl_grammar.specs.computed.Token.{is_space_kind, is_white, is_blank, next}
use Rattle.tmpl_grammar.specs.Pipeline.{IsBlank}
use Rattle.tmpl_grammar.specs.Header.{Then}

-- all are white space, or this token stands after white space, and those after it
abbrev pub AtNext : List Token → Option (Token × List Token) → Type 0
AtNext ts None = IsBlank ts
AtNext ts (Some p) = (ws : List Token) × (ts ≡ ws ++ p.0 ∷ p.1) × IsBlank ws

pub at-next : (ts : List Token) → AtNext ts (next ts)
at-next [] = tt
at-next (s ∷ ss) = by s.kind refl (at-next ss)
  where
    after : s.kind ≡ kind.Space → (o : Option (Token × List Token)) → AtNext ss o → AtNext (s ∷ ss) o
    after is None b = (is, b)
    after is (Some p) (ws, at, blank) = (s ∷ ws, ap (λ vs. s ∷ vs) at, (is, blank))

    by : (k : TokenKind) → s.kind ≡ k → AtNext ss (next ss) → AtNext (s ∷ ss) (next (s ∷ ss))
    by kind.Space is more = simp (is, one-add) (after is (next ss) more)
    by _ is more = simp is ([], refl, tt)

pub no-next : (ts : List Token) → next ts ≡ None → IsBlank ts
no-next ts e = subst (AtNext ts) e (at-next ts)

pub blank-next : (ts : List Token) → IsBlank ts → next ts ≡ None
blank-next [] b = refl
blank-next (t ∷ ts) b = simp (b.0, one-add, blank-next ts b.1)

pub blank-all : (ts : List Token) → IsBlank ts → is_blank ts ≡ true
blank-all [] b = refl
blank-all (t ∷ ts) b = simp (b.0, blank-all ts b.1)

pub all-blank : (ts : List Token) → is_blank ts ≡ true → IsBlank ts
all-blank [] e = tt
all-blank (t ∷ ts) e = let both = and_parts (is_white t) (is_blank ts) e in (white t.kind both.0, all-blank ts both.1)
  where
    white : (k : TokenKind) → is_space_kind k ≡ true → k ≡ kind.Space
    white kind.Space e = refl
    white k e = absurd (cc)

-- where such a token comes first, and such tokens stand after it
pub first-is : {Is : Token → Type 0} {Rest : List Token → Type 0} {ts : List Token} → ((t : Token) → Is t → is_white t ≡ false) → (s : Then Is Rest ts)
    → next ts ≡ Some (s.1, s.2)
first-is other (ws, t, us, at, blank, is, rest) = ap next at ∙ by ws blank
  where
    by : (ws : List Token) → IsBlank ws → next (ws ++ t ∷ us) ≡ Some (t, us)
    by [] b = simp (other t is)
    by (w ∷ ws) b = simp (b.0, one-add, by ws b.1)

pub led-then : {Is : Token → Type 0} {Rest : List Token → Type 0} {ts : List Token} {t : Token} {us : List Token} → next ts ≡ Some (t, us) → Is t → Rest us
    → Then Is Rest ts
led-then {ts = ts} {t = t} {us = us} e is rest = let b = subst (AtNext ts) e (at-next ts) in (b.0, t, us, b.1, b.2, is, rest)
