-- For `cut_back`: joined parts are cut into the same parts.
use Rattle.std.proofs.Common.{arith, ◌≡◌, ◌∙◌, ℕ, ◌+◌, ◌<◌, Bool, true, false, ◌&&◌, nat_eq, List, [], ◌∷◌, ◌++◌, refl, sym, ap, subst}
use Rattle.std.proofs.Common.{◌-◌, drop, length, append_assoc, append-nil, reverse, Some, None, if◌then◌else◌, codes}
use Rattle.std.specs.List.{ends_with}
use Rattle.std.specs.Cmp.Lexicographic.{pointwise}
use Rattle.std.proofs.lemmas.Bool.{eqb-true}
use Rattle.std.proofs.lemmas.Bool.Decides.{nat_tests}
use Rattle.std.proofs.lemmas.List.{reverse-append}
use Rattle.std.proofs.Math.Bool.{and-false, and-true}
use Rattle.tmpl_lex.specs.Bytes.{is_space, Absent, BeginsNone, Stops}
use Rattle.tmpl_lex.specs.Cut.{a_comment, an_action as tokens_closed, TextBefore, Cuts, last, closed}
use Rattle.tmpl_lex.specs.Delimiter.{IsLeftMarker, left_marker, opens, opens_marked, closes}
use Rattle.tmpl_lex.specs.Piece.{Piece, text, action}
use Rattle.tmpl_lex.specs.Text.{newlines, text_piece, keeps, trims, Texts, trimmed}
use Rattle.tmpl_lex.proofs.PartLemmas.{absent-rest, absent-here, absent-nil, absent-one, absent-cons}
use Rattle.tmpl_syntax.specs.Print.Join.{PrintedPart, a_text, an_action, before_of, joined_parts, AreParts, no_piece}
use Rattle.tmpl_syntax.specs.Print.Join.{same_text, same_action, HasParts, CutsBack}
use Rattle.tmpl_syntax.specs.Print.Printed.{opening_after, parting}
use Rattle.tmpl_syntax.specs.computed.Print.{ends_brace}
use Rattle.tmpl_grammar.specs.Print.{bytes_of}
use Rattle.tmpl_grammar.proofs.FrontLemmas.{solid, solid-unmarked}

-- ---- a text, and what opens after it

last-at : (b : ℕ) (t : List ℕ) → pointwise nat_eq (123 ∷ []) (drop (length t) (b ∷ t)) ≡ ends_brace (b ∷ t)
last-at b [] = and-true (nat_eq 123 b) ∙ grind (arith, nat_tests)
last-at b (c ∷ t) = last-at c t

-- the last byte of a text
last_brace : (t : List ℕ) → ends_with nat_eq t (123 ∷ []) ≡ ends_brace t
last_brace [] = refl
last_brace (b ∷ t) =
    let at : length {A = ℕ} (b ∷ t) - 1 ≡ length t = omega arith in
    ap (λ n. pointwise nat_eq (123 ∷ []) (drop n (b ∷ t))) at ∙ last-at b t

-- a byte more, which makes no `{{` with the end of the text
clear-more : (t : List ℕ) (c : ℕ) → Absent (123 ∷ 123 ∷ []) t → (ends_brace t && nat_eq c 123) ≡ false → Absent (123 ∷ 123 ∷ []) (t ++ c ∷ [])
clear-more [] c h n = absent-cons 123 123 c [] (and-false (nat_eq c 123)) (absent-nil 123 123)
clear-more (b ∷ []) c h n = absent-cons 123 123 b (c ∷ []) n (clear-more [] c (absent-nil 123 123) refl)
clear-more (b ∷ d ∷ t) c h n =
    absent-cons 123 123 b (d ∷ (t ++ c ∷ [])) (absent-here 123 123 b d t h) (clear-more (d ∷ t) c (absent-rest b (123 ∷ 123 ∷ []) (d ∷ t) h) n)

spaced-end : (t : List ℕ) → ends_brace (t ++ 32 ∷ []) ≡ false
spaced-end (b ∷ c ∷ t) = spaced-end (c ∷ t)
spaced-end _ = refl

brace-last : (t : List ℕ) → ends_brace t ≡ true → (u : List ℕ) × (t ≡ u ++ 123 ∷ [])
brace-last [] e = cc
brace-last (b ∷ []) e = ([], ap (λ k. k ∷ []) (eqb-true b 123 e))
brace-last (b ∷ c ∷ t) e = let more = brace-last (c ∷ t) e in (b ∷ more.0, ap (λ l. b ∷ l) more.1)

brace-stops : (t : List ℕ) → ends_brace t ≡ true → Stops is_space (reverse t)
brace-stops t e =
    let h = brace-last t e in
    subst (Stops is_space) (sym (ap reverse h.1 ∙ reverse-append h.0 (123 ∷ []))) (let white : is_space 123 ≡ false = refl in white)

texts-whole : (line : ℕ) (t : List ℕ) → Texts false false line t (text_piece line t)
texts-whole line t =
    let n : line + newlines [] ≡ line = omega arith in
    subst (λ (bs : List ℕ). Texts false false line bs (text_piece line t)) (append-nil t)
    (subst (λ (k : ℕ). Texts false false line (t ++ []) (text_piece k t)) n (trimmed t [] keeps keeps))

texts-spaced : (line : ℕ) (t : List ℕ) → ends_brace t ≡ true → Texts false true line (t ++ 32 ∷ []) (text_piece line t)
texts-spaced line t e =
    let n : line + newlines [] ≡ line = omega arith in
    subst (λ (k : ℕ). Texts false true line (t ++ 32 ∷ []) (text_piece k t)) n
    (trimmed t (32 ∷ []) keeps (trims (record { passes = refl; longest = brace-stops t e })))

abbrev opened_by : Bool → List ℕ
opened_by k = if k then codes " {{- " else codes "{{"

abbrev open_after : List ℕ → List ℕ
open_after t = opened_by (ends_brace t)

open-is : (t : List ℕ) → opening_after (before_of t) ≡ open_after t
open-is [] = refl
open-is (b ∷ t) = ap opened_by (last_brace (b ∷ t))

some-before : (t : List ℕ) → 0 < length t → Some t ≡ before_of t
some-before [] h = absurd (omega arith)
some-before (b ∷ t) h = refl

-- what opens bytes after a text
record Opening (line : ℕ) (t a : List ℕ) : Type 0 where
  before : List ℕ
  delimiter : List ℕ
  leads : TextBefore false line before delimiter a (text_piece line t)
  is : before ++ (delimiter ++ a) ≡ t ++ (open_after t ++ a)

opens-after : (line : ℕ) (t a : List ℕ) → Absent (123 ∷ 123 ∷ []) t → BeginsNone IsLeftMarker a → Opening line t a
opens-after line t a clear plain = go (ends_brace t) refl
  where
    go : (k : Bool) → ends_brace t ≡ k → Opening line t a
    go false e = record {
      before = t;
      delimiter = 123 ∷ 123 ∷ [];
      leads = record { left = false; first = clear-more t 123 clear (rw and-true e); opens = opens plain; texts = texts-whole line t };
      is = ap (λ k. t ++ (opened_by k ++ a)) (sym e);
    }
    go true e = record {
      before = t ++ 32 ∷ [];
      delimiter = 123 ∷ 123 ∷ 45 ∷ 32 ∷ [];
      leads = record {
        left = true;
        first = clear-more (t ++ 32 ∷ []) 123 (clear-more t 32 clear (and-false (ends_brace t))) (rw and-true (spaced-end t));
        opens = opens_marked (left_marker refl);
        texts = texts-spaced line t e;
      };
      is = append_assoc t (32 ∷ []) (123 ∷ 123 ∷ 45 ∷ 32 ∷ a) ∙ ap (λ k. t ++ (opened_by k ++ a)) (sym e);
    }

-- ---- a file

some-text : (line : ℕ) (t : List ℕ) → 0 < length t → (qs : List Piece) → text_piece line t ++ qs ≡ text line t ∷ qs
some-text line [] h qs = absurd (omega arith)
some-text line (b ∷ t) h qs = refl

pub cut-back : (ps : List PrintedPart) → AreParts ps → (t : List ℕ) → Absent (codes "{{") t → (line : ℕ) → HasParts line t ps
cut-back [] h t clear line = record {
  pieces = [];
  cuts = simp append-nil (last clear (texts-whole line t));
  same = no_piece;
}
cut-back (an_action ts ∷ ps) h t clear line =
    let rest : List ℕ = joined_parts None ps in
    let body : List ℕ = bytes_of ts ++ codes "}}" in
    let o = opens-after line t (body ++ rest) clear (rw append_assoc (h.0.unmarked rest)) in
    let here : ℕ = line + newlines o.before in
    let more = cut-back ps h.1 [] (absent-nil 123 123) (line + newlines (o.before ++ o.delimiter ++ body)) in
    let file : o.before ++ o.delimiter ++ body ++ rest ≡ t ++ (opening_after (before_of t) ++ (bytes_of ts ++ (codes "}}" ++ rest))) =
    append_assoc (o.before ++ o.delimiter) body rest ∙ append_assoc o.before o.delimiter (body ++ rest) ∙ o.is ∙ rw (open-is, append_assoc (bytes_of ts)) in
    record {
      pieces = action here ts ∷ more.pieces;
      cuts = subst (λ (bs : List ℕ). Cuts false line bs (text_piece line t ++ action here ts ∷ more.pieces)) file
          (subst (λ (qs : List Piece). Cuts false line (o.before ++ o.delimiter ++ body ++ rest) qs)
          (append_assoc (text_piece line t) (action here ts ∷ []) more.pieces)
          (closed o.leads (tokens_closed (h.0.spells rest) closes) more.cuts));
      same = same_action more.same;
    }
cut-back (a_text u ∷ ps) h [] clear line =
    let more = cut-back ps h.1 u h.0.clear line in
    record {
      pieces = text line u ∷ more.pieces;
      cuts = rw (some-before u h.0.some) (rw (some-text line u h.0.some more.pieces) at more.cuts);
      same = same_text more.same;
    }
cut-back (a_text u ∷ ps) h (b ∷ t) clear line =
    let rest : List ℕ = u ++ joined_parts (before_of u) ps in
    let body : List ℕ = codes "/**/}}" in
    let o = opens-after line (b ∷ t) (body ++ rest) clear (solid-unmarked (solid refl refl)) in
    let next : ℕ = line + newlines (o.before ++ o.delimiter ++ body) in
    let more = cut-back ps h.1 u h.0.clear next in
    let is : opening_after (Some (b ∷ t)) ≡ open_after (b ∷ t) = open-is (b ∷ t) in
    let file : o.before ++ o.delimiter ++ body ++ rest ≡ (b ∷ t) ++ (parting (Some (b ∷ t)) ++ (u ++ joined_parts (Some u) ps)) =
    simp (append_assoc, o.is, is, some-before u h.0.some) in
    record {
      pieces = text next u ∷ more.pieces;
      cuts = subst (λ (bs : List ℕ). Cuts false line bs (text line (b ∷ t) ∷ text next u ∷ more.pieces)) file
          (closed o.leads (a_comment [] (absent-one 42 47) closes)
          (rw (some-text next u h.0.some more.pieces) at more.cuts));
      same = same_text more.same;
    }

pub cuts_back : CutsBack
cuts_back ps h line = cut-back ps h [] (absent-nil 123 123) line
