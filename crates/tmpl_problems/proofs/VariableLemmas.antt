-- For the functions that note variables, and that warn of those that nothing uses.
use Rattle.std.proofs.Common.{arith, ◌≡◌, ◌∙◌, ◌≤◌, ◌<◌, ◌+◌, ◌==◌, ◌&&◌, not, Bool, ℕ, zero, suc, List, [], ◌∷◌, ◌++◌, length, map, take, drop, fold, filter, get_or, Option, Some, None, Bor, All, refl, sym, ap, subst}
use Rattle.std.proofs.Common.{append_assoc}
use Rattle.std.specs.List.{AllZip, cons_option, enumerate_from}
use Rattle.std.specs.Prelude.{slice_get}
use Rattle.std.proofs.lemmas.List.{length-take, map-append, take_all, take_more}
use Rattle.std.proofs.lemmas.List.Elements.{All-append, All-head, All-tail, filter-append, filter_map-append}
use Rattle.std.proofs.lemmas.List.Sums.{fold-append}
use Rattle.std.proofs.lemmas.Option.{same_Some}
use Rattle.std.proofs.lemmas.Slice.Zip.{AllZip-long}
use Rattle.tmpl_lex.specs.View.{token_of}
use Rattle.tmpl_lex.specs.declared.piece.Token as held
use Rattle.tmpl_syntax.specs.declared.column.Place.{Place}
use Rattle.tmpl_problems.specs.Survey.{Declared, IsUnused, is_used}
use Rattle.tmpl_problems.specs.Tokens.{declaration_len, names_of, variable_name}
use Rattle.tmpl_problems.specs.computed.Adds.{AddsAll, AddsZip, IsNoted, mark, mark_each, note, note_each}
use Rattle.tmpl_problems.specs.declared.survey.Variable.{Variable}
use Rattle.tmpl_problems.specs.declared.survey.Warning.{Warning}
use Rattle.tmpl_problems.proofs.StepLemmas.{enumerate-append, zip-append}

module _ {K X : Type 0} (P : X → Type 0) where
  pub get-all : (es : List (K × X)) (i : ℕ) (e : K × X) → All (λ e. P e.1) es → slice_get es i ≡ Some e → P e.1
  get-all [] i e all is = absurd (cc)
  get-all (x ∷ es) zero e all is = subst (λ y. P y.1) (same_Some x e is) (All-head (λ e. P e.1) x es all)
  get-all (x ∷ es) (suc i) e all is = get-all es i e (All-tail (λ e. P e.1) x es all) is

-- more and more is added
module _ {B : Type 0} (P : B → Type 0) where
  pub adds-both : (old mid new : List B) → AddsAll P old mid → AddsAll P mid new → AddsAll P old new
  adds-both old mid new a b = record {
    more = a.more ++ b.more;
    added = b.added ∙ ap (λ l. l ++ b.more) a.added ∙ append_assoc old a.more b.more;
    all = All-append P a.more b.more a.all b.all;
  }

-- ---- the names in tokens

pub tokens-after : (ts : List held.Token) (n : ℕ) → n ≡ declaration_len (map token_of ts) → map token_of (drop n ts) ≡ drop (declaration_len (map token_of ts)) (map token_of ts)
tokens-after ts n is = drop-map n ts ∙ ap (λ k. drop k (map token_of ts)) is
  where
    drop-map : (n : ℕ) (ts : List held.Token) → map token_of (drop n ts) ≡ drop n (map token_of ts)
    drop-map zero ts = refl
    drop-map (suc n) [] = refl
    drop-map (suc n) (t ∷ ts) = drop-map n ts

module _ (ts : List held.Token) (i : ℕ) (d : held.Token) (es : List (Bor (List ℕ) × Variable)) where
  marks-then : (o : Option (List ℕ)) → i < length ts → o ≡ variable_name (token_of (get_or ts i d))
      → mark_each (names_of (map token_of (take (i + 1) ts))) es ≡ fold (λ es n. mark n es) (mark_each (names_of (map token_of (take i ts))) es) (cons_option o [])
  marks-then o within found =
      let t = get_or ts i d in
      let names : names_of (map token_of (take (i + 1) ts)) ≡ names_of (map token_of (take i ts)) ++ cons_option o [] =
      ap (λ l. names_of (map token_of l)) (take_more ts i d within)
      ∙ ap names_of (map-append token_of (take i ts) (t ∷ [])) ∙ filter_map-append variable_name (map token_of (take i ts)) (token_of t ∷ [])
      ∙ ap (λ o. names_of (map token_of (take i ts)) ++ cons_option o []) (sym found) in
      ap (λ names. mark_each names es) names ∙ fold-append (λ es n. mark n es) es (names_of (map token_of (take i ts))) (cons_option o [])

  pub marks-more : (n : List ℕ) → i < length ts → Some n ≡ variable_name (token_of (get_or ts i d))
      → mark_each (names_of (map token_of (take (i + 1) ts))) es ≡ mark n (mark_each (names_of (map token_of (take i ts))) es)
  marks-more n within found = marks-then (Some n) within found

  pub marks-same : i < length ts → None ≡ variable_name (token_of (get_or ts i d))
      → mark_each (names_of (map token_of (take (i + 1) ts))) es ≡ mark_each (names_of (map token_of (take i ts))) es
  marks-same within found = marks-then None within found

-- ---- names that are noted

notes-more : (place : Place) (count : ℕ) (names : List (Bor (List ℕ))) (i : ℕ) (d : Bor (List ℕ)) (es : List (Bor (List ℕ) × Variable)) → i < length names
    → note_each place count (take (i + 1) names) es
    ≡ note (get_or names i d) (record { place = place; is_used = count == 2 && i == 0 }) (note_each place count (take i names) es)
notes-more place count names i d es within =
    let name = get_or names i d in
    ap (λ l. note_each place count l es) (take_more names i d within)
    ∙ ap (λ xs. fold (λ es x. note x.1 (record { place = place; is_used = count == 2 && x.0 == 0 }) es) es xs) (enumerate-append 0 (take i names) (name ∷ []))
    ∙ fold-append (λ es x. note x.1 (record { place = place; is_used = count == 2 && x.0 == 0 }) es) es (enumerate_from 0 (take i names)) ((0 + length (take i names), name) ∷ [])
    ∙ ap (λ k. note name (record { place = place; is_used = count == 2 && k == 0 }) (note_each place count (take i names) es)) (omega (arith, within, length-take i names))

pub notes-then : (place : Place) (count : ℕ) (names : List (Bor (List ℕ))) (i : ℕ) (d : Bor (List ℕ)) (es old new : List (Bor (List ℕ) × Variable)) (b : Bool)
    → new ≡ note (get_or names i d) (record { place = place; is_used = b }) old → b ≡ (count == 2 && i == 0) → old ≡ note_each place count (take i names) es
    → i < length names → new ≡ note_each place count (take (i + 1) names) es
notes-then place count names i d es old new b is first so within =
    is ∙ ap (λ b. note (get_or names i d) (record { place = place; is_used = b }) old) first
    ∙ ap (note (get_or names i d) (record { place = place; is_used = count == 2 && i == 0 })) so ∙ sym (notes-more place count names i d es within)

-- ---- what is told of those that are noted

zip-at : {A B : Type 0} (R : A → B → Type 0) (xs : List A) (ys : List B) (i : ℕ) (y : B) → AllZip R xs ys → slice_get ys i ≡ Some y → (x : A) × (take (suc i) xs ≡ take i xs ++ x ∷ []) × R x y
zip-at R [] [] i y z is = cc
zip-at R [] (b ∷ ys) i y z is = absurd z
zip-at R (x ∷ xs) [] i y z is = absurd z
zip-at R (x ∷ xs) (b ∷ ys) zero y z is = (x, refl, subst (R x) (same_Some b y is) z.0)
zip-at R (x ∷ xs) (b ∷ ys) (suc i) y z is = let t = zip-at R xs ys i y z.1 is in (t.0, ap (λ l. x ∷ l) t.1, t.2)

module _ (file : List ℕ) (uses : List (ℕ × List ℕ)) (ds : List Declared) (es : List (Bor (List ℕ) × Variable)) (i : ℕ) where
  pub unused-more : (e : Bor (List ℕ) × Variable) → AllZip (IsNoted file uses) ds es → slice_get es i ≡ Some e → (old mid new : List Warning)
      → AddsZip (IsUnused file) (filter (λ d. not (is_used uses d)) (take i ds)) old mid
      → ((d : Declared) → IsNoted file uses d e → AddsZip (IsUnused file) (filter (λ d. not (is_used uses d)) (d ∷ [])) mid new)
      → AddsZip (IsUnused file) (filter (λ d. not (is_used uses d)) (take (i + 1) ds)) old new
  unused-more e z is old mid new a next =
      let t = zip-at (IsNoted file uses) ds es i e z is in
      let b = next t.0 t.2 in
      let plus : i + 1 ≡ suc i = omega arith in
      let all : filter (λ d. not (is_used uses d)) (take (i + 1) ds) ≡ filter (λ d. not (is_used uses d)) (take i ds) ++ filter (λ d. not (is_used uses d)) (t.0 ∷ []) =
      ap (λ k. filter (λ d. not (is_used uses d)) (take k ds)) plus ∙ ap (filter (λ d. not (is_used uses d))) t.1 ∙ filter-append (λ d. not (is_used uses d)) (take i ds) (t.0 ∷ []) in
      record {
        more = a.more ++ b.more;
        added = b.added ∙ ap (λ l. l ++ b.more) a.added ∙ append_assoc old a.more b.more;
        told = subst (λ l. AllZip (IsUnused file) l (a.more ++ b.more)) (sym all) (zip-append (IsUnused file) _ a.more _ b.more a.told b.told);
      }

  pub unused-all : AllZip (IsNoted file uses) ds es → length es ≤ i → (old new : List Warning)
      → AddsZip (IsUnused file) (filter (λ d. not (is_used uses d)) (take i ds)) old new → AddsZip (IsUnused file) (filter (λ d. not (is_used uses d)) ds) old new
  unused-all z past old new a =
      subst (λ l. AddsZip (IsUnused file) (filter (λ d. not (is_used uses d)) l) old new) (take_all i ds (omega (arith, past, AllZip-long (IsNoted file uses) ds es z))) a
