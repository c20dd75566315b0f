-- What one part of a file adds to what is found.
use Rattle.std.proofs.Common.{arith, ◌≡◌, ◌∙◌, ◌≤◌, ◌<◌, ◌+◌, ℕ, Bool, true, false, List, [], ◌∷◌, ◌++◌, Option, Some, None, All, refl, sym, ap, subst, length}
use Rattle.std.proofs.Common.{length-append}
use Rattle.std.specs.List.{AllZip, cons_option, enumerate_from, filter_map}
use Rattle.std.specs.Option.{option_map}
use Rattle.std.specs.Prelude.{if◌then◌else◌}
use Rattle.std.proofs.lemmas.List.{append-nil}
use Rattle.std.proofs.lemmas.List.Elements.{All-cons, All-nil, filter_map-append}
use Rattle.tmpl_lex.specs.Begin.{BeginsAt}
use Rattle.tmpl_lex.specs.Part.{pieces_after}
use Rattle.tmpl_lex.specs.Piece.{Piece}
use Rattle.tmpl_lex.specs.Place.{StandsAt}
use Rattle.tmpl_lex.specs.Text.{text_piece}
use Rattle.tmpl_lex.specs.declared.part.AfterText.{AfterText}
use Rattle.tmpl_lex.specs.declared.part.AfterText.TheVariants as variant
use Rattle.tmpl_lex.specs.declared.piece.Token as held
use Rattle.tmpl_grammar.specs.computed.Reading.{action_in}
use Rattle.tmpl_syntax.proofs.BeginLemmas.{begins-within}
use Rattle.tmpl_syntax.specs.Column.{IsPlace}
use Rattle.tmpl_problems.specs.computed.Failing.{IsFailing, failing_from, has_failing}
use Rattle.tmpl_problems.specs.Survey.{IsNamed, IsWarning, named_place, names_from, suspicious, tokens_in, warned_place}
use Rattle.tmpl_problems.specs.Sign.{first_sign}
use Rattle.tmpl_problems.specs.Tokens.{name_after}
use Rattle.tmpl_problems.specs.computed.Adds.{AddsAll, AddsFailing, AddsName, AddsSign, AddsZip}
use Rattle.tmpl_problems.specs.declared.survey.Named.{Named}
use Rattle.tmpl_problems.specs.declared.survey.Warning.{Warning}

-- each place of a text that stands in a file is one of the file
pub stands-within : (file text : List ℕ) (start at : ℕ) → StandsAt file start text → at < length text → start + at ≤ length file
stands-within file text start at stands lt =
    omega (arith, lt, ap length stands.parts, stands.count, length-append (stands.before ++ text) stands.after, length-append stands.before text)

-- ---- lists

pub zip-append : {A B : Type 0} (R : A → B → Type 0) (xs : List A) (cs : List B) (ys : List A) (bs : List B) → AllZip R xs cs → AllZip R ys bs → AllZip R (xs ++ ys) (cs ++ bs)
zip-append R [] [] ys bs p q = q
zip-append R [] (a ∷ cs) ys bs p q = absurd p
zip-append R (x ∷ xs) [] ys bs p q = absurd p
zip-append R (x ∷ xs) (a ∷ cs) ys bs p q = (p.0, zip-append R xs cs ys bs p.1 q)

pub enumerate-append : {A : Type 0} (n : ℕ) (xs ys : List A) → enumerate_from n (xs ++ ys) ≡ enumerate_from n xs ++ enumerate_from (n + length xs) ys
enumerate-append n [] ys = ap (λ k. enumerate_from k ys) (omega arith)
enumerate-append n (x ∷ xs) ys =
    ap (λ zs. (n, x) ∷ zs) (enumerate-append (n + 1) xs ys ∙ ap (λ k. enumerate_from (n + 1) xs ++ enumerate_from k ys) (omega arith))

pub adds-zip : {A B : Type 0} (R : A → B → Type 0) (all xs ys : List A) (old new : List B) → all ≡ xs ++ ys → AllZip R xs old → AddsZip R ys old new → AllZip R all new
adds-zip R all xs ys old new e p a =
    subst (λ zs. AllZip R zs new) (sym e) (subst (λ bs. AllZip R (xs ++ ys) bs) (sym a.added) (zip-append R xs old ys a.more p a.told))

-- .. is so that this holds of each
pub adds-all : {A B : Type 0} (R : A → B → Type 0) (P : B → Type 0) → ((x : A) (b : B) → R x b → P b) → (xs : List A) (old new : List B) → AddsZip R xs old new → AddsAll P old new
adds-all {A = A} {B = B} R P so xs old new a = record { more = a.more; added = a.added; all = by xs a.more a.told }
  where
    by : (xs : List A) (bs : List B) → AllZip R xs bs → All P bs
    by [] [] z = All-nil P
    by [] (b ∷ bs) z = absurd z
    by (x ∷ xs) [] z = absurd z
    by (x ∷ xs) (b ∷ bs) z = All-cons P b bs (so x b z.0) (by xs bs z.1)

pub adds-nothing : {A B : Type 0} (R : A → B → Type 0) (old new : List B) → new ≡ old → AddsZip R [] old new
adds-nothing R old new e = record { more = []; added = e ∙ sym (append-nil old); told = tt }

-- more and more is added
module _ {B : Type 0} (P : B → Type 0) where
  pub adds-none : (old new : List B) → new ≡ old → AddsAll P old new
  adds-none old new e = record { more = []; added = e ∙ sym (append-nil old); all = All-nil P }

  pub adds-one : (old new : List B) (b : B) → new ≡ old ++ b ∷ [] → P b → AddsAll P old new
  adds-one old new b e is = record { more = b ∷ []; added = e; all = All-cons P b [] is (All-nil P) }

-- ---- names

module _ (words : List (List ℕ)) where
  pub names-append : (n : ℕ) (ps qs : List Piece) → names_from words n (ps ++ qs) ≡ names_from words n ps ++ names_from words (n + length ps) qs
  names-append n ps qs =
      ap (filter_map (λ (p : ℕ × Piece). option_map (λ (name : List ℕ). (p.0, name)) (name_after words (tokens_in p.1)))) (enumerate-append n ps qs)
      ∙ filter_map-append (λ (p : ℕ × Piece). option_map (λ (name : List ℕ). (p.0, name)) (name_after words (tokens_in p.1))) (enumerate_from n ps)
      (enumerate_from (n + length ps) qs)

  pub names-text : (n line : ℕ) (bytes : List ℕ) → names_from words n (text_piece line bytes) ≡ []
  names-text n line [] = refl
  names-text n line (b ∷ bytes) = refl

module _ (file : List ℕ) (opens : ℕ) (old new : List Named) where
  pub name-adds : (k : ℕ) → BeginsAt file k opens → (o : Option (List ℕ)) → AddsName file opens o old new
      → AddsZip (IsNamed file) (cons_option (option_map (λ (name : List ℕ). (k, name)) o) []) old new
  name-adds k b None a = adds-nothing (IsNamed file) old new a
  name-adds k b (Some name) a = record {
    more = a.one ∷ [];
    added = a.added;
    told = (record { name = a.name_is; begins = subst (λ at. BeginsAt file k at) (sym (a.start (begins-within file k opens b))) b; place = a.place }, tt);
  }

  pub name-placed : (o : Option (List ℕ)) → AddsName file opens o old new → AddsAll (λ n. IsPlace file (named_place n)) old new
  name-placed None a = adds-none (λ n. IsPlace file (named_place n)) old new a
  name-placed (Some name) a = adds-one (λ n. IsPlace file (named_place n)) old new a.one a.added a.place

-- ---- actions that fail

pub failing-append : (n : ℕ) (ps qs : List Piece) → failing_from n (ps ++ qs) ≡ failing_from n ps ++ failing_from (n + length ps) qs
failing-append n ps qs =
    ap (filter_map (λ (p : ℕ × Piece). if has_failing (tokens_in p.1) then Some p.0 else None)) (enumerate-append n ps qs)
    ∙ filter_map-append (λ (p : ℕ × Piece). if has_failing (tokens_in p.1) then Some p.0 else None) (enumerate_from n ps) (enumerate_from (n + length ps) qs)

pub failing-text : (n line : ℕ) (bytes : List ℕ) → failing_from n (text_piece line bytes) ≡ []
unfolding action_in
failing-text n line [] = refl
failing-text n line (b ∷ bytes) = refl

module _ (file : List ℕ) (opens : ℕ) (old new : List Warning) where
  pub fails-adds : (k : ℕ) → BeginsAt file k opens → (b : Bool) → AddsFailing file opens b old new
      → AddsZip (IsFailing file) (cons_option (if b then Some k else None) []) old new
  fails-adds k b false a = adds-nothing (IsFailing file) old new a
  fails-adds k b true a = record {
    more = a.one ∷ [];
    added = a.added;
    told = (record { begins = subst (λ at. BeginsAt file k at) (sym (a.start (begins-within file k opens b))) b; place = a.place }, tt);
  }

  pub fails-none : AddsFailing file opens (has_failing []) old new → AddsZip (IsFailing file) [] old new
  unfolding action_in
  fails-none a = adds-nothing (IsFailing file) old new a

  pub fails-placed : (b : Bool) → AddsFailing file opens b old new → AddsAll (λ w. IsPlace file (warned_place w)) old new
  fails-placed false a = adds-none (λ w. IsPlace file (warned_place w)) old new a
  fails-placed true a = adds-one (λ w. IsPlace file (warned_place w)) old new a.one a.added a.place

-- ---- signs

pub suspicious-append : (ps qs : List Piece) → suspicious (ps ++ qs) ≡ suspicious ps ++ suspicious qs
suspicious-append ps qs = filter_map-append _ ps qs

pub suspicious-text : (line : ℕ) (bytes : List ℕ) → suspicious (text_piece line bytes) ≡ cons_option (option_map (λ (s : ℕ × List ℕ). (bytes, s.0, s.1)) (first_sign bytes)) []
suspicious-text line [] = refl
suspicious-text line (b ∷ bytes) = refl

pub suspicious-after : (ts : List held.Token) (after : AfterText) → suspicious (pieces_after ts after) ≡ []
suspicious-after ts variant.Nothing = refl
suspicious-after ts (variant.Action line) = refl
suspicious-after ts (variant.Unreadable line) = refl

pub sign-adds : (file : List ℕ) (start line : ℕ) (bytes : List ℕ) (old new : List Warning) → StandsAt file start bytes → AddsSign file start (first_sign bytes) old new
    → AddsZip (IsWarning file) (suspicious (text_piece line bytes)) old new
sign-adds file start line bytes old new stands a = subst (λ xs. AddsZip (IsWarning file) xs old new) (sym (suspicious-text line bytes)) (by (first_sign bytes) a)
  where
    by : (o : Option (ℕ × List ℕ)) → AddsSign file start o old new → AddsZip (IsWarning file) (cons_option (option_map (λ (s : ℕ × List ℕ). (bytes, s.0, s.1)) o) []) old new
    by None a = adds-nothing (IsWarning file) old new a
    by (Some at) a = record {
      more = a.one ∷ [];
      added = a.added;
      told = (record { begins = start; stands = stands; start = a.start_is; words = a.words; place = a.place }, tt);
    }
