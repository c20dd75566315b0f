-- For `Code` and `Tables`: what is told by a place in tables stays as these grow.
use Rattle.std.proofs.Common.{arith, Bool, if◌then◌else◌, false, ◌≡◌, ◌∙◌, ◌+◌, ◌<◌, ◌≤◌, ℕ, zero, suc, true, List, [], ◌∷◌, ◌++◌, drop, get_or, length, map, nat_le, nat_lt, refl, ap, reverse, sym, take}
use Rattle.std.proofs.Common.{append-nil, append_assoc, length-append}
use Rattle.std.proofs.lemmas.Bool.{and_parts, le-leb, leb-true, lt-ltb, ltb-true}
use Rattle.std.proofs.Math.Seq.{drop-append_seam, get_or-append_seam}
use Rattle.std.proofs.lemmas.List.{drop_min, get_or_append_left, length-map, map-append, reverse-append, take_all, take_min, take_more}
use Rattle.std.proofs.Common.{Result, OnOk, subst}
use Rattle.std.proofs.lemmas.Result.{on_ok_weaker}
use Rattle.std.proofs.lemmas.List.Folds.{list_all-append}
use Rattle.std.specs.List.{list_all}
use Rattle.tmpl_code.specs.Instruction.{Instruction, act, chained, no_template, push_fields, push_text, put, refuse, show_fields, show_slot}
use Rattle.tmpl_code.specs.View.{instruction_of, letters_at, name_at, names_in, names_of}
use Rattle.tmpl_code.specs.Code.{Code}
use Rattle.tmpl_code.specs.computed.Held.{Ends, Placed, Pushed, code_in, code_of}
use Rattle.tmpl_code.specs.declared.code.Code as held_code
use Rattle.tmpl_code.specs.computed.Tables.{Grows, fits}
use Rattle.tmpl_code.specs.computed.Within.{ends_within}
use Rattle.tmpl_code.specs.declared.instruction.Instruction as held
use Rattle.tmpl_code.specs.declared.instruction.Instruction.TheVariants as i
use Rattle.tmpl_code.specs.declared.tables.Span.{Span}
use Rattle.tmpl_code.specs.declared.tables.Tables.{Tables}

-- ---- lists

pub take-front : {A : Type 0} (xs ys : List A) (n : ℕ) → n ≤ length xs → take n (xs ++ ys) ≡ take n xs
take-front xs ys zero h = refl
take-front [] ys (suc n) h = absurd (omega arith)
take-front (x ∷ xs) ys (suc n) h = ap (λ zs. x ∷ zs) (take-front xs ys n (omega arith))

pub span-front : {A : Type 0} (xs ys : List A) (start count : ℕ) → start + count ≤ length xs
    → take count (drop start (xs ++ ys)) ≡ take count (drop start xs)
span-front xs ys zero count h = take-front xs ys count (omega arith)
span-front [] ys (suc start) count h = absurd (omega arith)
span-front (x ∷ xs) ys (suc start) count h = span-front xs ys start count (omega arith)

pub ruleset clamps = (drop_min, take_min)

map-back : {A B : Type 0} (f : A → B) (xs : List A) → map f (reverse xs) ≡ reverse (map f xs)
map-back f [] = refl
map-back f (x ∷ xs) =
    ap (map f) (reverse-append (x ∷ []) xs) ∙ map-append f (reverse xs) (x ∷ []) ∙ ap (λ ys. ys ++ f x ∷ []) (map-back f xs)
    ∙ sym (reverse-append (f x ∷ []) (map f xs))

pub span_at_end : {A : Type 0} (xs ys more : List A) (n m : ℕ) → ys ≡ xs ++ more → n ≡ length xs → m ≡ length more → take m (drop n ys) ≡ more
span_at_end xs ys more n m is start count =
    (λ j. take (count j) (drop (start j) (is j))) ∙ ap (take (length more)) (drop-append_seam xs more) ∙ take_all (length more) more (omega arith)

-- ---- names that lie in a block of letters

inside-on : (n m : ℕ) (ss : List Span) → n ≤ m → list_all (ends_within n) ss ≡ true → list_all (ends_within m) ss ≡ true
inside-on n m [] le h = refl
inside-on n m (s ∷ ss) le h =
    let parts = and_parts (ends_within n s) (list_all (ends_within n) ss) h in
    let ends = leb-true (s.start + s.count) n parts.0 in
    rw (le-leb (s.start + s.count) m (omega arith), inside-on n m ss le parts.1) refl

module _ (ls name new : List ℕ) (is : new ≡ ls ++ name) where
  grown : length new ≡ length ls + length name
  grown = ap length is ∙ length-append ls name

  pub inside_on : (ss : List Span) → list_all (ends_within (length ls)) ss ≡ true → list_all (ends_within (length new)) ss ≡ true
  inside_on ss h = let more = grown in inside-on (length ls) (length new) ss (omega arith) h

  same-letters : (ss : List Span) → list_all (ends_within (length ls)) ss ≡ true → map (letters_at new) ss ≡ map (letters_at ls) ss
  same-letters [] h = refl
  same-letters (s ∷ ss) h =
      let parts = and_parts (ends_within (length ls) s) (list_all (ends_within (length ls)) ss) h in
      let same : letters_at new s ≡ letters_at ls s =
      ap (λ zs. take s.count (drop s.start zs)) is ∙ span-front ls name s.start s.count (leb-true (s.start + s.count) (length ls) parts.0) in
      λ k. same k ∷ same-letters ss parts.1 k

  pub names_on : (ss ts : List Span) → ts ≡ ss → list_all (ends_within (length ls)) ss ≡ true → map (letters_at new) ts ≡ map (letters_at ls) ss
  names_on ss ts same h = ap (map (letters_at new)) same ∙ same-letters ss h

  module _ (ss ts : List Span) (s : Span) (more : ts ≡ ss ++ s ∷ []) (start : s.start ≡ length ls) (count : s.count ≡ length name) where
    pub inside_more : list_all (ends_within (length ls)) ss ≡ true → list_all (ends_within (length new)) ts ≡ true
    inside_more h =
        let long = grown in
        ap (list_all (ends_within (length new))) more ∙ list_all-append (ends_within (length new)) ss (s ∷ [])
        ∙ rw (inside_on ss h, le-leb (s.start + s.count) (length new) (omega arith)) refl

    pub names_more : list_all (ends_within (length ls)) ss ≡ true → map (letters_at new) ts ≡ map (letters_at ls) ss ++ name ∷ []
    names_more h =
        let last : letters_at new s ≡ name = span_at_end ls new name s.start s.count is start count in
        ap (map (letters_at new)) more ∙ map-append (letters_at new) ss (s ∷ [])
        ∙ (λ k. same-letters ss h k ++ last k ∷ [])

  -- .. also where the last one may not have been added
  pub inside_if : (b : Bool) (ss ts : List Span) (s : Span) → ts ≡ (if b then ss ++ s ∷ [] else ss) → s.start ≡ length ls → s.count ≡ length name
      → list_all (ends_within (length ls)) ss ≡ true → list_all (ends_within (length new)) ts ≡ true
  inside_if true ss ts s more start count h = inside_more ss ts s more start count h
  inside_if false ss ts s same start count h = ap (list_all (ends_within (length new))) same ∙ inside_on ss h

-- ---- tables that grow

pub grows-same : {t u : Tables} → u.texts.items ≡ t.texts.items → names_of u ≡ names_of t → Grows t u
grows-same {t} {u} ts ns = record {
  texts = [];
  names = [];
  texts_so = ts ∙ sym (append-nil t.texts.items);
  names_so = ns ∙ sym (append-nil (names_of t));
}

pub grows-text : {t u : Tables} (x : List ℕ) → u.texts.items ≡ t.texts.items ++ x ∷ [] → names_of u ≡ names_of t → Grows t u
grows-text {t} {u} x ts ns = record { texts = x ∷ []; names = []; texts_so = ts; names_so = ns ∙ sym (append-nil (names_of t)) }

pub grows-names : {t u : Tables} (xs : List (List ℕ)) → u.texts.items ≡ t.texts.items → names_of u ≡ names_of t ++ xs → Grows t u
grows-names {t} {u} xs ts ns = record { texts = []; names = xs; texts_so = ts ∙ sym (append-nil t.texts.items); names_so = ns }

pub grows-both : {t u v : Tables} → Grows t u → Grows u v → Grows t v
grows-both {t} {u} {v} a b = record {
  texts = a.texts ++ b.texts;
  names = a.names ++ b.names;
  texts_so = b.texts_so ∙ ap (λ xs. xs ++ b.texts) a.texts_so ∙ append_assoc t.texts.items a.texts b.texts;
  names_so = b.names_so ∙ ap (λ xs. xs ++ b.names) a.names_so ∙ append_assoc (names_of t) a.names b.names;
}

pub ruleset growing = (grows-same, grows-text, grows-names, grows-both)

-- ---- places in lists that grow

module _ {A : Type 0} (xs ys more : List A) (is : ys ≡ xs ++ more) where
  longer : length ys ≡ length xs + length more
  longer = ap length is ∙ length-append xs more

  there : (place : ℕ) → nat_lt place (length xs) ≡ true → nat_lt place (length ys) ≡ true
  there place h = let long = longer in let inside = ltb-true place (length xs) h in lt-ltb place (length ys) (omega arith)

  at-place : (d : A) (place : ℕ) → nat_lt place (length xs) ≡ true → get_or ys place d ≡ get_or xs place d
  at-place d place h = ap (λ zs. get_or zs place d) is ∙ get_or_append_left xs more d place (ltb-true place (length xs) h)

  within : (end : ℕ) → nat_le end (length xs) ≡ true → nat_le end (length ys) ≡ true
  within end h = let long = longer in let inside = leb-true end (length xs) h in le-leb end (length ys) (omega arith)

  at-span : (s : Span) → nat_le (s.start + s.count) (length xs) ≡ true → take s.count (drop s.start ys) ≡ take s.count (drop s.start xs)
  at-span s h =
      ap (λ zs. take s.count (drop s.start zs)) is ∙ span-front xs more s.start s.count (leb-true (s.start + s.count) (length xs) h)

pub counted : (t : Tables) → length (names_of t) ≡ length t.spans.items
counted t = length-map t.spans.items (letters_at t.letters.items)

-- what an instruction names there stays
module _ {t u : Tables} (g : Grows t u) where
  there-span : (place : ℕ) → nat_lt place (length t.spans.items) ≡ true → nat_lt place (length u.spans.items) ≡ true
  there-span place h = rw (← counted u) (there (names_of t) (names_of u) g.names g.names_so place (rw (counted t) h))

  within-span : (end : ℕ) → nat_le end (length t.spans.items) ≡ true → nat_le end (length u.spans.items) ≡ true
  within-span end h = rw (← counted u) (within (names_of t) (names_of u) g.names g.names_so end (rw (counted t) h))

  pub fits-on : (j : held.Instruction) → fits t j ≡ true → fits u j ≡ true
  fits-on (i.Put place line) h = there t.texts.items u.texts.items g.texts g.texts_so place h
  fits-on (i.PushText place) h = there-span place h
  fits-on (i.PushFields span) h = within-span (span.start + span.count) h
  fits-on (i.Chain span) h = within-span (span.start + span.count) h
  fits-on (i.ShowFields span line) h = within-span (span.start + span.count) h
  fits-on (i.ShowSlotField slot place line) h = there-span place h
  fits-on (i.RefuseTemplate place) h = there-span place h
  fits-on _ h = h

  same-name : (place : ℕ) → nat_lt place (length t.spans.items) ≡ true → name_at u place ≡ name_at t place
  same-name place h = at-place (names_of t) (names_of u) g.names g.names_so [] place (rw (counted t) h)

  same-names : (s : Span) → nat_le (s.start + s.count) (length t.spans.items) ≡ true → names_in u s ≡ names_in t s
  same-names s h = at-span (names_of t) (names_of u) g.names g.names_so s (rw (counted t) h)

  pub same-on : (j : held.Instruction) → fits t j ≡ true → instruction_of u j ≡ instruction_of t j
  same-on (i.Put place line) h = ap (put line) (at-place t.texts.items u.texts.items g.texts g.texts_so [] place h)
  same-on (i.PushText place) h = ap (λ n. act (push_text n)) (same-name place h)
  same-on (i.PushFields span) h = ap (λ ns. act (push_fields ns)) (same-names span h)
  same-on (i.Chain span) h = ap (λ ns. act (chained ns)) (same-names span h)
  same-on (i.ShowFields span line) h = ap (show_fields line) (same-names span h)
  same-on (i.ShowSlotField slot place line) h = ap (λ n. show_slot line slot (n ∷ [])) (same-name place h)
  same-on (i.RefuseTemplate place) h = ap (λ n. act (refuse (no_template n))) (same-name place h)
  same-on _ h = refl

  pub all-fit : (js : List held.Instruction) → list_all (fits t) js ≡ true → list_all (fits u) js ≡ true
  all-fit [] h = refl
  all-fit (j ∷ js) h =
      let parts = and_parts (fits t j) (list_all (fits t) js) h in
      rw (fits-on j parts.0, all-fit js parts.1) refl

  all-same : (js : List held.Instruction) → list_all (fits t) js ≡ true → map (instruction_of u) js ≡ map (instruction_of t) js
  all-same [] h = refl
  all-same (j ∷ js) h =
      let parts = and_parts (fits t j) (list_all (fits t) js) h in
      λ k. same-on j parts.0 k ∷ all-same js parts.1 k

  pub code-on : (js : List held.Instruction) → list_all (fits t) js ≡ true → code_in u js ≡ code_in t js
  code-on js h = map-back (instruction_of u) js ∙ ap reverse (all-same js h) ∙ sym (map-back (instruction_of t) js)

-- ---- names, one by one

pub next_name : (old was now names : List (List ℕ)) (k : ℕ) (name : List ℕ) → k < length names → name ≡ get_or names k name
    → was ≡ old ++ take k names → now ≡ was ++ name ∷ [] → now ≡ old ++ take (k + 1) names
next_name old was now names k name here is before added =
    added ∙ ap (λ ns. ns ++ name ∷ []) before ∙ append_assoc old (take k names) (name ∷ [])
    ∙ ap (λ ns. old ++ ns) (ap (λ n. take k names ++ n ∷ []) is ∙ sym (take_more names k name here))

-- ---- what was added is at its place

pub at_end : {A : Type 0} (xs ys : List A) (x d : A) (n : ℕ) → ys ≡ xs ++ x ∷ [] → n ≡ length xs → get_or ys n d ≡ x
at_end xs ys x d n is end = (λ j. get_or (is j) (end j) d) ∙ get_or-append_seam xs x [] d

-- an instruction that is put once the tables hold what it names
pub put_over : {T E : Type 0} (r : Result T E) (old mid new : held_code.Code) (j : held.Instruction) (x : Instruction) → Grows old.tables mid.tables
    → mid.instructions.items ≡ old.instructions.items → instruction_of mid.tables j ≡ x → OnOk r (Placed (Pushed (instruction_of mid.tables j)) mid new)
    → OnOk r (Placed (Pushed x) old new)
unfolding code_of
put_over r old mid new j x grows items is =
    let same : code_of mid ≡ code_of old =
    ap (code_in mid.tables) items ∙ code-on grows old.instructions.items old.fitting in
    on_ok_weaker r (λ p. record { code = p.code ∙ (λ k. is k ∷ same k); ends = subst (λ (c : Code). Ends c (code_of new)) same p.ends })
