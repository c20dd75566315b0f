-- For `check_each`: the status of a check of the files that are left, after some.
use Rattle.std.proofs.Common.{◌≡◌, ◌∙◌, ◌+◌, ◌<◌, add-one, drop, get_or, subst, ℕ, Bool, true, false, List, [], ◌∷◌, Ok, Err, refl, sym, ap, length, map, take}
use Rattle.std.specs.Prelude.{eqb, is_ok, if◌then◌else◌}
use Rattle.std.proofs.Math.Dec.{eqb-suc-zero}
use Rattle.std.proofs.Math.Seq.{drop-cons}
use Rattle.std.proofs.lemmas.Bool.{false_from_ne_true}
use Rattle.std.proofs.lemmas.Str.{IsUtf8-from_is_utf8, is_utf8-from_IsUtf8}
use Rattle.std.specs.List.{list_all}
use Rattle.std.specs.Str.{IsUtf8, is_utf8}
use Rattle.tmpl_syntax.specs.Parse.{Refusal}
use Rattle.tmpl_syntax.specs.Set.{Template}
use Rattle.tmpl_syntax.specs.computed.Parse.{parsed}
use Rattle.tmpl_syntax.specs.declared.refused.Refused.{Refused}
use Rattle.tmpl_syntax.proofs.ReadingLemmas.{has-one-outcome, has-outcome}
use Rattle.tmpl_syntax.specs.Examine.{Examined}
use Rattle.tmpl_problems.specs.Checked.{most, refused_in}
use Rattle.tmpl_problems.specs.declared.problem.Problem.{Problem}
use Rattle.tmpl_tool.specs.Source.{Bytes}
use Rattle.tmpl_c.specs.Passed.{each_added, pair_of, pairs_of}
use Rattle.tmpl_c.specs.computed.Load.{status_after}
use Rattle.tmpl_c.specs.declared.passed.File.{File}

-- nothing is refused of a file, or something is
pub none_after : {T : Type 0} (code n : ℕ) (mistakes : List T) → length mistakes ≡ n → true ≡ eqb n 0 → code ≡ status_after code mistakes
none_after code n mistakes same is = rw (same, sym is) refl

pub four_after : {T : Type 0} (code n : ℕ) (mistakes : List T) → length mistakes ≡ n → false ≡ eqb n 0 → 4 ≡ status_after code mistakes
four_after code n mistakes same is = rw (same, sym is) refl

-- that of the files that are left, where those before them made this set and come to this status
abbrev pub status_from : ℕ → List Template → List (Bytes × Bytes) → ℕ
status_from code set files =
    if list_all (λ f. is_utf8 f.0) files then (if is_ok (each_added parsed set files) then code else 4) else 2

some_after : {T : Type 0} (code : ℕ) (x : T) (xs : List T) → status_after code (x ∷ xs) ≡ 4
some_after code x xs = rw (eqb-suc-zero (length xs)) refl

-- something is reported where something is refused
same_after : (code : ℕ) (all : List Refused) (problems : List Problem) → map refused_in problems ≡ take most all
    → status_after code all ≡ status_after code problems
same_after code [] [] e = refl
same_after code [] (p ∷ ps) e = cc
same_after code (r ∷ rs) [] e = cc
same_after code (r ∷ rs) (p ∷ ps) e = some_after code r rs ∙ sym (some_after code p ps)

always_four : (b : Bool) → ◌≡◌ {A = ℕ} (if b then 4 else 4) 4
always_four true = refl
always_four false = refl

module _ (code : ℕ) (old : List Template) (f : Bytes × Bytes) (fs : List (Bytes × Bytes)) where
  -- a name that is no text
  no_text : is_utf8 f.0 ≡ false → status_from code old (f ∷ fs) ≡ 2
  no_text is = rw is refl

  module _ (is : is_utf8 f.0 ≡ true) where
    accepted : (new : List Template) → parsed old f.0 f.1 ≡ Ok new → status_from code old (f ∷ fs) ≡ status_from code new fs
    accepted new made = rw (is, made) refl

    refused : (r : Refusal) → parsed old f.0 f.1 ≡ Err r → status_from code old (f ∷ fs) ≡ status_from 4 old fs
    refused r fails = rw (is, fails, always_four (is_ok (each_added parsed old fs))) refl

    -- a file of which this is refused
    examined : (new : List Template) (rs : List Refused) → Examined old f.0 f.1 new rs
        → status_from code old (f ∷ fs) ≡ status_from (status_after code rs) new fs
    examined new [] parses = accepted new (has-one-outcome old f.0 f.1 (parsed old f.0 f.1) (Ok new) (has-outcome old f.0 f.1) parses)
    examined new (r ∷ rs) (same, why, reason, parses, rest) =
        refused (r.line, why) (has-one-outcome old f.0 f.1 (parsed old f.0 f.1) (Err (r.line, why)) (has-outcome old f.0 f.1) parses)
        ∙ ap (λ (set : List Template). status_from 4 set fs) (sym same)
        ∙ ap (λ n. status_from n new fs) (sym (some_after code r rs))

    -- .. with what is reported of it
    goes_on : (new : List Template) (all : List Refused) (problems : List Problem) (status : ℕ) → Examined old f.0 f.1 new all
        → map refused_in problems ≡ take most all → status ≡ status_after code problems
        → status_from code old (f ∷ fs) ≡ status_from status new fs
    goes_on new all problems status examined_so first is =
        examined new all examined_so
        ∙ ap (λ n. status_from n new fs) (same_after code all problems first)
        ∙ ap (λ n. status_from n new fs) (sym is)

-- the file at a place, and those after it
module _ (code : ℕ) (old : List Template) (files : List File) (i : ℕ) (d : File) (here : i < length files) where
  abbrev this : File
  this = get_or files i d

  left : pairs_of (drop i files) ≡ pair_of this ∷ pairs_of (drop (i + 1) files)
  left = ap pairs_of (drop-cons files i d here) ∙ ap (λ n. pair_of this ∷ pairs_of (drop n files)) (sym (add-one i))

  pub no_text_at : (IsUtf8 this.name.now → ⊥) → status_from code old (pairs_of (drop i files)) ≡ 2
  no_text_at fails =
      ap (status_from code old) left
      ∙ no_text code old (pair_of this) (pairs_of (drop (i + 1) files)) (false_from_ne_true _ (λ e. fails (IsUtf8-from_is_utf8 _ e)))

  pub goes_on_at : (name : Bytes) → name ≡ this.name.now → IsUtf8 this.name.now → (new : List Template) (all : List Refused)
      (problems : List Problem) (status : ℕ) → Examined old name this.bytes.now new all → map refused_in problems ≡ take most all
      → status ≡ status_after code problems
      → status_from code old (pairs_of (drop i files)) ≡ status_from status new (pairs_of (drop (i + 1) files))
  goes_on_at name same is new all problems status examined first comes =
      ap (status_from code old) left
      ∙ goes_on code old (pair_of this) (pairs_of (drop (i + 1) files)) (is_utf8-from_IsUtf8 this.name.now is) new all problems status
      (subst (λ (n : Bytes). Examined old n this.bytes.now new all) same examined) first comes
