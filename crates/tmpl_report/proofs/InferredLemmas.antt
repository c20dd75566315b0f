-- For `infer_from`: what is read of files, and what is told of them.
use Rattle.std.proofs.Common.{◌≡◌, inl, inr, ◌++◌, ◌<◌, ◌+◌, ℕ, zero, suc, true, false, List, [], ◌∷◌, length, take, get_or, map, Option, Some, None, IfSome, Ok, ok_or, refl, sym, subst, ap, ◌∙◌, arith}
use Rattle.std.proofs.Common.{Any}
use Rattle.std.specs.List.{AllByRecursion}
use Rattle.std.proofs.lemmas.List.{take_more}
use Rattle.serde_json.specs.Data.{Data}
use Rattle.serde_json.specs.View.{view}
use Rattle.serde_json.specs.declared.value.Value.{Value}
use Rattle.tmpl_values.specs.Json.{tree_value, data_of, not_json, not_whole}
use Rattle.tmpl_values.specs.Stage.{and_then}
use Rattle.tmpl_values.specs.Value as value
use Rattle.std.specs.Borrow.{Bor}
use Rattle.tmpl_json_schema.specs.Inferred.{Conforms}
use Rattle.tmpl_json_schema.specs.Document.{ConformsTo, document_of, IsOfSchema}
use Rattle.tmpl_problems.specs.Finding.{Finding, has_error}
use Rattle.tmpl_problems.specs.declared.source.Source.{Source}
use Rattle.tmpl_report.specs.computed.Inferred.{IsSampleOf, HasNoValue, AddsSample, AreSamplesOf, AreRead}

-- ---- one file

whole : (o : Option value.Value) (v : value.Value) → ok_or o not_whole ≡ Ok v → o ≡ Some v
whole None v e = cc
whole (Some w) v e = cc

-- the JSON value of bytes that have a value has that value
tree_there : (o : Option Data) (v : value.Value) → and_then (ok_or o not_json) (λ d. ok_or (tree_value d) not_whole) ≡ Ok v
    → (d : Data) × (o ≡ Some d) × (tree_value d ≡ Some v)
tree_there None v e = cc
tree_there (Some d) v e = (d, refl, whole (tree_value d) v e)

-- ---- several files

any-here : (P : Source → Type 0) (files : List Source) (file : Source) → P file → Any P (files ++ file ∷ [])
any-here P [] file p = (0, file, omega arith, refl, p)
any-here P (f ∷ files) file p = let rest = any-here P files file p in (suc rest.0, rest.1, omega (arith, rest.2), rest.3, rest.4)

any-left : (P : Source → Type 0) (files more : List Source) → Any P files → Any P (files ++ more)
any-left P [] more h = absurd (omega (arith, h.2))
any-left P (f ∷ files) more (zero, x, l, is, p) = (0, x, omega arith, is, p)
any-left P (f ∷ files) more (suc k, x, l, is, p) = let rest = any-left P files more (k, x, omega arith, is, p) in (suc rest.0, rest.1, omega (arith, rest.2), rest.3, rest.4)

samples-more : (files : List Source) (samples : List Value) (file : Source) (sample : Value) → AreSamplesOf files samples → IsSampleOf file sample
    → AreSamplesOf (files ++ file ∷ []) (samples ++ sample ∷ [])
samples-more [] [] file sample h is = (is, tt)
samples-more [] (s ∷ samples) file sample h is = absurd h
samples-more (f ∷ files) [] file sample h is = absurd h
samples-more (f ∷ files) (s ∷ samples) file sample h is = (h.0, samples-more files samples file sample h.1 is)

read-more : (files : List Source) (file : Source) (old new : List Finding) (before after : List Value) → AreRead files old before
    → AddsSample file old new before after → AreRead (files ++ file ∷ []) new after
read-more files file old new before after (inl h) (inl a) =
    let added = a.2 in
    inl (a.3 ∙ h.0, subst (AreSamplesOf (files ++ file ∷ [])) (sym added) (samples-more files before file a.0 h.1 a.1))
read-more files file old new before after (inr h) (inl a) = inr (a.3 ∙ h.0, any-left HasNoValue files (file ∷ []) h.1)
read-more files file old new before after h (inr a) = inr (a.1, any-here HasNoValue files file a.0)

pub read-next : (files : List Source) (i : ℕ) (file : Source) (old new : List Finding) (before after : List Value) → i < length files → file ≡ get_or files i file
    → AreRead (take i files) old before → AddsSample file old new before after → AreRead (take (i + 1) files) new after
read-next files i file old new before after within is h a =
    let parts : take (i + 1) files ≡ take i files ++ file ∷ [] = take_more files i file within ∙ ap (λ (f : Source). take i files ++ f ∷ []) (sym is) in
    subst (λ fs. AreRead fs new after) (sym parts) (read-more (take i files) file old new before after h a)

-- ---- what is told

samples-conform : (text : List ℕ) (files : List Source) (samples : List Value) → AreSamplesOf files samples
    → AllByRecursion (λ (s : Value). IfSome (tree_value (view s)) (ConformsTo text)) samples
    → AllByRecursion (λ (file : Source). (v : value.Value) × (data_of file.bytes.items ≡ Ok v) × ConformsTo text v) files
samples-conform text [] samples h all = tt
samples-conform text (f ∷ files) [] h all = absurd h
samples-conform text (f ∷ files) (s ∷ samples) h all =
    (let is = h.0.2 in (h.0.0, h.0.1, (rw is at all.0)), samples-conform text files samples h.1 all.1)

pub files-conform : (text : List ℕ) (files : List Source) (found : List Finding) (samples : List Value) → AreRead files found samples → has_error found ≡ false
    → AllByRecursion (λ (s : Value). IfSome (tree_value (view s)) (ConformsTo text)) samples
    → AllByRecursion (λ (file : Source). (v : value.Value) × (data_of file.bytes.items ≡ Ok v) × ConformsTo text v) files
files-conform text files found samples (inl h) none all = samples-conform text files samples h.1 all
files-conform text files found samples (inr h) none all = let some = h.0 in cc

pub files-refused : (files : List Source) (found : List Finding) (samples : List Value) → AreRead files found samples → has_error found ≡ true → Any HasNoValue files
files-refused files found samples (inl h) some = let none = h.0 in cc
files-refused files found samples (inr h) some = h.1

-- ---- the text of a schema

pub samples-told : (text : List ℕ) (root : Data) (lent : List (Bor Value)) → document_of text ≡ Some root
    → AllByRecursion (λ (s : Bor Value). Conforms root (view s.now)) lent
    → AllByRecursion (λ (s : Value). IfSome (tree_value (view s)) (ConformsTo text)) (map (λ (s : Bor Value). s.now) lent)
samples-told text root [] e h = tt
samples-told text root (s ∷ lent) e h = (by (tree_value (view s.now)) h.0, samples-told text root lent e h.1)
  where
    by : (o : Option value.Value) → IfSome o (IsOfSchema root) → IfSome o (ConformsTo text)
    by None h = tt
    by (Some v) h = (root, e, h)
