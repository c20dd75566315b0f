-- The errors among what is found, those of one more file, and those of data.
use Rattle.std.proofs.Common.{◌≡◌, ◌==◌, ◌∙◌, ◌++◌, ◌||◌, Bool, true, false, ℕ, List, [], ◌∷◌, Option, Some, None, ap, append-nil, append_assoc, arith, cond, if◌then◌else◌, is_none, map, not, refl, subst, sym}
use Rattle.std.specs.Prelude.{codes}
use Rattle.std.specs.List.{AllByRecursion}
use Rattle.std.proofs.lemmas.Grind.{common_steps}
use Rattle.std.proofs.lemmas.List.Elements.{filter-append}
use Rattle.tmpl_syntax.specs.Set.{Template}
use Rattle.tmpl_problems.specs.Judged.{words_for}
use Rattle.tmpl_problems.specs.Line.{left_words, reason_with}
use Rattle.tmpl_problems.specs.declared.data_check.DataReason.{DataReason}
use Rattle.tmpl_problems.specs.declared.problem.Problem.{Problem}
use Rattle.tmpl_problems.specs.declared.problem.Problems.{Problems}
use Rattle.tmpl_problems.specs.declared.source.Source.{Source}
use Rattle.tmpl_problems.specs.declared.finding.Level.{Level}
use Rattle.tmpl_problems.specs.declared.finding.Level.TheVariants.{Error, Warning}
use Rattle.tmpl_problems.specs.Errors.{AreOfFile, AreOfFiles, AreOfReason, IsOfReason, data_rule_for, error_at, error_of, errors_in, errors_of, left_in}
use Rattle.tmpl_problems.specs.Finding.{Finding, has_error}
use Rattle.tmpl_problems.specs.Level.{is_error}
use Rattle.tmpl_problems.specs.computed.Added.{AddsOfReason, HasMore}

pub errors_in-append : (xs ys : List Finding) → errors_in (xs ++ ys) ≡ errors_in xs ++ errors_in ys
errors_in-append xs ys = filter-append (λ f. is_error f.level) xs ys

some : List Finding → Bool
some [] = false
some (x ∷ xs) = true

some_error : (xs : List Finding) → has_error xs ≡ some (errors_in xs)
unfolding some
some_error [] = refl
some_error (x ∷ xs) = by (is_error x.level) (some_error xs)
  where
    by : (b : Bool) → has_error xs ≡ some (errors_in xs) → (b || has_error xs) ≡ some (cond b (x ∷ errors_in xs) (errors_in xs))
    by true e = refl
    by false e = e

pub has_error-by : (xs ys : List Finding) → errors_in xs ≡ errors_in ys → has_error xs ≡ has_error ys
has_error-by xs ys e = some_error xs ∙ ap some e ∙ sym (some_error ys)

-- an error stays, and one that is added is there
pub has_error-append : (xs ys : List Finding) → has_error (xs ++ ys) ≡ (has_error xs || has_error ys)
has_error-append [] ys = refl
has_error-append (x ∷ xs) ys = by (is_error x.level) (has_error-append xs ys)
  where
    by : (b : Bool) → has_error (xs ++ ys) ≡ (has_error xs || has_error ys) → (b || has_error (xs ++ ys)) ≡ ((b || has_error xs) || has_error ys)
    by true e = refl
    by false e = e

pub error_stays : (xs ys : List Finding) → has_error xs ≡ true → has_error (xs ++ ys) ≡ true
error_stays xs ys h = has_error-append xs ys ∙ ap (λ b. b || has_error ys) h

or-true : (b : Bool) → (b || true) ≡ true
or-true true = refl
or-true false = refl

all_errors : (file : List ℕ) (ps : List Problem) → errors_in (map (error_of file) ps) ≡ map (error_of file) ps
all_errors file [] = refl
all_errors file (p ∷ ps) = ap (λ xs. error_of file p ∷ xs) (all_errors file ps)

left_errors : (file : List ℕ) (left : ℕ) → errors_in (left_in file left) ≡ left_in file left
left_errors file left = by (left == 0) (codes "too-many-errors") (left_words left)
  where
    by : (b : Bool) (rule text : List ℕ) → errors_in (if b then [] else error_at file (1, 1) rule text ∷ []) ≡ (if b then [] else error_at file (1, 1) rule text ∷ [])
    by true rule text = refl
    by false rule text = refl

pub errors_in-errors_of : (file : List ℕ) (all : Problems) → errors_in (errors_of file all) ≡ errors_of file all
errors_in-errors_of file all =
    let refused = map (error_of file) all.refused.items in
    let beyond = map (error_of file) all.beyond.items in
    let left = left_in file all.left in
    errors_in-append refused (beyond ++ left)
    ∙ ap (λ xs. xs ++ errors_in (beyond ++ left)) (all_errors file all.refused.items)
    ∙ ap (λ ys. refused ++ ys) (errors_in-append beyond left)
    ∙ ap (λ ys. refused ++ (ys ++ errors_in left)) (all_errors file all.beyond.items)
    ∙ ap (λ ys. refused ++ (beyond ++ ys)) (left_errors file all.left)

-- the errors of one more file
pub of_more : (old mid new : List Template) (files : List Source) (file : Source) (errors here : List Finding)
    → AreOfFiles old files mid errors → AreOfFile mid file new here → AreOfFiles old (files ++ file ∷ []) new (errors ++ here)
of_more old mid new [] file errors here a p =
    (new, here, [], rw a.1 (sym (append-nil here)), rw a.0 at p, (refl, refl))
of_more old mid new (f ∷ files) file errors here a p =
    (a.0, a.1, a.2 ++ here, rw a.3 (append_assoc a.1 a.2 here), a.4, of_more a.0 mid new files file a.2 here a.5 p)

-- what is added is errors alone
pub told_more : (before after : List Finding) (old new : List Template) (file : Source) (here : List Finding)
    → AreOfFile old file new here → after ≡ before ++ here → errors_in after ≡ errors_in before ++ here
told_more before after old new file here p e =
    ap errors_in e ∙ errors_in-append before here
    ∙ ap (λ xs. errors_in before ++ xs) (ap errors_in p.2 ∙ errors_in-errors_of file.name.now p.1 ∙ sym p.2)

-- ---- more errors

pub found-in : (xs : List Finding) → has_error (errors_in xs) ≡ has_error xs
found-in [] = refl
found-in (x ∷ xs) = by (is_error x.level) refl (found-in xs)
  where
    by : (b : Bool) → is_error x.level ≡ b → has_error (errors_in xs) ≡ has_error xs
        → has_error (cond b (x ∷ errors_in xs) (errors_in xs)) ≡ (b || has_error xs)
    by true e r = ap (λ b. b || has_error (errors_in xs)) e
    by false e r = r

pub more-none : (xs : List Finding) → HasMore xs xs
more-none xs = ([], sym (append-nil (errors_in xs)))

pub more-same : (old new : List Finding) → errors_in new ≡ errors_in old → HasMore old new
more-same old new e = ([], e ∙ sym (append-nil (errors_in old)))

pub more-added : (old new here : List Finding) → new ≡ old ++ here → HasMore old new
more-added old new here e = (errors_in here, ap errors_in e ∙ errors_in-append old here)

pub more-then : (old mid new : List Finding) → HasMore old mid → HasMore mid new → HasMore old new
more-then old mid new a b = (a.0 ++ b.0, b.1 ∙ ap (λ xs. xs ++ b.0) a.1 ∙ append_assoc (errors_in old) a.0 b.0)

pub left-false : (a b : Bool) → (a || b) ≡ false → a ≡ false
left-false true b e = cc
left-false false b e = refl

pub right-false : (a b : Bool) → (a || b) ≡ false → b ≡ false
right-false true b e = cc
right-false false b e = e

none-of : (old new more : List Finding) → errors_in new ≡ errors_in old ++ more → has_error new ≡ false → (has_error old || has_error more) ≡ false
none-of old new more e h =
    ap (λ b. b || has_error more) (sym (found-in old)) ∙ sym (has_error-append (errors_in old) more) ∙ ap has_error (sym e) ∙ found-in new ∙ h

pub none-before : (old new more : List Finding) → errors_in new ≡ errors_in old ++ more → has_error new ≡ false → has_error old ≡ false
none-before old new more e h = left-false (has_error old) (has_error more) (none-of old new more e h)

pub none-after : (old new more : List Finding) → errors_in new ≡ errors_in old ++ more → has_error new ≡ false → has_error more ≡ false
none-after old new more e h = right-false (has_error old) (has_error more) (none-of old new more e h)

-- ---- errors of data

pub all-more : (P : Finding → Type 0) (xs : List Finding) (x : Finding) → AllByRecursion P xs → P x → AllByRecursion P (xs ++ x ∷ [])
all-more P [] x h p = (p, tt)
all-more P (y ∷ ys) x h p = (h.0, all-more P ys x h.1 p)

pub reason-first : (file : List ℕ) (why : DataReason) (old new : List Finding) (f : Finding) → IsOfReason file why f → new ≡ old ++ f ∷ []
    → AddsOfReason file why old new
reason-first file why old new f h e = (f ∷ [], (ap (λ l. is_error l || false) h.1, (h, tt)), e)

pub reason-more : (file : List ℕ) (why : DataReason) (old mid new : List Finding) (f : Finding) → AddsOfReason file why old mid → IsOfReason file why f
    → new ≡ mid ++ f ∷ [] → AddsOfReason file why old new
reason-more file why old mid new f a h e = (
  a.0 ++ f ∷ [],
  (error_stays a.0 (f ∷ []) a.1.0, all-more (IsOfReason file why) a.0 f a.1.1 h),
  e ∙ ap (λ xs. xs ++ f ∷ []) a.2 ∙ append_assoc old a.0 (f ∷ []),
)

of-reason-errors : (file : List ℕ) (why : DataReason) (fs : List Finding) → AllByRecursion (IsOfReason file why) fs → errors_in fs ≡ fs
of-reason-errors file why [] h = refl
of-reason-errors file why (f ∷ fs) h = by f.level h.0.1 (of-reason-errors file why fs h.1)
  where
    by : (l : Level) → l ≡ Error → errors_in fs ≡ fs → cond (is_error l) (f ∷ errors_in fs) (errors_in fs) ≡ f ∷ fs
    by Error e r = ap (λ xs. f ∷ xs) r
    by Warning e r = cc

of-reason-in : (file : List ℕ) (why : Option DataReason) (errors : List Finding) → AreOfReason file why errors → errors_in errors ≡ errors
of-reason-in file None errors h = ap errors_in h ∙ sym h
of-reason-in file (Some why) errors h = of-reason-errors file why errors h.1

pub data-told : (old mid new : List Finding) (file : List ℕ) (why : Option DataReason) (errors : List Finding) → AreOfReason file why errors
    → mid ≡ old ++ errors → errors_in new ≡ errors_in mid → errors_in new ≡ errors_in old ++ errors
data-told old mid new file why errors h a w =
    w ∙ ap errors_in a ∙ errors_in-append old errors ∙ ap (λ xs. errors_in old ++ xs) (of-reason-in file why errors h)

or-false : (b : Bool) → (b || false) ≡ b
or-false true = refl
or-false false = refl

pub data-found : (old mid new : List Finding) (file : List ℕ) (why : Option DataReason) (errors : List Finding) (accepted : Bool)
    → AreOfReason file why errors → mid ≡ old ++ errors → errors_in new ≡ errors_in mid → accepted ≡ is_none why
    → has_error new ≡ (if accepted then has_error old else true)
data-found old mid new file why errors accepted h a w e =
    has_error-by new mid w ∙ ap has_error a ∙ has_error-append old errors ∙ by why h accepted e
  where
    by : (o : Option DataReason) → AreOfReason file o errors → (b : Bool) → b ≡ is_none o
        → (has_error old || has_error errors) ≡ (if b then has_error old else true)
    by None h true e = ap (λ xs. has_error old || has_error xs) h ∙ or-false (has_error old)
    by None h false e = cc
    by (Some w) h true e = cc
    by (Some w) h false e = ap (λ b. has_error old || b) h.0 ∙ or-true (has_error old)

pub turned : (b c : Bool) → b ≡ not c → c ≡ not b
turned true true e = cc
turned true false e = refl
turned false true e = refl
turned false false e = cc

pub ruleset more = (more-none, more-same)

pub of-reason : (file : List ℕ) (place : ℕ × ℕ) (why : DataReason) (f : Finding) (rule text words detail : List ℕ)
    → f ≡ error_at file place rule text → rule ≡ data_rule_for why → text ≡ reason_with words detail → words ≡ words_for why
    → IsOfReason file why f
of-reason file place why f rule text words detail is by told of =
    subst (IsOfReason file why) (sym is) (refl, refl, by, (detail, told ∙ ap (λ w. reason_with w detail) of))

is_some : (left : ℕ) → (left ≡ 0 → ⊥) → (left == 0) ≡ false
is_some left none = grind (arith, common_steps)

pub left-added : (old new : List Finding) (file : List ℕ) (left : ℕ) (f : Finding) (text : List ℕ) → (left ≡ 0 → ⊥)
    → f ≡ error_at file (1, 1) (codes "too-many-errors") text → text ≡ left_words left → new ≡ old ++ f ∷ []
    → new ≡ old ++ left_in file left
left-added old new file left f text none is said added =
    added ∙ ap (λ g. old ++ g ∷ []) (is ∙ ap (λ t. error_at file (1, 1) (codes "too-many-errors") t) said)
    ∙ ap (λ b. old ++ (if b then [] else error_at file (1, 1) (codes "too-many-errors") (left_words left) ∷ [])) (sym (is_some left none))
