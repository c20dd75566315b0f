-- For `add_output` and `findings_of`: what errors of an output add.
use Rattle.std.proofs.Common.{◌≡◌, ◌∙◌, ◌++◌, ◌∷◌, ◌||◌, ℕ, true, false, List, [], Some, None, ap, append-nil, append_assoc, cond, refl, sym}
use Rattle.std.specs.Borrow.{Bor}
use Rattle.std.specs.List.{AllByRecursion}
use Rattle.tmpl_problems.specs.Errors.{errors_in}
use Rattle.tmpl_report.specs.Errors.{IsNotOfFormat}
use Rattle.tmpl_problems.specs.Finding.{Finding, has_error}
use Rattle.tmpl_problems.specs.Level.{is_error}
use Rattle.tmpl_report.specs.computed.Added.{AddsBroken, AddsOfOutput}
use Rattle.tmpl_problems.specs.declared.finding.Level.{Level}
use Rattle.tmpl_problems.specs.declared.finding.Level.TheVariants.{Error, Warning}
use Rattle.tmpl_report.specs.declared.source.Question.{Question}
use Rattle.tmpl_problems.proofs.ErrorLemmas.{all-more, errors_in-append, found-in, none-after}

pub nothing-broken : (old : List Finding) → AddsBroken old old
nothing-broken old = ([], tt, sym (append-nil old))

pub one-broken : (old new : List Finding) (f : Finding) → IsNotOfFormat f → new ≡ old ++ f ∷ [] → AddsBroken old new
one-broken old new f h e = (f ∷ [], (h, tt), e)

pub broken-more : (old mid new : List Finding) (f : Finding) → AddsBroken old mid → IsNotOfFormat f → new ≡ mid ++ f ∷ [] → AddsBroken old new
broken-more old mid new f a h e = (
  a.0 ++ f ∷ [],
  all-more IsNotOfFormat a.0 f a.1 h,
  e ∙ ap (λ xs. xs ++ f ∷ []) a.2 ∙ append_assoc old a.0 (f ∷ []),
)

errors-of-broken : (fs : List Finding) → AllByRecursion IsNotOfFormat fs → errors_in fs ≡ fs
errors-of-broken [] h = refl
errors-of-broken (f ∷ fs) h = by f.level h.0.0 (errors-of-broken fs h.1)
  where
    by : (l : Level) → l ≡ Error → errors_in fs ≡ fs → cond (is_error l) (f ∷ errors_in fs) (errors_in fs) ≡ f ∷ fs
    by Error e r = ap (λ xs. f ∷ xs) r
    by Warning e r = cc

none-broken : (fs : List Finding) → AllByRecursion IsNotOfFormat fs → has_error fs ≡ false → fs ≡ []
none-broken [] h n = refl
none-broken (f ∷ fs) h n = by f.level h.0.0 n
  where
    by : (l : Level) → l ≡ Error → (is_error l || has_error fs) ≡ false → f ∷ fs ≡ []
    by Error e n = cc
    by Warning e n = cc

module _ (question : Question) (old new : List Finding) (a : AddsOfOutput question old new) where
  pub output-told : errors_in new ≡ errors_in old ++ a.0
  output-told = ap errors_in a.2 ∙ errors_in-append old a.0 ∙ ap (λ xs. errors_in old ++ xs) (errors-of-broken a.0 a.1.2)

  pub as-before : has_error new ≡ false → new ≡ old
  as-before none =
      a.2 ∙ ap (λ xs. old ++ xs) (none-broken a.0 a.1.2 (none-after old new a.0 output-told none)) ∙ append-nil old

pub of-output : (question : Question) (word : Bor (List ℕ)) (old new : List Finding) → question.writes ≡ Some word → has_error old ≡ false → AddsBroken old new
    → AddsOfOutput question old new
of-output question word old new is none a = (
  a.0,
  (
    (λ h. absurd (let both : Some word ≡ None = sym is ∙ h in cc)),
    (λ h. absurd (let both : true ≡ false = sym h ∙ found-in old ∙ none in cc)),
    a.1,
  ),
  a.2,
)
