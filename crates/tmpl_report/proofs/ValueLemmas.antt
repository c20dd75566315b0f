-- For `add_run` and `add_held`: what one more finding adds.
use Rattle.std.proofs.Common.{◌≡◌, ◌∙◌, ◌||◌, inl, inr, ℕ, Bool, true, false, List, [], ◌∷◌, ◌++◌, Some, None, Ok, Err, ap, append_assoc, refl, codes, subst, sym}
use Rattle.std.proofs.lemmas.List.{append-nil}
use Rattle.std.specs.List.{AllByRecursion, list_any}
use Rattle.std.specs.Str.{bytes_eq}
use Rattle.std.proofs.lemmas.Slice.Eq.{bytes_eq-Decides}
use Rattle.tmpl_problems.specs.declared.finding.Level.TheVariants.{Error}
use Rattle.tmpl_problems.specs.Errors.{errors_in}
use Rattle.tmpl_problems.specs.Finding.{Finding, has_error}
use Rattle.tmpl_report.specs.Rendered.{IsOfFault, IsRenderedOver, IsUnfit, fault_by, is_cut, is_limit}
use Rattle.tmpl_report.specs.computed.Added.{AddsFault, AddsFaults, AddsUnfit}
use Rattle.tmpl_report.specs.declared.source.Question.{Question}
use Rattle.tmpl_problems.specs.declared.source.Source.{Source}
use Rattle.tmpl_values.specs.Json.{data_of, Flaw}
use Rattle.tmpl_values.specs.Value.{Value}
use Rattle.tmpl_syntax.specs.Set.{Template}
use Rattle.tmpl_meaning.specs.Fault.{Fault}
use Rattle.tmpl_problems.proofs.ErrorLemmas.{errors_in-append, has_error-append}

either-true : (b : Bool) → (b || true) ≡ true
either-true true = refl
either-true false = refl

-- an error is one more error
pub error-added : (old new : List Finding) (f : Finding) → new ≡ old ++ f ∷ [] → f.level ≡ Error → errors_in new ≡ errors_in old ++ f ∷ []
error-added old new f e is = ap errors_in e ∙ errors_in-append old (f ∷ []) ∙ ap (λ xs. errors_in old ++ xs) (one f is)
  where
    one : (f : Finding) → f.level ≡ Error → errors_in (f ∷ []) ≡ f ∷ []
    one f is = rw is refl

-- .. and there is one
pub error-there : (old new : List Finding) (f : Finding) → new ≡ old ++ f ∷ [] → f.level ≡ Error → has_error new ≡ true
error-there old new f e is = ap has_error e ∙ has_error-append old (f ∷ []) ∙ (rw is (either-true (has_error old)))

any-append : (P : Finding → Bool) (xs : List Finding) (x : Finding) → P x ≡ true → list_any P (xs ++ x ∷ []) ≡ true
any-append P [] x h = rw h refl
any-append P (y ∷ xs) x h = ap (λ b. P y || b) (any-append P xs x h) ∙ either-true (P y)

-- a finding by the rule for runs that met a limit
pub cut-there : (old new : List Finding) (f : Finding) → new ≡ old ++ f ∷ [] → f.rule ≡ codes "not-rendered-whole" → is_cut new ≡ true
cut-there old new f e is =
    ap is_cut e ∙ any-append (λ f. bytes_eq f.rule (codes "not-rendered-whole")) old f ((bytes_eq-Decides f.rule (codes "not-rendered-whole")).1 is)

-- nothing is added, and each of nothing is such
pub none-more : (old new : List Finding) → errors_in new ≡ errors_in old → errors_in new ≡ errors_in old ++ []
none-more old new e = e ∙ sym (append-nil (errors_in old))

-- ---- data that does not conform

pub none-unfit : (found : List Finding) → AddsUnfit found found
none-unfit found = ([], tt, none-more found found refl)

pub one-unfit : (old new : List Finding) (f : Finding) → IsUnfit f → new ≡ old ++ f ∷ [] → AddsUnfit old new
one-unfit old new f is e = (f ∷ [], (is, tt), error-added old new f e is.0)

all-append : (P : Finding → Type 0) (xs ys : List Finding) → AllByRecursion P xs → AllByRecursion P ys → AllByRecursion P (xs ++ ys)
all-append P [] ys h k = k
all-append P (x ∷ xs) ys h k = (h.0, all-append P xs ys h.1 k)

pub more-unfit : (old mid new : List Finding) → AddsUnfit old mid → AddsUnfit mid new → AddsUnfit old new
more-unfit old mid new a b =
    (a.0 ++ b.0, all-append IsUnfit a.0 b.0 a.1 b.1, b.2 ∙ ap (λ xs. xs ++ b.0) a.2 ∙ append_assoc (errors_in old) a.0 b.0)

-- ---- a run over the data

module _ (question : Question) (first : List ℕ) (given : Source) (set : List Template) (found : List Finding) where
  pub rendered-whole : (value : Value) → data_of given.bytes.items ≡ Ok value → fault_by question first set value ≡ None → IsRenderedOver question first given set found
  rendered-whole value has no_fault = λ v is.
      let same : value ≡ v = let both : Ok value ≡ Ok v = sym has ∙ is in cc in inl (subst (λ w. fault_by question first set w ≡ None) same no_fault)

  pub rendered-cut : is_cut found ≡ true → IsRenderedOver question first given set found
  rendered-cut cut = λ v is. inr cut

  pub rendered-refused : (flaw : Flaw) → data_of given.bytes.items ≡ Err flaw → IsRenderedOver question first given set found
  rendered-refused flaw refused = λ v is. absurd (let both : Err flaw ≡ Ok v = sym refused ∙ is in cc)

  -- .. nothing is said where there is an error
  pub whole-unless : has_error found ≡ true → has_error found ≡ false → IsRenderedOver question first given set found
  whole-unless there none = λ v is. absurd (let both : true ≡ false = sym there ∙ none in cc)

pub fault-added : (fault : Fault) (old new : List Finding) (f : Finding) → IsOfFault fault f → new ≡ old ++ f ∷ [] → AddsFault fault old new
fault-added fault old new f is e = (f, is, error-added old new f e is.0)

pub no-faults : (question : Question) (first : List ℕ) (given : Source) (set : List Template) (old new : List Finding) → errors_in new ≡ errors_in old
    → AddsFaults question first given set old new
no-faults question first given set old new e = ([], tt, none-more old new e)

pub one-fault : (question : Question) (first : List ℕ) (given : Source) (set : List Template) (old new : List Finding) (value : Value) (fault : Fault)
    → data_of given.bytes.items ≡ Ok value → fault_by question first set value ≡ Some fault → is_limit fault.cause ≡ false → AddsFault fault old new
    → AddsFaults question first given set old new
one-fault question first given set old new value fault has is limit a = (a.0 ∷ [], ((value, fault, has, is, limit, a.1), tt), a.2)

pub ruleset values = (error-added, error-there, cut-there)

pub ruleset runs = (no-faults, rendered-refused)
