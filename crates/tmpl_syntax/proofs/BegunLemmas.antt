-- Where items begin: one more of them, one of them, and what is refused of it.
use Rattle.std.proofs.Common.{arith, ◌≡◌, ◌≤◌, ◌<◌, ◌+◌, ℕ, zero, suc, All, List, [], ◌∷◌, ◌++◌, sym, subst, length, get_or}
use Rattle.std.proofs.Common.{Option, Some}
use Rattle.std.proofs.lemmas.List.Elements.{All-append, All-cons, All-nil}
use Rattle.tmpl_lex.specs.Begin.{BeginsAt}
use Rattle.tmpl_syntax.specs.Examine.{StartsAt}
use Rattle.tmpl_syntax.specs.Fault.{Reason}
use Rattle.tmpl_syntax.specs.Place.Role.{Name, role_of}
use Rattle.tmpl_syntax.specs.computed.Begun.{AllFrom, IsBegun, IsBegunAs, IsSited, IsStarted}
use Rattle.tmpl_syntax.specs.computed.Frames.{Frame, fault_at}
use Rattle.tmpl_syntax.specs.computed.View.{item_of}
use Rattle.tmpl_syntax.specs.declared.fault.ParseKind.{ParseKind}
use Rattle.tmpl_syntax.specs.declared.fault.ParseKind.TheVariants as kind
use Rattle.tmpl_syntax.specs.declared.found.Found.{Found}
use Rattle.tmpl_syntax.specs.declared.item.Item.{Item}
use Rattle.tmpl_syntax.specs.declared.item.ItemKind.{ItemKind}
use Rattle.tmpl_syntax.specs.declared.item.ItemKind.TheVariants as held
use Rattle.tmpl_syntax.specs.declared.site.Site.{Site}
use Rattle.tmpl_syntax.proofs.BeginLemmas.{begins-within}
use Rattle.tmpl_syntax.proofs.SecondStartLemmas.{second-within}

-- ---- within the file

pub starts_within : (bs : List ℕ) (why : ParseKind) (place at : ℕ) → StartsAt bs why place at → at ≤ length bs
starts_within bs kind.Unreadable place at b = begins-within bs place at b
starts_within bs kind.NotAnAction place at b = begins-within bs place at b
starts_within bs kind.OutOfPlace place at b = begins-within bs place at b
starts_within bs kind.NestedTooDeeply place at b = begins-within bs place at b
starts_within bs kind.UndeclaredVariable place at b = begins-within bs place at b
starts_within bs kind.OpenAtEnd place at b = omega (arith, b)
starts_within bs kind.TooLong place at b = omega (arith, b)
starts_within bs kind.SecondDefinition place at b = second-within bs at b
starts_within bs kind.OutOfMemory place at b = absurd b

pub started_within : (bs : List ℕ) (f : Found) → IsStarted bs f → f.start ≤ length bs
started_within bs f b = starts_within bs f.kind f.place f.start b

-- ---- items one after the other

all-more : {A : Type 0} (P : ℕ → A → Type 0) (n : ℕ) (xs : List A) (x : A) → AllFrom P n xs → P (n + length xs) x → AllFrom P n (xs ++ x ∷ [])
all-more P n [] x all is = (subst (λ i. P i x) (omega arith) is, tt)
all-more P n (y ∷ ys) x all is = (all.0, all-more P (n + 1) ys x all.1 (subst (λ i. P i x) (omega arith) is))

pub one-more : {A : Type 0} (P : ℕ → A → Type 0) (old new : List A) (x : A) → new ≡ old ++ x ∷ [] → AllFrom P 0 old → P (length old) x → AllFrom P 0 new
one-more P old new x n all is = subst (AllFrom P 0) (sym n) (all-more P 0 old x all (subst (λ k. P k x) (omega arith) is))

-- .. and so where it does not matter which one it is
pub each-more : {A : Type 0} (P : A → Type 0) (old new : List A) (x : A) → new ≡ old ++ x ∷ [] → All P old → P x → All P new
each-more P old new x n all is = subst (All P) (sym n) (All-append P old (x ∷ []) all (All-cons P x [] is (All-nil P)))

all-at : {A : Type 0} (P : ℕ → A → Type 0) (n : ℕ) (xs : List A) (i : ℕ) (x : A) → AllFrom P n xs → i < length xs → x ≡ get_or xs i x → P (n + i) x
all-at P n [] i x all lt is = absurd (omega (arith, lt))
all-at P n (y ∷ ys) zero x all lt is = subst (λ k. P k x) (omega arith) (subst (P n) (sym is) all.0)
all-at P n (y ∷ ys) (suc i) x all lt is = subst (λ k. P k x) (omega arith) (all-at P (n + 1) ys i x all.1 (omega (arith, lt)) is)

pub sited-at : (file : List ℕ) (sites : List Site) (i : ℕ) (x : Site) → AllFrom (IsSited file) 0 sites → i < length sites → x ≡ get_or sites i x
    → IsSited file i x
sited-at file sites i x all lt is = subst (λ k. IsSited file k x) (omega arith) (all-at (IsSited file) 0 sites i x all lt is)

-- ---- what is refused

-- no text is refused
refused-as : (file : List ℕ) (line : ℕ) (what : ItemKind) (place at : ℕ) (top : Option Frame) (names : List Name) (why : Reason)
    → fault_at (role_of (item_of (record { line = line; start = at; what = what }))) top names ≡ Some why → IsBegunAs file what place at → BeginsAt file place at
refused-as file line (held.Text text) place at top names why e b = absurd (let none = e in cc)
refused-as file line held.Unreadable place at top names why e b = b
refused-as file line held.Unread place at top names why e b = b
refused-as file line (held.TooDeep branch) place at top names why e b = b
refused-as file line (held.Action a) place at top names why e b = b

pub refused-begins : (file : List ℕ) (place : ℕ) (x : Item) (top : Option Frame) (names : List Name) (why : Reason)
    → fault_at (role_of (item_of x)) top names ≡ Some why → IsBegun file place x → BeginsAt file place x.start
refused-begins file place x top names why e b = refused-as file x.line x.what place x.start top names why e b

-- one of what is refused
pub started-at : (bytes : List ℕ) (all : List Found) (i : ℕ) (f : Found) → All (IsStarted bytes) all → i < length all → f ≡ get_or all i f
    → IsStarted bytes f
started-at bytes all i f each lt is = subst (IsStarted bytes) (sym is) (each i f lt)
