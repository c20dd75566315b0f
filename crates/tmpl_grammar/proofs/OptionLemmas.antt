-- For the laws of this crate: options and what holds of their values, which each step of a reading gives.
use Rattle.std.proofs.Common.{◌≡◌, Option, Some, None, IfSome, refl, subst, option_map, option_and_then}
use Rattle.tmpl_grammar.specs.Laws.{IsAdmitted}

pub no-value : {A B : Type 0} (x : A) → None ≡ Some x → B
no-value x e = absurd (cc)

-- of a value that is known, by what is computed
pub told : {A : Type 0} (P : A → Type 0) (o : Option A) → ((x : A) → o ≡ Some x → P x) → IfSome o P
told P None f = tt
told P (Some x) f = f x refl

pub mapped : {A B : Type 0} (f : A → B) {P : A → Type 0} (Q : B → Type 0) (o : Option A) → IfSome o P → ((x : A) → P x → Q (f x)) → IfSome (option_map f o) Q
mapped f Q None h g = tt
mapped f Q (Some x) h g = g x h

pub chained : {A B : Type 0} (f : A → Option B) {P : A → Type 0} (Q : B → Type 0) (o : Option A) → IfSome o P → ((x : A) → P x → IfSome (f x) Q)
    → IfSome (option_and_then f o) Q
chained f Q None h g = tt
chained f Q (Some x) h g = g x h

-- what is computed is admitted
pub admitted : {X Y : Type 0} (Is : X → Y → Type 0) (f : X → Option Y) → ((x : X) → IfSome (f x) (Is x)) → IsAdmitted Is f
admitted Is f h x y e = subst (λ o. IfSome o (Is x)) e (h x)
