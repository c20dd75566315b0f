-- Characters and numbers of regular expressions.
use Rattle.std.proofs.Common.{◌≡◌, ◌<◌, ◌+◌, ◌*◌, ℕ, suc, List, ◌∷◌, Option, Some, None, ap, sym, ◌∙◌, subst, add-one}
use Rattle.std.specs.Prelude.{IfSome}
use Rattle.tmpl_formats.specs.PatternText.{digit_value, HasDigits, no_more, one_more}

-- a text that begins with a letter
pub at_letter : (P : List ℕ → Type 0) (text rest : List ℕ) (c letter : ℕ) → text ≡ c ∷ rest → c ≡ letter → P (letter ∷ rest) → P text
at_letter P text rest c letter e is h = subst P (sym (e ∙ ap (λ x. x ∷ rest) is)) h

pub with_some : {A : Type 0} (P Q : A → Type 0) → ((a : A) → P a → Q a) → (o : Option A) → IfSome o P → IfSome o Q
with_some P Q f None h = tt
with_some P Q f (Some a) h = f a h

pub digits-more : (base count first n c : ℕ) (text more rest : List ℕ) → HasDigits base count first text n more → more ≡ c ∷ rest → digit_value c < base
    → HasDigits base (suc count) first text (n * base + digit_value c) rest
digits-more base _ first _ c _ more rest no_more e lt = rw e (one_more lt no_more)
digits-more base _ first n c _ more rest (one_more {count} {text = text} below h) e lt = one_more below (digits-more base count _ n c text more rest h e lt)

pub digit-next : (base count n m c : ℕ) (text more rest : List ℕ) → HasDigits base count 0 text n more → more ≡ c ∷ rest → digit_value c < base → m ≡ n * base + digit_value c
    → HasDigits base (suc count) 0 text m rest
digit-next base count n m c text more rest h e lt is = rw is (digits-more base count 0 n c text more rest h e lt)

pub digit-first : (base m c : ℕ) (text rest : List ℕ) → text ≡ c ∷ rest → digit_value c < base → m ≡ 0 * base + digit_value c → HasDigits base 1 0 text m rest
digit-first base m c text rest e lt is = digit-next base 0 0 m c text text rest no_more e lt is

-- at the next place of a loop
pub digit-at : (base count n m c : ℕ) (text more rest : List ℕ) → HasDigits base count 0 text n more → more ≡ c ∷ rest → digit_value c < base → m ≡ n * base + digit_value c
    → HasDigits base (count + 1) 0 text m rest
digit-at base count n m c text more rest h e lt is = rw add-one (digit-next base count n m c text more rest h e lt is)
