-- Numbers of columns, digit by digit.
use Rattle.std.proofs.Common.{◌≡◌, ℕ, ◌+◌, ◌<◌, cond, ◌==◌, false, arith, List, length, drop, get_or, Option, Some, None, refl, sym, ◌∙◌, add-one}
use Rattle.std.proofs.lemmas.Grind.{common_steps}
use Rattle.std.proofs.Math.Seq.{drop-cons, drop-length}
use Rattle.std.specs.Prelude.{option_and_then}
use Rattle.tmpl_formats.specs.Name.{with_digit, columns_from}

before_digit : (digits : List ℕ) (i columns : ℕ) → i < length digits
    → columns_from columns (drop i digits) ≡ option_and_then (λ n. columns_from n (drop (i + 1) digits)) (with_digit columns (get_or digits i 0))
unfolding columns_from
before_digit digits i columns lt = rw (add-one, drop-cons digits i 0) refl

-- after a digit, and at one that does not go on
pub digit-some : (digits : List ℕ) (i columns next : ℕ) (whole : Option ℕ) → i < length digits → columns_from columns (drop i digits) ≡ whole
    → with_digit columns (get_or digits i 0) ≡ Some next → columns_from next (drop (i + 1) digits) ≡ whole
digit-some digits i columns next whole lt same e = sym (rw e at (before_digit digits i columns lt)) ∙ same

pub digit-none : (digits : List ℕ) (i columns : ℕ) (whole : Option ℕ) → i < length digits → columns_from columns (drop i digits) ≡ whole
    → with_digit columns (get_or digits i 0) ≡ None → None ≡ whole
digit-none digits i columns whole lt same e = sym (rw e at (before_digit digits i columns lt)) ∙ same

-- after all digits
pub digits-end : (digits : List ℕ) (i columns : ℕ) (whole : Option ℕ) → i ≡ length digits → columns_from columns (drop i digits) ≡ whole
    → cond (columns == 0) None (Some columns) ≡ whole
unfolding columns_from
digits-end digits i columns whole is same = rw (is, drop-length digits) at same

not_zero : (columns : ℕ) → (columns ≡ 0 → ⊥) → (columns == 0) ≡ false
not_zero columns h = grind (arith, common_steps)

pub digits-some : (digits : List ℕ) (i columns : ℕ) (whole : Option ℕ) → i ≡ length digits → columns_from columns (drop i digits) ≡ whole
    → (columns ≡ 0 → ⊥) → Some columns ≡ whole
digits-some digits i columns whole is same some = rw (not_zero columns some) at (digits-end digits i columns whole is same)
