-- Plain scalars, byte by byte.
use Rattle.std.proofs.Common.{◌≡◌, ℕ, suc, ◌+◌, ◌<◌, Bool, true, false, cond, ◌&&◌, ◌==◌, List, ◌∷◌, length, drop, get_or, Option, Some, None, refl, sym, ap, ◌∙◌, add-one}
use Rattle.std.proofs.Math.Seq.{drop-cons, drop-length}
use Rattle.std.specs.Prelude.{not}
use Rattle.tmpl_formats.specs.YamlScalar.{may_follow, may_end, is_joined, is_numeric, is_numeric_text}
use Rattle.tmpl_formats.specs.computed.YamlScalar.{after_numeric}

before_joined : (in_flow : Bool) (text : List ℕ) (i a : ℕ) → i < length text
    → is_joined in_flow a (drop i text) ≡ (may_follow in_flow a (get_or text i 0) && is_joined in_flow (get_or text i 0) (drop (i + 1) text))
unfolding is_joined
before_joined in_flow text i a lt = rw (add-one, drop-cons text i 0) refl

-- a byte that may follow, one that may not, and the end
pub joined-more : (in_flow : Bool) (text : List ℕ) (i a : ℕ) (whole : Bool) → i < length text → is_joined in_flow a (drop i text) ≡ whole
    → may_follow in_flow a (get_or text i 0) ≡ true → is_joined in_flow (get_or text i 0) (drop (i + 1) text) ≡ whole
joined-more in_flow text i a whole lt same e =
    sym (before_joined in_flow text i a lt ∙ ap (λ t. t && is_joined in_flow (get_or text i 0) (drop (i + 1) text)) e) ∙ same

pub joined-stop : (in_flow : Bool) (text : List ℕ) (i a : ℕ) (whole : Bool) → i < length text → is_joined in_flow a (drop i text) ≡ whole
    → may_follow in_flow a (get_or text i 0) ≡ false → false ≡ whole
joined-stop in_flow text i a whole lt same e =
    sym (before_joined in_flow text i a lt ∙ ap (λ t. t && is_joined in_flow (get_or text i 0) (drop (i + 1) text)) e) ∙ same

pub joined-end : (in_flow : Bool) (text : List ℕ) (i a : ℕ) (whole : Bool) → i ≡ length text → is_joined in_flow a (drop i text) ≡ whole → may_end a ≡ whole
unfolding is_joined
joined-end in_flow text i a whole is same = rw (is, drop-length text) at same

-- what a byte of a number does
abbrev goes_on : (Bool → Bool) → Option Bool → Bool
goes_on f None = false
goes_on f (Some d) = f d

numeric_dot : (t d : Bool) (f : Bool → Bool) → (not d && f true) ≡ goes_on f (cond d None (Some true))
numeric_dot t true f = refl
numeric_dot t false f = refl

numeric_byte : (t d : Bool) (f : Bool → Bool) → (t && f d) ≡ goes_on f (cond t (Some d) None)
numeric_byte true d f = refl
numeric_byte false d f = refl

numeric_either : (t u d : Bool) (f : Bool → Bool) → cond t (not d && f true) (u && f d) ≡ goes_on f (cond t (cond d None (Some true)) (cond u (Some d) None))
numeric_either true u d f = numeric_dot u d f
numeric_either false u d f = numeric_byte u d f

numeric_step : (has_dot : Bool) (b : ℕ) (bs : List ℕ) → is_numeric_text has_dot (b ∷ bs) ≡ goes_on (λ d. is_numeric_text d bs) (after_numeric has_dot b)
unfolding is_numeric_text
numeric_step has_dot b bs = numeric_either (b == 46) (is_numeric b) has_dot (λ d. is_numeric_text d bs)

before_numeric : (text : List ℕ) (i : ℕ) (has_dot : Bool) → i < length text
    → is_numeric_text has_dot (drop i text) ≡ goes_on (λ d. is_numeric_text d (drop (i + 1) text)) (after_numeric has_dot (get_or text i 0))
before_numeric text i has_dot lt = rw (add-one, drop-cons text i 0) (numeric_step has_dot (get_or text i 0) (drop (suc i) text))

pub numeric-some : (text : List ℕ) (i : ℕ) (has_dot next whole : Bool) → i < length text → is_numeric_text has_dot (drop i text) ≡ whole
    → after_numeric has_dot (get_or text i 0) ≡ Some next → is_numeric_text next (drop (i + 1) text) ≡ whole
numeric-some text i has_dot next whole lt same e = sym (before_numeric text i has_dot lt ∙ ap (goes_on (λ d. is_numeric_text d (drop (i + 1) text))) e) ∙ same

pub numeric-none : (text : List ℕ) (i : ℕ) (has_dot whole : Bool) → i < length text → is_numeric_text has_dot (drop i text) ≡ whole
    → after_numeric has_dot (get_or text i 0) ≡ None → false ≡ whole
numeric-none text i has_dot whole lt same e = sym (before_numeric text i has_dot lt ∙ ap (goes_on (λ d. is_numeric_text d (drop (i + 1) text))) e) ∙ same

pub numeric-end : (text : List ℕ) (i : ℕ) (has_dot whole : Bool) → i ≡ length text → is_numeric_text has_dot (drop i text) ≡ whole → true ≡ whole
unfolding is_numeric_text
numeric-end text i has_dot whole is same = rw (is, drop-length text) at same
