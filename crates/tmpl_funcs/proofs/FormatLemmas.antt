-- For `add_form` and the lemmas of `printf`: a format is its first segment before the rest.
use Rattle.std.proofs.Common.{◌≡◌, ◌∙◌, ℕ, zero, suc, ◌+◌, ◌-◌, ◌<◌, Bool, true, false, cond, List, [], ◌∷◌, ◌++◌}
use Rattle.std.proofs.Common.{length, get_or, take, drop, Option, Some, None, option_map, option_and_then, refl, sym, ap}
use Rattle.std.proofs.Common.{subst, arith, append_assoc}
use Rattle.std.specs.List.{prefix_len, take_while}
use Rattle.std.proofs.Math.Seq.{drop-append_seam}
use Rattle.std.proofs.lemmas.List.{length-take}
use Rattle.std.proofs.lemmas.List.Sums.{prefix_len-le-length}
use Rattle.tmpl_values.specs.Value.{Value}
use Rattle.tmpl_funcs.specs.printf.Form.{WrittenForm, Segment, literal, percent, form, form_of, is_plain}
use Rattle.tmpl_funcs.specs.printf.Spelling.{form_bytes}
use Rattle.tmpl_funcs.specs.printf.Reading.{reading}
use Rattle.tmpl_funcs.specs.computed.Scan.{form_at, first_segment, segments_read}
use Rattle.tmpl_funcs.specs.computed.OneReading.{one_reading, read-first, first_segment-plain, first_segment-form}
use Rattle.tmpl_funcs.specs.computed.Reading.{rest_len, with_segment}
use Rattle.tmpl_funcs.specs.computed.Directive.{printed}
use Rattle.tmpl_funcs.specs.printf.Format.{texts, formatted}
use Rattle.tmpl_funcs.specs.computed.Format.{both}

-- the texts of segments that are there
abbrev filled : Option (List Segment) → List Value → Option (List ℕ)
filled segments vs = option_and_then (λ ps. texts ps vs) segments

-- the first segment, and those after it
pub reading-first : (b : ℕ) (bs : List ℕ) (p : Option Segment) → first_segment (b ∷ bs) ≡ p → reading (b ∷ bs) ≡ with_segment p (reading (drop (rest_len p) bs))
unfolding reading one_reading
reading-first b bs p is = read-first b bs p is

formatted-first : (b : ℕ) (bs : List ℕ) (vs : List Value) (p : Option Segment) → first_segment (b ∷ bs) ≡ p
    → formatted (b ∷ bs) vs ≡ filled (with_segment p (reading (drop (rest_len p) bs))) vs
unfolding formatted
formatted-first b bs vs p is = ap (λ ps. filled ps vs) (reading-first b bs p is)

pub both-none : (t : Option (List ℕ)) → both t None ≡ None
both-none None = refl
both-none (Some s) = refl

pub both-both : (s t : List ℕ) (u : Option (List ℕ)) → both (Some s) (both (Some t) u) ≡ both (Some (s ++ t)) u
both-both s t None = refl
both-both s t (Some u) = ap Some (sym (append_assoc s t u))

filled-literal : (run : List ℕ) (ps : Option (List Segment)) (vs : List Value)
    → filled (with_segment (Some (literal run)) ps) vs ≡ both (Some run) (filled ps vs)
filled-literal run None vs = refl
filled-literal run (Some ps) vs = refl

filled-percent : (ps : Option (List Segment)) (vs : List Value) → filled (with_segment (Some percent) ps) vs ≡ both (Some (37 ∷ [])) (filled ps vs)
filled-percent None vs = refl
filled-percent (Some ps) vs = refl

filled-form : (f : WrittenForm) (ps : Option (List Segment)) (v : Value) (vs : List Value)
    → filled (with_segment (Some (form f)) ps) (v ∷ vs) ≡ both (printed (form_of f) v) (filled ps vs)
unfolding printed
filled-form f None v vs = sym (both-none (printed (form_of f) v))
filled-form f (Some ps) v vs = refl

filled-form_alone : (f : WrittenForm) (ps : Option (List Segment)) → filled (with_segment (Some (form f)) ps) [] ≡ None
filled-form_alone f None = refl
filled-form_alone f (Some ps) = refl

is_plain-first : (b : ℕ) (bs : List ℕ) (t : Bool) → is_plain b ≡ t → 0 < cond t (1 + prefix_len is_plain bs) 0 → is_plain b ≡ true
is_plain-first b bs true is h = is
is_plain-first b bs false is h = absurd (omega arith)

drop-after : (n b : ℕ) (bs : List ℕ) → 0 < n → drop (n - 1) bs ≡ drop n (b ∷ bs)
drop-after zero b bs h = absurd (omega arith)
drop-after (suc n) b bs h = ap (λ k. drop k bs) {x = suc n - 1} {y = n} (omega arith)

-- a run at the front
pub formatted-run : (bs : List ℕ) (n : ℕ) (vs : List Value) → n ≡ prefix_len is_plain bs → 0 < n
    → formatted bs vs ≡ both (Some (take n bs)) (formatted (drop n bs) vs)
unfolding formatted
formatted-run [] n vs is h = absurd (omega arith)
formatted-run (b ∷ bs) n vs is h =
    let run : List ℕ = take_while is_plain (b ∷ bs) in
    let plain : is_plain b ≡ true = is_plain-first b bs (is_plain b) refl (subst (λ k. 0 < k) is h) in
    let long : length run ≡ n = omega (arith, is, length-take (prefix_len is_plain (b ∷ bs)) (b ∷ bs), prefix_len-le-length is_plain (b ∷ bs)) in
    formatted-first b bs vs (Some (literal run)) (first_segment-plain b bs plain) ∙
    filled-literal run (reading (drop (length run - 1) bs)) vs ∙
    ap (λ k. both (Some (take k (b ∷ bs))) (filled (reading (drop (length run - 1) bs)) vs)) (sym is) ∙
    ap (λ k. both (Some (take n (b ∷ bs))) (filled (reading (drop (k - 1) bs)) vs)) long ∙
    ap (λ r. both (Some (take n (b ∷ bs))) (filled (reading r) vs)) (drop-after n b bs h)

-- `%%` at the front
pub formatted-percent : (bs : List ℕ) (vs : List Value) → formatted (37 ∷ 37 ∷ bs) vs ≡ both (Some (37 ∷ [])) (formatted bs vs)
unfolding formatted
formatted-percent bs vs = formatted-first 37 (37 ∷ bs) vs (Some percent) refl ∙ filled-percent (reading bs) vs

-- a `%` with nothing after it
pub formatted-lone : (vs : List Value) → formatted (37 ∷ []) vs ≡ None
unfolding form_at
formatted-lone vs = formatted-first 37 [] vs None refl

module _ (bs : List ℕ) (some : 0 < length bs) (plain : is_plain (get_or bs 0 0) ≡ true) where
  first_segment-form_first : (cs : List ℕ) → 0 < length cs → is_plain (get_or cs 0 0) ≡ true → (f : Option WrittenForm) → form_at cs ≡ f
      → first_segment (37 ∷ cs) ≡ option_map form f
  first_segment-form_first [] h p f is = absurd (omega arith)
  first_segment-form_first (c ∷ cs) h p f is = first_segment-form c cs f p is

  -- a form at the front, and its value
  pub formatted-form : (f : WrittenForm) (v : Value) (vs : List Value) (rest : List ℕ) → form_at bs ≡ Some f → bs ≡ form_bytes f ++ rest
      → formatted (37 ∷ bs) (v ∷ vs) ≡ both (printed (form_of f) v) (formatted rest vs)
  unfolding formatted
  formatted-form f v vs rest is spells =
      let n : suc (length (form_bytes f)) - 1 ≡ length (form_bytes f) = omega arith in
      rw (
        formatted-first 37 bs (v ∷ vs) (Some (form f)) (first_segment-form_first bs some plain (Some f) is),
        filled-form f (reading (drop (suc (length (form_bytes f)) - 1) bs)) v vs,
        n,
        spells,
        drop-append_seam (form_bytes f) rest,
      ) refl

  -- a form at the front, and no value
  pub formatted-form_alone : (f : WrittenForm) → form_at bs ≡ Some f → formatted (37 ∷ bs) [] ≡ None
  formatted-form_alone f is =
      formatted-first 37 bs [] (Some (form f)) (first_segment-form_first bs some plain (Some f) is)
      ∙ filled-form_alone f (reading (drop (suc (length (form_bytes f)) - 1) bs))

  -- no form at the front
  pub formatted-no_form : (vs : List Value) → form_at bs ≡ None → formatted (37 ∷ bs) vs ≡ None
  formatted-no_form vs is = formatted-first 37 bs vs None (first_segment-form_first bs some plain None is)

-- nothing is left
pub formatted-nil : formatted [] [] ≡ Some []
unfolding formatted reading one_reading segments_read
formatted-nil = refl

-- values are left
pub formatted-over : (vs : List Value) → 0 < length vs → formatted [] vs ≡ None
unfolding formatted reading one_reading segments_read
formatted-over [] some = absurd (omega arith)
formatted-over (v ∷ vs) some = refl
