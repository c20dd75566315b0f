-- For `read_form` and what it calls: a form is read part by part.
use Rattle.std.proofs.Common.{◌≡◌, ◌∙◌, ℕ, suc, ◌-◌, ◌≤◌, Bool, true, false, List, [], ◌∷◌, ◌++◌, length, get_or}
use Rattle.std.proofs.Common.{take, drop, Option, Some, option_map, refl, sym, ap, subst, arith}
use Rattle.std.proofs.Common.{append_assoc, length-drop}
use Rattle.std.specs.Borrow.{Bor}
use Rattle.std.specs.Char.{is_ascii_digit}
use Rattle.std.specs.List.{prefix_len}
use Rattle.std.proofs.lemmas.List.{take_all, take-append-drop}
use Rattle.tmpl_funcs.specs.printf.Form.{WrittenForm, form_of, is_flag}
use Rattle.tmpl_funcs.specs.computed.Scan.{verb_of, form_at, verb_after}
use Rattle.tmpl_funcs.specs.computed.OneReading.{letter-verb_of}
use Rattle.tmpl_funcs.specs.printf.Spelling.{form_bytes}
use Rattle.tmpl_funcs.specs.computed.View.{form_seen}
use Rattle.tmpl_funcs.specs.computed.Reading.{form_if, form_by, precision_text, width_after, precision_after, IsRead}
use Rattle.tmpl_funcs.specs.declared.printf.form.Form.{Form}

-- the same reading of the same bytes
pub IsRead-along : {asked asked' : Option WrittenForm} {all all' : List ℕ} (read : Option (Form × Bor (List ℕ))) → IsRead asked all read
    → asked ≡ asked' → all ≡ all' → IsRead asked' all' read
IsRead-along {asked} {asked'} {all} {all'} read h e w =
    subst (λ (bs : List ℕ). IsRead asked' bs read) w (subst (λ (o : Option WrittenForm). IsRead o all read) e h)

module _ (flags width : List ℕ) (p : Option (List ℕ)) (b : ℕ) (bs : List ℕ) (v : ℕ) (form : Form) (is : v ≡ b) where
  form_if-made : (t : Bool) → Some (form_seen form) ≡ option_map form_of (form_if t flags width p v)
      → (x : WrittenForm) × (form_if t flags width p v ≡ Some x) × (form_seen form ≡ form_of x)
      × (flags ++ (width ++ (precision_text p ++ b ∷ bs)) ≡ form_bytes x ++ bs)
  form_if-made true h =
      let x : WrittenForm = record { flags = flags; width = width; precision = p; verb = v } in
      let same : form_seen form ≡ form_of x = cc in (
        x,
        refl,
        same,
        sym (simp append_assoc (ap (λ c. flags ++ (width ++ (precision_text p ++ c ∷ bs))) is)),
      )
  form_if-made false h = cc

-- the form whose verb stands at the front
pub verb_after-read : (flags width : List ℕ) (p : Option (List ℕ)) (bytes : List ℕ) (v : ℕ) (form : Form) → 1 ≤ length bytes
    → verb_of (get_or bytes 0 0) ≡ Some v
    → Some (form_seen form) ≡ option_map form_of (form_by flags width p (Some v))
    → (x : WrittenForm) × (verb_after flags width p bytes ≡ Some x) × (form_seen form ≡ form_of x) ×
    (flags ++ (width ++ (precision_text p ++ bytes)) ≡ form_bytes x ++ take (length bytes - 1) (drop 1 bytes))
verb_after-read flags width p [] v form h e m = absurd (omega arith)
verb_after-read flags width p (b ∷ bs) v form h e m =
    let made = form_if-made flags width p b bs v form (letter-verb_of b v e).0 _ m in
    let all : take (length (b ∷ bs) - 1) bs ≡ bs = take_all (suc (length bs) - 1) bs (omega arith) in
    (made.0, ap (form_by flags width p) e ∙ made.1, made.2, made.3 ∙ ap (λ r. form_bytes made.0 ++ r) (sym all))

-- what stands after this many bytes, as a slice has it
pub take-tail : (bs : List ℕ) (n : ℕ) → take (length bs - n) (drop n bs) ≡ drop n bs
take-tail bs n = take_all (length bs - n) (drop n bs) (omega (arith, length-drop n bs))

module _ (flags width : List ℕ) (read : Option (Form × Bor (List ℕ))) where
  precision_after-point : (bs rest tail : List ℕ) (n : ℕ) → rest ≡ bs → tail ≡ drop n rest → n ≡ prefix_len is_ascii_digit rest
      → IsRead (verb_after flags width (Some (take n rest)) tail) (flags ++ (width ++ ((46 ∷ take n rest) ++ tail))) read
      → IsRead (precision_after flags width (46 ∷ bs)) (flags ++ (width ++ 46 ∷ bs)) read
  precision_after-point bs rest tail n same end is h =
      let long : n ≡ prefix_len is_ascii_digit bs = is ∙ ap (prefix_len is_ascii_digit) same in
      IsRead-along read h
      (ap (verb_after flags width (Some (take n rest))) end ∙
      ap (λ k. verb_after flags width (Some (take k rest)) (drop k rest)) long
      ∙ ap (λ r. verb_after flags width (Some (take (prefix_len is_ascii_digit bs) r)) (drop (prefix_len is_ascii_digit bs) r)) same)
      (ap (λ t. flags ++ (width ++ 46 ∷ (take n rest ++ t))) end ∙ ap (λ r. flags ++ (width ++ 46 ∷ r)) (take-append-drop n rest ∙ same))

  -- a precision that stands after a point
  pub precision_after-read : (bytes rest : List ℕ) (n : ℕ) → 1 ≤ length bytes → get_or bytes 0 0 ≡ 46
      → rest ≡ take (length bytes - 1) (drop 1 bytes)
      → n ≡ prefix_len is_ascii_digit rest
      → IsRead (verb_after flags width (Some (take n rest)) (take (length rest - n) (drop n rest)))
      (flags ++ (width ++ ((46 ∷ take n rest) ++ take (length rest - n) (drop n rest)))) read
      → IsRead (precision_after flags width bytes) (flags ++ (width ++ bytes)) read
  precision_after-read [] rest n some point cut is h = absurd (omega arith)
  precision_after-read (b ∷ bs) rest n some point cut is h =
      subst (λ (c : ℕ). IsRead (precision_after flags width (c ∷ bs)) (flags ++ (width ++ c ∷ bs)) read) (sym point)
      (precision_after-point bs rest (take (length rest - n) (drop n rest)) n (cut ∙ take_all (suc (length bs) - 1) bs (omega arith)) (take-tail rest n) is h)

-- flags that stand at the front
pub form_at-read : (bytes : List ℕ) (n : ℕ) (read : Option (Form × Bor (List ℕ))) → n ≡ prefix_len is_flag bytes
    → IsRead (width_after (take n bytes) (take (length bytes - n) (drop n bytes))) (take n bytes ++ take (length bytes - n) (drop n bytes)) read
    → IsRead (form_at bytes) bytes read
unfolding form_at
form_at-read bytes n read is h =
    IsRead-along read h
    (ap (width_after (take n bytes)) (take-tail bytes n) ∙ ap (λ k. width_after (take k bytes) (drop k bytes)) is)
    (ap (λ t. take n bytes ++ t) (take-tail bytes n) ∙ take-append-drop n bytes)
