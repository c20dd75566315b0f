-- How formats are spelled, and by which segments.
use Rattle.std.specs.Prelude.{◌≡◌, ℕ, ◌==◌, nat_le, true, false, List, [], ◌∷◌, ◌++◌, length, codes}
use Rattle.std.specs.Prelude.{Option, Some, None, IfSome, is_some, slice_get}
use Rattle.std.specs.Char.{is_ascii_digit}
use Rattle.std.specs.List.{list_all}
use Rattle.std.specs.Option.{option_map_or}
use Rattle.std.specs.Str.{byte}
use Rattle.tmpl_funcs.specs.printf.Directive.{printer}
use Rattle.tmpl_funcs.specs.printf.Form.{WrittenForm, Segment, literal, percent, form, is_plain, is_flag}

-- how a form is spelled after its `%`, with a point before its precision
abbrev pub form_bytes : WrittenForm → List ℕ
form_bytes f = f.flags ++ (f.width ++ (option_map_or (λ digits. byte "." ∷ digits) f.precision [] ++ f.verb ∷ []))

-- a form: any flags; a width of at most four digits, of which the first is not 0; a precision of at most four, which
-- the verb `s` alone may have; and the letter of a verb
pub record IsForm (f : WrittenForm) : Type 0 where
  pub flags : list_all is_flag f.flags ≡ true
  pub width : list_all is_ascii_digit f.width ≡ true
  pub short : nat_le (length f.width) 4 ≡ true
  pub above : IfSome (slice_get f.width 0) (λ d. (d == byte "0") ≡ false)
  pub precision : IfSome f.precision (λ digits. (list_all is_ascii_digit digits ≡ true)
      × (nat_le (length digits) 4 ≡ true) × ((f.verb == byte "s") ≡ true))
  pub verb : is_some (printer f.verb) ≡ true

-- the format consists of these segments, one after the other: a run has bytes, none of which is `%`, and goes on as far
-- as it can
pub data IsReading : List ℕ → List Segment → Type 0 where
  at_end : IsReading [] []
  a_run : {b : ℕ} {run rest : List ℕ} {ps : List Segment} → list_all is_plain (b ∷ run) ≡ true
      → IfSome (slice_get rest 0) (λ c. c ≡ byte "%") → IsReading rest ps
      → IsReading (b ∷ run ++ rest) (literal (b ∷ run) ∷ ps)
  a_percent : {rest : List ℕ} {ps : List Segment} → IsReading rest ps → IsReading (codes "%%" ++ rest) (percent ∷ ps)
  a_form : {f : WrittenForm} {rest : List ℕ} {ps : List Segment} → IsForm f → IsReading rest ps
      → IsReading (codes "%" ++ (form_bytes f ++ rest)) (form f ∷ ps)

-- what a format is read as: its segments, or nothing where no segments spell it
abbrev pub IsReadAs : List ℕ → Option (List Segment) → Type 0
IsReadAs format None = (ps : List Segment) → IsReading format ps → ⊥
IsReadAs format (Some ps) = IsReading format ps
