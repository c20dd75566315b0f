-- For `add_segment`, `add_form` and `add_formatted`: what was added so far, before the text of the rest, is the whole text.
use Rattle.std.proofs.Common.{◌≡◌, ◌∙◌, ℕ, suc, ◌+◌, ◌-◌, ◌<◌, ◌≤◌, Bool, true, false, cond, List, [], ◌∷◌, ◌++◌}
use Rattle.std.proofs.Common.{length, get_or, take, drop, Option, Some, None, option_map, Result, Ok, Err, IsErrAnd}
use Rattle.std.proofs.Common.{refl, sym, ap, subst, arith, append_assoc, append-nil, length-append, length-drop}
use Rattle.std.specs.List.{prefix_len}
use Rattle.std.proofs.lemmas.List.{take_all, drop-drop, drop-map, length-map, nil_from_length}
use Rattle.std.proofs.lemmas.Bool.Decides.{nat_tests}
use Rattle.tmpl_values.specs.Value.{Value}
use Rattle.tmpl_values.specs.View.{val_of}
use Rattle.tmpl_values.specs.declared.value.Cell.{Cell}
use Rattle.tmpl_funcs.specs.View.{values_of}
use Rattle.tmpl_funcs.specs.printf.Form.{Form, WrittenForm, form_of, is_plain}
use Rattle.tmpl_funcs.specs.computed.Scan.{form_at}
use Rattle.tmpl_funcs.specs.printf.Spelling.{form_bytes}
use Rattle.tmpl_funcs.specs.computed.Directive.{printed}
use Rattle.tmpl_funcs.specs.printf.Format.{formatted}
use Rattle.tmpl_funcs.specs.computed.Format.{both, IsAdded, IsSegmentAdded}
use Rattle.tmpl_funcs.specs.declared.fault.CallError.{CallError}
use Rattle.tmpl_funcs.specs.declared.fault.CallError.TheVariants as error
use Rattle.tmpl_funcs.specs.declared.fault.CallFault.TheVariants as fault
use Rattle.tmpl_funcs.proofs.FormLemmas.{take-tail}
use Rattle.tmpl_funcs.proofs.FormatLemmas.{both-both, formatted-run, formatted-percent, formatted-lone, formatted-form, formatted-nil, formatted-over}

-- an error that `?` passes up
pub IsErrAnd-along : {T E : Type 0} (P : Result T E → Type 0) (r : Result T E) (e : E) → IsErrAnd r (λ y. y ≡ e) → P (Err e) → P r
IsErrAnd-along P (Ok x) e h p = absurd h
IsErrAnd-along P (Err y) e h p = subst (λ y. P (Err y)) (sym h) p

-- the text that was added
pub option_map-Some : (asked : Option (List ℕ)) (old new : List ℕ) → option_map (λ text. old ++ text) asked ≡ Some new
    → (text : List ℕ) × (asked ≡ Some text) × (new ≡ old ++ text)
option_map-Some None old new h = cc
option_map-Some (Some text) old new h = (text, refl, cc)

pub values_of-first : (cells : List Cell) (x : Cell) → 1 ≤ length cells → x ≡ get_or cells 0 x → values_of cells ≡ val_of x.val ∷ drop 1 (values_of cells)
values_of-first [] x some is = absurd (omega arith)
values_of-first (c ∷ cells) x some is = ap (λ (y : Cell). val_of y.val ∷ values_of cells) (sym is)

pub values_of-nil : (cells : List Cell) → length cells ≤ 0 → values_of cells ≡ []
values_of-nil [] h = refl
values_of-nil (c ∷ cells) h = absurd (omega arith)

pub length-values_of : (cells : List Cell) → length (values_of cells) ≡ length cells
length-values_of cells = length-map cells (λ c. val_of c.val)

-- a form that was refused
pub IsSegmentAdded-refused : (asked : Option (List ℕ)) (old new format : List ℕ) (vs : List Value) (e : CallError) → IsAdded asked old new (Err e)
    → (asked ≡ None → formatted format vs ≡ None) → IsSegmentAdded format vs old new (Err e)
IsSegmentAdded-refused asked old new format vs (error.Fault fault.FormatRefused) h none = none h
IsSegmentAdded-refused asked old new format vs error.OutOfMemory h none = tt
IsSegmentAdded-refused asked old new format vs _ h none = h

-- a format of which a segment was refused
pub IsAdded-refused : (format all : List ℕ) (vs ws : List Value) (front old mid new : List ℕ) (e : CallError)
    → formatted all ws ≡ both (Some front) (formatted format vs) → IsSegmentAdded format vs mid new (Err e) → IsAdded (formatted all ws) old new (Err e)
IsAdded-refused format all vs ws front old mid new (error.Fault fault.FormatRefused) so_far h = so_far ∙ ap (both (Some front)) h
IsAdded-refused format all vs ws front old mid new error.OutOfMemory so_far h = tt
IsAdded-refused format all vs ws front old mid new _ so_far h = h

module _ (bs : List ℕ) (some : 0 < length bs) (plain : is_plain (get_or bs 0 0) ≡ true) (cells : List Cell) (x : Cell) (there : 1 ≤ length cells)
    (is : x ≡ get_or cells 0 x)
    (form : Form) (rest : List ℕ) (f : WrittenForm) (read : form_at bs ≡ Some f) (same : form ≡ form_of f) (all : bs ≡ form_bytes f ++ rest) where
  formatted-first_form : formatted (37 ∷ bs) (values_of cells) ≡ both (printed form (val_of x.val)) (formatted rest (drop 1 (values_of cells)))
  formatted-first_form =
      let vs = drop 1 (values_of cells) in
      rw (same, sym (formatted-form bs some plain f (val_of x.val) vs rest read all)) (ap (formatted (37 ∷ bs)) (values_of-first cells x there is))

  -- the text of a form was added
  pub formatted-form_added : (old new : List ℕ) → option_map (λ text. old ++ text) (printed form (val_of x.val)) ≡ Some new
      → (text : List ℕ) × (new ≡ old ++ text) × (formatted (37 ∷ bs) (values_of cells) ≡ both (Some text)
      (formatted rest (drop 1 (values_of cells)))) × (1 ≤ length (values_of cells)) × (length rest < suc (length bs))
  formatted-form_added old new h =
      let t = option_map-Some (printed form (val_of x.val)) old new h in (
        t.0,
        t.2,
        formatted-first_form ∙ ap (λ p. both p (formatted rest (drop 1 (values_of cells)))) t.1,
        omega (arith, length-values_of cells),
        omega (arith, ap length all, length-append (form_bytes f) rest),
      )

  -- it was refused
  pub formatted-form_none : printed form (val_of x.val) ≡ None → formatted (37 ∷ bs) (values_of cells) ≡ None
  formatted-form_none h = formatted-first_form ∙ ap (λ p. both p (formatted rest (drop 1 (values_of cells)))) h

-- bytes that are not none, by the first
pub cons-take : (bs : List ℕ) (b : ℕ) → 1 ≤ length bs → get_or bs 0 0 ≡ b → bs ≡ b ∷ take (length bs - 1) (drop 1 bs)
cons-take [] b some is = absurd (omega arith)
cons-take (c ∷ bs) b some is =
    ap (λ d. d ∷ bs) is ∙ ap (λ r. b ∷ r) (sym (take_all (suc (length bs) - 1) bs (omega arith)))

is_plain-percent : (b : ℕ) (t : Bool) (n : ℕ) → is_plain b ≡ t → cond t (1 + n) 0 ≡ 0 → b ≡ 37
is_plain-percent b true n is h = absurd (omega arith)
is_plain-percent b false n is h = grind (arith, nat_tests)

prefix_len-percent : (bs : List ℕ) → 0 < length bs → prefix_len is_plain bs ≡ 0 → get_or bs 0 0 ≡ 37
prefix_len-percent [] some h = absurd (omega arith)
prefix_len-percent (b ∷ bs) some h = is_plain-percent b (is_plain b) (prefix_len is_plain bs) refl h

-- a format that begins with no run begins with `%`
pub percent-take : (bs : List ℕ) (n : ℕ) → 0 < length bs → n ≡ prefix_len is_plain bs → n ≤ 0 → bs ≡ 37 ∷ take (length bs - 1) (drop 1 bs)
percent-take bs n some is none = cons-take bs 37 (omega arith) (prefix_len-percent bs some (omega arith))

-- a run was added
pub formatted-run_added : (bs : List ℕ) (n : ℕ) (vs : List Value) (old new : List ℕ) → n ≡ prefix_len is_plain bs → 0 < n → n ≤ length bs
    → new ≡ old ++ take n bs
    → (text : List ℕ) × (new ≡ old ++ text) × (formatted bs vs ≡ both (Some text) (formatted (take (length bs - n) (drop n bs)) vs)) ×
    (0 ≤ length vs) × (length (take (length bs - n) (drop n bs)) < length bs)
formatted-run_added bs n vs old new is some within added = (
  take n bs,
  added,
  formatted-run bs n vs is some ∙ ap (λ r. both (Some (take n bs)) (formatted r vs)) (sym (take-tail bs n)),
  omega arith,
  omega (arith, ap length (take-tail bs n), length-drop n bs),
)

-- `%%` was added
pub formatted-percent_added : (bs rest after : List ℕ) (vs : List Value) (old new : List ℕ) → bs ≡ 37 ∷ rest → rest ≡ 37 ∷ after → new ≡ old ++ 37 ∷ []
    → (text : List ℕ) × (new ≡ old ++ text) × (formatted bs vs ≡ both (Some text) (formatted after vs)) × (0 ≤ length vs) × (length after < length bs)
formatted-percent_added bs rest after vs old new first second added = (
  37 ∷ [],
  added,
  ap (λ f. formatted f vs) (first ∙ ap (λ r. 37 ∷ r) second) ∙ formatted-percent after vs,
  omega arith,
  omega (arith, ap length first, ap length second),
)

-- nothing stands after a `%`
pub formatted-percent_lone : (bs rest : List ℕ) (vs : List Value) → bs ≡ 37 ∷ rest → length rest ≤ 0 → formatted bs vs ≡ None
formatted-percent_lone bs rest vs first none = ap (λ f. formatted f vs) (first ∙ ap (λ r. 37 ∷ r) (nil_from_length rest (omega arith))) ∙ formatted-lone vs

-- the values of the cells after this many, as a slice has them
pub values_of-after : (n : ℕ) (cells : List Cell) → values_of (take (length cells - n) (drop n cells)) ≡ drop n (values_of cells)
values_of-after n cells =
    ap values_of (take_all (length cells - n) (drop n cells) (omega (arith, length-drop n cells))) ∙ sym (drop-map (λ c. val_of c.val) n cells)

module _ (format rest after : List ℕ) (cells : List Cell) (used taken : ℕ) (front text old mid new : List ℕ) where
  -- one segment more was added
  pub formatted-segment : mid ≡ old ++ front → formatted format (values_of cells) ≡ both (Some front) (formatted rest (drop used (values_of cells)))
      → new ≡ mid ++ text → formatted rest (drop used (values_of cells)) ≡ both (Some text) (formatted after (drop taken (drop used (values_of cells))))
      → (new ≡ old ++ (front ++ text)) × (formatted format (values_of cells) ≡ both (Some (front ++ text))
      (formatted after (drop (used + taken) (values_of cells))))
  formatted-segment so_far all added more = (
    added ∙ ap (λ s. s ++ text) so_far ∙ append_assoc old front text,
    all ∙ ap (both (Some front)) more ∙ both-both front text (formatted after (drop taken (drop used (values_of cells)))) ∙
        ap (λ vs. both (Some (front ++ text)) (formatted after vs)) (drop-drop taken used (values_of cells)),
  )

module _ (format rest : List ℕ) (vs left : List Value) (front old new : List ℕ) (so_far : new ≡ old ++ front)
    (all : formatted format vs ≡ both (Some front) (formatted rest left)) (past : length rest ≤ 0) where
  -- nothing is left
  formatted-all : length left ≤ 0 → option_map (λ text. old ++ text) (formatted format vs) ≡ Some new
  formatted-all none =
      rw (all, nil_from_length rest (omega arith), nil_from_length left (omega arith), formatted-nil, append-nil front, so_far) refl

  -- values are left
  formatted-too_many : 0 < length left → formatted format vs ≡ None
  formatted-too_many some = rw (all, nil_from_length rest (omega arith), formatted-over left some) refl

-- a format of which nothing is left, over these cells, of which this many were used
pub formatted-end : (format rest : List ℕ) (cells : List Cell) (used : ℕ) (front old new : List ℕ) → new ≡ old ++ front
    → formatted format (values_of cells) ≡ both (Some front) (formatted rest (drop used (values_of cells))) → length rest ≤ 0 → used ≤ length cells
    → (used ≡ length cells → option_map (λ text. old ++ text) (formatted format (values_of cells)) ≡ Some new)
    × (used < length cells → formatted format (values_of cells) ≡ None)
formatted-end format rest cells used front old new so_far all past within =
    let vs = values_of cells in
    let left : length (drop used vs) ≡ length cells - used = length-drop used vs ∙ ap (λ n. n - used) (length-values_of cells) in (
      λ e. formatted-all format rest vs (drop used vs) front old new so_far all past (omega (arith, left)),
      λ e. formatted-too_many format rest vs (drop used vs) front old new so_far all past (omega (arith, left)),
    )
