-- For the law `runs_safely`: whether `printf` refuses its arguments depends on their kinds alone.
use Rattle.std.proofs.Common.{◌≡◌, ◌||◌, ◌==◌, not, ℕ, pos, Bool, true, false, List, [], ◌∷◌, ◌++◌, map, Option, Some, None, is_some, refl, subst, if◌then◌else◌}
use Rattle.std.proofs.lemmas.Bool.{false≢true}
use Rattle.std.specs.List.{find, flat_map}
use Rattle.std.specs.Option.{option_map, option_and_then}
use Rattle.std.specs.Prelude.{IfSome, is_ok, ok_or}
use Rattle.std.specs.Result.{result_map_both}
use Rattle.std.specs.Str.{byte}
use Rattle.tmpl_values.specs.Value.{Value, nothing, null, boolean, number, string, sequence, mapping, no_item}
use Rattle.tmpl_values.specs.Text.{inner_text, truth_text}
use Rattle.tmpl_values.specs.Item.{bytes_of}
use Rattle.tmpl_values.specs.Quote.{quote}
use Rattle.tmpl_funcs.specs.declared.func.Func.TheVariants as func
use Rattle.tmpl_funcs.specs.declared.fault.CallFault.TheVariants.{FormatRefused}
use Rattle.tmpl_funcs.specs.printf.Directive.{Prints, char_text, hex_pair, text_form, verbs, printed_by, print_any, print_number, print_hex, print_truth}
use Rattle.tmpl_funcs.specs.Index.{number_of}
use Rattle.tmpl_funcs.specs.printf.Pad.{pad}
use Rattle.tmpl_funcs.specs.printf.Rune.{truncated_to}
use Rattle.tmpl_funcs.specs.printf.Form.{Form, form_of, is_bare, Segment, literal, percent, form}
use Rattle.tmpl_funcs.specs.printf.Format.{texts, formatted}
use Rattle.tmpl_funcs.specs.printf.Reading.{reading}
use Rattle.tmpl_meaning.specs.Fault.{call_failed}
use Rattle.tmpl_meaning.specs.Pipeline.{apply_function}
use Rattle.tmpl_shape.specs.Shape as shape
use Rattle.tmpl_shape.specs.Shape.{Shape, Names}
use Rattle.tmpl_shape.specs.declared.kind.Kind.{Kind}
use Rattle.tmpl_shape.specs.declared.kind.Kind.TheVariants.{Blank}
use Rattle.tmpl_shape.specs.computed.Means.{Means}
use Rattle.tmpl_shape.specs.declared.kind.Kinds.{Kinds}
use Rattle.tmpl_shape.specs.computed.Shapes.{Base, kinds_of}
use Rattle.tmpl_shape.specs.computed.Calls.{each_kind}
use Rattle.tmpl_shape.specs.computed.Formats.{sample, kind_in, samples, prints, printed_kinds, printf_shape}
use Rattle.tmpl_shape.proofs.KindLemmas.{kind_of}
use Rattle.tmpl_schema.proofs.FieldLemmas.{Gives}
use Rattle.tmpl_schema.proofs.CallLemmas.{HaveShapes, AreAmong, IsAmong, all-among, at-kind}

-- ---- a verb takes each value of a kind or none

abbrev IsTaken : Option (List ℕ) → Type 0
IsTaken o = is_some o ≡ true

map-taken : {T U : Type 0} (f : T → U) (o : Option T) → is_some (option_map f o) ≡ true → is_some o ≡ true
map-taken f None h = h
map-taken f (Some t) h = refl

taken-map : {T U : Type 0} (f : T → U) (o : Option T) → is_some o ≡ true → is_some (option_map f o) ≡ true
taken-map f None h = h
taken-map f (Some t) h = refl

taken-if : {T U : Type 0} (c : Bool) (o : Option T) (p : Option U) → (is_some o ≡ true → is_some p ≡ true)
    → is_some (if c then o else None) ≡ true → is_some (if c then p else None) ≡ true
taken-if true o p f h = f h
taken-if false o p f h = h

-- a text is padded whatever it is
taken-form : (f : Form) (a b : List ℕ) → IsTaken (text_form f (Some a)) → IsTaken (text_form f (Some b))
taken-form f a b h = taken-if (not (f.plus || (f.zero || f.space))) (Some (pad f a)) (Some (pad f b)) (λ e. refl) h

abbrev IsByKind : Prints → Type 0
IsByKind p = (f : Form) (v : Value) → IsTaken (p f (sample (kind_of v))) → IsTaken (p f v)

by-any : IsByKind print_any
by-any f nothing h = h
by-any f null h = taken-form f (inner_text nothing) (inner_text null) h
by-any f (boolean b) h = taken-form f (inner_text (boolean false)) (inner_text (boolean b)) h
by-any f (number n) h = taken-form f (inner_text (number (pos 0))) (inner_text (number n)) h
by-any f (string s) h = taken-form f (inner_text (string [])) (inner_text (string s)) h
by-any f (sequence vs) h = taken-if (is_bare f) (Some (inner_text (sequence no_item))) (Some (inner_text (sequence vs))) (λ e. refl) h
by-any f (mapping es) h = taken-if (is_bare f) (Some (inner_text (sequence no_item))) (Some (inner_text (mapping es))) (λ e. refl) h

by-number : (base : ℕ) → IsByKind (print_number base)
by-number base f (number n) h = refl
by-number base f _ h = h

by-hex : (upper : Bool) → IsByKind (print_hex upper)
by-hex upper f (string s) h = taken-form f (flat_map (hex_pair upper) []) (flat_map (hex_pair upper) s) h
by-hex upper f (number n) h = refl
by-hex upper f _ h = h

by-bytes : (g : Form → List ℕ → List ℕ) → IsByKind (λ f v. text_form f (option_map (g f) (bytes_of v)))
by-bytes g f (string s) h = taken-form f _ _ h
by-bytes g f _ h = h

by-code : IsByKind (λ f v. text_form f (option_map char_text (number_of v)))
by-code f (number n) h = taken-form f _ _ h
by-code f _ h = h

by-truth : IsByKind print_truth
by-truth f (boolean b) h = taken-form f (truth_text false) (truth_text b) h
by-truth f _ h = h

abbrev EachByKind : List (ℕ × Prints) → Type 0
EachByKind [] = Unit {0}
EachByKind (p ∷ ps) = IsByKind p.1 × EachByKind ps

all-by : EachByKind verbs
all-by = (
  by-any,
  (
    by-number 10,
    (
      by-number 8,
      (
        by-number 2,
        (
          by-hex false,
          (
            by-hex true,
            (by-bytes (λ f. truncated_to f.precision), (by-bytes (λ f. quote), (by-code, (by-truth, tt)))),
          ),
        ),
      ),
    ),
  ),
)

found-by : (q : ℕ × Prints → Bool) (ps : List (ℕ × Prints)) → EachByKind ps → IfSome (find q ps) (λ p. IsByKind p.1)
found-by q [] h = tt
found-by q (p ∷ ps) h = by (q p) (found-by q ps h.1)
  where
    by : (c : Bool) → IfSome (find q ps) (λ p. IsByKind p.1) → IfSome (if c then Some p else find q ps) (λ p. IsByKind p.1)
    by true more = h.0
    by false more = more

printed-by : (f : Form) (v : Value) → IsTaken (printed_by f (sample (kind_of v))) → IsTaken (printed_by f v)
printed-by f v h = by (find (λ p. f.verb == p.0) verbs) (found-by (λ p. f.verb == p.0) verbs all-by) h
  where
    by : (o : Option (ℕ × Prints)) → IfSome o (λ p. IsByKind p.1)
        → IsTaken (option_and_then (λ prints. prints f (sample (kind_of v))) (option_map (λ p. p.1) o))
        → IsTaken (option_and_then (λ prints. prints f v) (option_map (λ p. p.1) o))
    by None k h = h
    by (Some p) k h = k f v h

-- ---- the segments of a format

abbrev in_row : Option (List ℕ) → Option (List ℕ) → Option (List ℕ)
in_row o r = option_and_then (λ s. option_map (λ t. s ++ t) r) o

taken-both : (o r : Option (List ℕ)) → IsTaken o → IsTaken r → IsTaken (in_row o r)
taken-both None r h g = h
taken-both (Some s) r h g = taken-map (λ t. s ++ t) r g

both-taken : (o r : Option (List ℕ)) → IsTaken (in_row o r) → IsTaken o × IsTaken r
both-taken None r h = absurd (false≢true h)
both-taken (Some s) r h = (refl, map-taken (λ t. s ++ t) r h)

kind_in-has : (ks : Kinds) (v : Value) → IsAmong ks v → kind_in (kind_of v) ks ≡ kind_of v
kind_in-has ks v h = rw h refl

texts-taken : (ps : List Segment) (kss : List Kinds) (vs : List Value) → AreAmong kss vs → ((k : Kind) → IsTaken (texts ps (samples k kss))) → IsTaken (texts ps vs)
texts-taken [] [] [] h t = refl
texts-taken [] (ks ∷ kss) (v ∷ vs) h t = t Blank
texts-taken (literal run ∷ ps) kss vs h t =
    taken-map (λ u. run ++ u) (texts ps vs) (texts-taken ps kss vs h (λ k. map-taken (λ u. run ++ u) (texts ps (samples k kss)) (t k)))
texts-taken (percent ∷ ps) kss vs h t =
    taken-map (λ u. byte "%" ∷ u) (texts ps vs) (texts-taken ps kss vs h (λ k. map-taken (λ u. byte "%" ∷ u) (texts ps (samples k kss)) (t k)))
texts-taken (form f ∷ ps) [] [] h t = t Blank
texts-taken (form f ∷ ps) (ks ∷ kss) (v ∷ vs) h t =
    let each = λ (k : Kind). both-taken (printed_by (form_of f) (sample (kind_in k ks))) (texts ps (samples k kss)) (t k) in
    taken-both (printed_by (form_of f) v) (texts ps vs)
    (printed-by (form_of f) v (subst (λ (k : Kind). IsTaken (printed_by (form_of f) (sample k))) (kind_in-has ks v h.0) (each (kind_of v)).0))
    (texts-taken ps kss vs h.1 (λ k. (each k).1))
texts-taken _ [] (v ∷ vs) h t = absurd h
texts-taken _ (ks ∷ kss) [] h t = absurd h

formatted-taken : (format : List ℕ) (kss : List Kinds) (vs : List Value) → AreAmong kss vs → ((k : Kind) → IsTaken (formatted format (samples k kss)))
    → IsTaken (formatted format vs)
unfolding formatted
formatted-taken format kss vs h t = by (reading format) t
  where
    by : (o : Option (List Segment)) → ((k : Kind) → IsTaken (option_and_then (λ ps. texts ps (samples k kss)) o)) → IsTaken (option_and_then (λ ps. texts ps vs) o)
    by None t = t Blank
    by (Some ps) t = texts-taken ps kss vs h t

ok-taken : (o : Option (List ℕ)) → is_ok (ok_or (option_map string o) FormatRefused) ≡ true → IsTaken o
ok-taken None h = h
ok-taken (Some t) h = refl

prints-taken : (format : List ℕ) (kss : List Kinds) (k : Kind) → prints format kss k ≡ true → IsTaken (formatted format (samples k kss))
unfolding prints
prints-taken format kss k h = ok-taken (formatted format (samples k kss)) h

module _ (base : Base) (N : Names) (means : Means base.defs N) where
  taken-gives : (o : Option (List ℕ)) → IsTaken o
      → (Gives base N means) (Some shape.texts) (result_map_both (λ v. v) (call_failed func.Printf) (ok_or (option_map string o) FormatRefused))
  taken-gives None h = absurd (false≢true h)
  taken-gives (Some t) h = tt

  kinds-give : (format : List ℕ) (kss : List Kinds) (vs : List Value) → AreAmong kss vs
      → (Gives base N means) (printed_kinds format kss) (apply_function func.Printf (string format ∷ vs)).result
  kinds-give format kss vs h = by (each_kind (prints format kss)) refl
    where
      by : (c : Bool) → each_kind (prints format kss) ≡ c
          → (Gives base N means) (if c then Some shape.texts else None) (apply_function func.Printf (string format ∷ vs)).result
      by true e = taken-gives (formatted format vs) (formatted-taken format kss vs h (λ k. prints-taken format kss k (at-kind (prints format kss) e k)))
      by false e = tt

  pub printf-gives : (format : List ℕ) (ss : List Shape) (vs : List Value) → (HaveShapes base N means) ss vs
      → (Gives base N means) (printf_shape base format ss) (apply_function func.Printf (string format ∷ vs)).result
  printf-gives format ss vs h = kinds-give format (map (kinds_of base) ss) vs ((all-among base N means) ss vs h)
