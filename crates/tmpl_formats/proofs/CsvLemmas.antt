-- What the machine for CSV accepts is CSV.
use Rattle.std.proofs.Common.{◌≡◌, ◌≢◌, ℕ, suc, ◌+◌, ◌==◌, Bool, true, false, cond, List, [], ◌∷◌, ◌++◌, Option, Some, None, arith, refl, ◌∙◌, ap, append_assoc, append-nil}
use Rattle.std.proofs.lemmas.Grind.{common_steps}
use Rattle.std.specs.List.{list_all}
use Rattle.std.specs.Bool.{then_some}
use Rattle.std.specs.Prelude.{not, nat_lt, option_map}
use Rattle.tmpl_formats.proofs.MachineLemmas.{went, passes-cons}
use Rattle.tmpl_formats.specs.Csv.{is_bare, is_inside, IsInside, nothing, plain, doubled, IsField, bare, quoted, IsFields, last, more, IsRecord, IsNewline, newline, return_newline, IsCsv, empty, last_record, more_records}
use Rattle.tmpl_formats.specs.computed.Csv.{sign_of, after_field, after_bare, at_field, after_sign, step, ends, csv_at, csv_mistake}
use Rattle.tmpl_formats.specs.computed.Machine.{mistake, after_step}
use Rattle.tmpl_formats.specs.declared.csv.Place.{Place}
use Rattle.tmpl_formats.specs.declared.csv.Place.TheVariants as at
use Rattle.tmpl_formats.specs.declared.csv.Sign.{Sign}
use Rattle.tmpl_formats.specs.declared.csv.Sign.TheVariants as sign

-- ---- which kinds pass a test

abbrev code_of : Sign → ℕ
code_of sign.Newline = 10
code_of sign.Return = 13
code_of sign.Comma = 44
code_of sign.Quote = 34
code_of _ = 0

abbrev is_code : Sign → Bool
is_code s = not (code_of s == 0)

codes_of : (b : ℕ) → is_code (sign_of b) ≡ true → b ≡ code_of (sign_of b)
codes_of b = grind (arith, common_steps)

abbrev other_sign : Sign → Bool
other_sign sign.Other = true
other_sign _ = false

abbrev inside_sign : Sign → Bool
inside_sign sign.Null = false
inside_sign sign.Quote = false
inside_sign _ = true

bares : (b : ℕ) → is_bare b ≡ other_sign (sign_of b)
bares b = grind (arith, common_steps)

insides : (b : ℕ) → is_inside b ≡ inside_sign (sign_of b)
insides b = grind (arith, common_steps)

-- the byte of a kind that has one
byte_of : (s : Sign) (b : ℕ) → sign_of b ≡ s → is_code s ≡ true → b ≡ code_of s
byte_of s b e i = codes_of b (ap is_code e ∙ i) ∙ ap code_of e

-- ---- what is left at each place

-- what is left of a record, and the records after it
data Left (columns : ℕ) (P : List ℕ → Type 0) : List ℕ → Type 0 where
  at_last : {rest : List ℕ} → P rest → Left columns P rest
  before_more : (rest end others : List ℕ) → P rest → IsNewline end → IsCsv columns others → Left columns P (rest ++ (end ++ others))

-- a byte more
left-cons : (columns : ℕ) {P Q : List ℕ → Type 0} (b : ℕ) (text : List ℕ) → ((bs : List ℕ) → P bs → Q (b ∷ bs)) → Left columns P text → Left columns Q (b ∷ text)
left-cons columns b _ f (at_last {rest} p) = at_last (f rest p)
left-cons columns b _ f (before_more rest end others p n c) = before_more (b ∷ rest) end others (f rest p) n c

-- fields, with this many before them
data FieldsLeft (columns before : ℕ) : List ℕ → Type 0 where
  fields_left : {text : List ℕ} (count : ℕ) → count + before ≡ columns → IsFields count text → FieldsLeft columns before text

-- what follows a field
data TailLeft (columns before : ℕ) : List ℕ → Type 0 where
  no_more : before + 1 ≡ columns → TailLeft columns before []
  a_comma : (text : List ℕ) → FieldsLeft columns (before + 1) text → TailLeft columns before (44 ∷ text)

data BareLeft (columns before : ℕ) : List ℕ → Type 0 where
  bare_left : (bs tail : List ℕ) → list_all is_bare bs ≡ true → TailLeft columns before tail → BareLeft columns before (bs ++ tail)

data QuotedLeft (columns before : ℕ) : List ℕ → Type 0 where
  quoted_left : (bs tail : List ℕ) → IsInside bs → TailLeft columns before tail → QuotedLeft columns before (bs ++ (34 ∷ tail))

data QuoteLeft (columns before : ℕ) : List ℕ → Type 0 where
  closed : {tail : List ℕ} → TailLeft columns before tail → QuoteLeft columns before tail
  again : (text : List ℕ) → QuotedLeft columns before text → QuoteLeft columns before (34 ∷ text)

data ReturnLeft (columns : ℕ) : List ℕ → Type 0 where
  then_newline : (text : List ℕ) → IsCsv columns text → ReturnLeft columns (10 ∷ text)

abbrev Goes : ℕ → Place → List ℕ → Type 0
Goes columns at.Start text = IsCsv columns text
Goes columns (at.Field fields) text = Left columns (FieldsLeft columns fields) text
Goes columns (at.Bare fields) text = Left columns (BareLeft columns fields) text
Goes columns (at.Quoted fields) text = Left columns (QuotedLeft columns fields) text
Goes columns (at.Quote fields) text = Left columns (QuoteLeft columns fields) text
Goes columns at.Return text = ReturnLeft columns text

-- ---- a field is left

one_more : (columns before count : ℕ) → count + (before + 1) ≡ columns → suc count + before ≡ columns
one_more columns before count e = omega arith

just_one : (columns before : ℕ) → before + 1 ≡ columns → 1 + before ≡ columns
just_one columns before e = omega arith

field_first : (columns before : ℕ) (field tail : List ℕ) → IsField field → TailLeft columns before tail → FieldsLeft columns before (field ++ tail)
field_first columns before field _ f (no_more e) = rw (append-nil field) (fields_left 1 (just_one columns before e) (last f))
field_first columns before field _ f (a_comma _ (fields_left {text} count e fs)) =
    fields_left (suc count) (one_more columns before count e) (more field text f fs)

bare_first : (columns before : ℕ) (text : List ℕ) → BareLeft columns before text → FieldsLeft columns before text
bare_first columns before _ (bare_left bs tail p t) = field_first columns before bs tail (bare p) t

quoted_first : (columns before : ℕ) (text : List ℕ) → QuotedLeft columns before text → FieldsLeft columns before (34 ∷ text)
quoted_first columns before _ (quoted_left bs tail p t) = rw (← append_assoc bs (34 ∷ []) tail) (field_first columns before (34 ∷ (bs ++ (34 ∷ []))) tail (quoted bs p) t)

bare_more : (columns before b : ℕ) (text : List ℕ) → is_bare b ≡ true → BareLeft columns before text → BareLeft columns before (b ∷ text)
bare_more columns before b _ e (bare_left bs tail p t) = bare_left (b ∷ bs) tail (passes-cons is_bare b bs e p) t

inside_more : (columns before b : ℕ) (text : List ℕ) → is_inside b ≡ true → QuotedLeft columns before text → QuotedLeft columns before (b ∷ text)
inside_more columns before b _ e (quoted_left bs tail p t) = quoted_left (b ∷ bs) tail (plain e p) t

-- a quote in a field between quotes
quote_more : (columns before : ℕ) (text : List ℕ) → QuoteLeft columns before text → QuotedLeft columns before (34 ∷ text)
quote_more columns before text (closed t) = quoted_left [] text nothing t
quote_more columns before _ (again _ (quoted_left bs tail p t)) = quoted_left (34 ∷ 34 ∷ bs) tail (doubled p) t

-- ---- records

no_nil : (b : ℕ) (bs : List ℕ) → (b ∷ bs) ≢ []
no_nil b bs e = cc

record_of : (columns b : ℕ) (text : List ℕ) → FieldsLeft columns 0 (b ∷ text) → IsRecord columns (b ∷ text)
record_of columns b text (fields_left count e fs) =
    let same : count ≡ columns = omega arith in record { fields = rw same at fs; some = no_nil b text }

records_left : (columns : ℕ) (text : List ℕ) → Left columns (IsRecord columns) text → IsCsv columns text
records_left columns _ (at_last p) = last_record p
records_left columns _ (before_more rest end others p n c) = more_records rest end others p n c

left-map : (columns : ℕ) {P Q : List ℕ → Type 0} (text : List ℕ) → ((bs : List ℕ) → P bs → Q bs) → Left columns P text → Left columns Q text
left-map columns _ f (at_last {rest} p) = at_last (f rest p)
left-map columns _ f (before_more rest end others p n c) = before_more rest end others (f rest p) n c

-- ---- one byte more

-- the rest is accepted after what a step gives
abbrev Accepts : ℕ → Option Place → List ℕ → Type 0
Accepts columns next text = after_step (λ d. mistake step ends d text) (option_map (csv_at columns) next) ≡ None

-- the rest is what is left at each place from which it is accepted
abbrev Known : ℕ → List ℕ → Type 0
Known columns text = (p : Place) → mistake step ends (csv_at columns p) text ≡ None → Goes columns p text

on : (columns : ℕ) (p : Place) (text : List ℕ) → Known columns text → Accepts columns (Some p) text → Goes columns p text
on columns p text known h = known p (went (λ x. mistake step ends x text) (csv_at columns p) h)

on_if : (columns : ℕ) (p : Place) (t : Bool) (text : List ℕ) → Known columns text → Accepts columns (then_some t p) text → (t ≡ true) × Goes columns p text
on_if columns p true text known h = (refl, on columns p text known h)
on_if columns p false text known h = cc

equal_of : (m n : ℕ) → (m == n) ≡ true → m ≡ n
equal_of m n = grind (arith, common_steps)

-- a record ends with a carriage return and a newline
returned : (columns fields : ℕ) (text : List ℕ) → fields + 1 ≡ columns → ReturnLeft columns text → Left columns (TailLeft columns fields) (13 ∷ text)
returned columns fields _ e (then_newline text c) = before_more [] (13 ∷ 10 ∷ []) text (no_more e) return_newline c

-- where a field may end
tail_goes : (s : Sign) (columns fields b : ℕ) (text : List ℕ) → sign_of b ≡ s → Accepts columns (after_field columns fields s) text → Known columns text
    → Left columns (TailLeft columns fields) (b ∷ text)
tail_goes sign.Comma columns fields b text e h known = rw (byte_of sign.Comma b e refl)
    (left-cons columns 44 text (λ t p. a_comma t p) (on_if columns (at.Field (fields + 1)) (nat_lt (fields + 1) columns) text known h).1)
tail_goes sign.Newline columns fields b text e h known =
    let found = on_if columns at.Start (fields + 1 == columns) text known h in
    rw (byte_of sign.Newline b e refl) (before_more [] (10 ∷ []) text (no_more (equal_of (fields + 1) columns found.0)) newline found.1)
tail_goes sign.Return columns fields b text e h known =
    let found = on_if columns at.Return (fields + 1 == columns) text known h in
    rw (byte_of sign.Return b e refl) (returned columns fields text (equal_of (fields + 1) columns found.0) found.1)
tail_goes _ columns fields b text e h known = cc

bare_goes : (s : Sign) (columns fields b : ℕ) (text : List ℕ) → sign_of b ≡ s → Accepts columns (after_bare columns fields s) text → Known columns text
    → Left columns (BareLeft columns fields) (b ∷ text)
bare_goes sign.Other columns fields b text e h known =
    left-cons columns b text (λ t p. bare_more columns fields b t (bares b ∙ ap other_sign e) p) (on columns (at.Bare fields) text known h)
bare_goes s columns fields b text e h known = left-map columns (b ∷ text) (λ t p. bare_left [] t refl p) (tail_goes s columns fields b text e h known)

field_goes : (s : Sign) (columns fields b : ℕ) (text : List ℕ) → sign_of b ≡ s → Accepts columns (at_field columns fields s) text → Known columns text
    → Left columns (FieldsLeft columns fields) (b ∷ text)
field_goes sign.Quote columns fields b text e h known = rw (byte_of sign.Quote b e refl) (left-cons columns 34 text (λ t p. quoted_first columns fields t p) (on columns (at.Quoted fields) text known h))
field_goes s columns fields b text e h known = left-map columns (b ∷ text) (λ t p. bare_first columns fields t p) (bare_goes s columns fields b text e h known)

-- where a record begins
start_goes : (s : Sign) (columns b : ℕ) (text : List ℕ) → sign_of b ≡ s → Accepts columns (after_sign columns at.Start s) text → Known columns text
    → IsCsv columns (b ∷ text)
start_goes sign.Quote columns b text e h known = rw (byte_of sign.Quote b e refl)
    (records_left columns (34 ∷ text) (left-cons columns 34 text (λ t p. record_of columns 34 t (quoted_first columns 0 t p)) (on columns (at.Quoted 0) text known h)))
start_goes sign.Other columns b text e h known =
    records_left columns (b ∷ text) (left-cons columns b text
    (λ t p. record_of columns b t (bare_first columns 0 (b ∷ t) (bare_more columns 0 b t (bares b ∙ ap other_sign e) p)))
    (on columns (at.Bare 0) text known h))
start_goes sign.Comma columns b text e h known = rw (byte_of sign.Comma b e refl)
    (records_left columns (44 ∷ text) (left-cons columns 44 text
    (λ t p. record_of columns 44 t (bare_first columns 0 (44 ∷ t) (bare_left [] (44 ∷ t) refl (a_comma t p))))
    (on_if columns (at.Field (0 + 1)) (nat_lt (0 + 1) columns) text known h).1))
start_goes _ columns b text e h known = cc

quoted_goes : (s : Sign) (columns fields b : ℕ) (text : List ℕ) → sign_of b ≡ s → Accepts columns (after_sign columns (at.Quoted fields) s) text → Known columns text
    → Left columns (QuotedLeft columns fields) (b ∷ text)
quoted_goes sign.Null columns fields b text e h known = cc
quoted_goes sign.Quote columns fields b text e h known = rw (byte_of sign.Quote b e refl) (left-cons columns 34 text (λ t p. quote_more columns fields t p) (on columns (at.Quote fields) text known h))
quoted_goes _ columns fields b text e h known =
    left-cons columns b text (λ t p. inside_more columns fields b t (insides b ∙ ap inside_sign e) p) (on columns (at.Quoted fields) text known h)

quote_goes : (s : Sign) (columns fields b : ℕ) (text : List ℕ) → sign_of b ≡ s → Accepts columns (after_sign columns (at.Quote fields) s) text → Known columns text
    → Left columns (QuoteLeft columns fields) (b ∷ text)
quote_goes sign.Quote columns fields b text e h known = rw (byte_of sign.Quote b e refl) (left-cons columns 34 text (λ t p. again t p) (on columns (at.Quoted fields) text known h))
quote_goes s columns fields b text e h known = left-map columns (b ∷ text) (λ t p. closed p) (tail_goes s columns fields b text e h known)

return_goes : (s : Sign) (columns b : ℕ) (text : List ℕ) → sign_of b ≡ s → Accepts columns (after_sign columns at.Return s) text → Known columns text
    → ReturnLeft columns (b ∷ text)
return_goes sign.Newline columns b text e h known = rw (byte_of sign.Newline b e refl) (then_newline text (on columns at.Start text known h))
return_goes _ columns b text e h known = cc

byte_goes : (columns : ℕ) (p : Place) (b : ℕ) (text : List ℕ) → Accepts columns (after_sign columns p (sign_of b)) text → Known columns text
    → Goes columns p (b ∷ text)
byte_goes columns at.Start b text h known = start_goes (sign_of b) columns b text refl h known
byte_goes columns (at.Field fields) b text h known = field_goes (sign_of b) columns fields b text refl h known
byte_goes columns (at.Bare fields) b text h known = bare_goes (sign_of b) columns fields b text refl h known
byte_goes columns (at.Quoted fields) b text h known = quoted_goes (sign_of b) columns fields b text refl h known
byte_goes columns (at.Quote fields) b text h known = quote_goes (sign_of b) columns fields b text refl h known
byte_goes columns at.Return b text h known = return_goes (sign_of b) columns b text refl h known

-- ---- the end

ends_if : (t : Bool) → cond {A = Option ℕ} t None (Some 0) ≡ None → t ≡ true
ends_if true h = refl
ends_if false h = cc

tail_ends : (columns fields : ℕ) → cond {A = Option ℕ} (fields + 1 == columns) None (Some 0) ≡ None → TailLeft columns fields []
tail_ends columns fields h = no_more (equal_of (fields + 1) columns (ends_if (fields + 1 == columns) h))

end_goes : (columns : ℕ) (p : Place) → mistake step ends (csv_at columns p) [] ≡ None → Goes columns p []
unfolding mistake
end_goes columns at.Start h = empty
end_goes columns (at.Field fields) h = at_last (bare_first columns fields [] (bare_left [] [] refl (tail_ends columns fields h)))
end_goes columns (at.Bare fields) h = at_last (bare_left [] [] refl (tail_ends columns fields h))
end_goes columns (at.Quote fields) h = at_last (closed (tail_ends columns fields h))
end_goes columns _ h = cc

all_goes : (columns : ℕ) (text : List ℕ) (p : Place) → mistake step ends (csv_at columns p) text ≡ None → Goes columns p text
unfolding mistake
all_goes columns [] p h = end_goes columns p h
all_goes columns (b ∷ text) p h = byte_goes columns p b text h (all_goes columns text)

-- what the machine accepts is CSV
pub csv_within : (columns : ℕ) (text : List ℕ) → csv_mistake columns text ≡ None → IsCsv columns text
csv_within columns text h = all_goes columns text at.Start h
