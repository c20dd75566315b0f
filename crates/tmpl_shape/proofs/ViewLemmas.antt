-- For code on shapes: shapes and fields, seen by their parts.
use Rattle.std.proofs.Common.{rules, ◌≡◌, ◌+◌, List, ℕ, suc, Box, Global}
use Rattle.tmpl_shape.specs.Shape as spec
use Rattle.tmpl_shape.specs.View.{fields_of, shape_of}
use Rattle.tmpl_shape.specs.declared.constant.Constant.{Constant}
use Rattle.tmpl_shape.specs.declared.shape.Shape as held
use Rattle.tmpl_shape.specs.declared.shape.Shape.{the_lemmas}
use Rattle.tmpl_shape.specs.declared.shape.Fields as held_fields
use Rattle.tmpl_shape.specs.declared.shape.Field as held_field
use Rattle.tmpl_shape.specs.declared.shape.Field.{out-Field}

pub list_seen : (n : ℕ) (s : Box held.Shape Global) → shape_of (held.List n s) ≡ spec.list_of n (shape_of s.value)
list_seen n s = search (rules, the_lemmas)

pub record_seen : (fs : held_fields.Fields) → shape_of (held.Record fs) ≡ spec.record_of (fields_of fs)
record_seen fs = search (rules, the_lemmas)

pub either_seen : (s t : Box held.Shape Global) → shape_of (held.Either s t) ≡ spec.either (shape_of s.value) (shape_of t.value)
either_seen s t = search (rules, the_lemmas)

pub others_seen : (s : Box held.Shape Global) → fields_of (held_fields.Others s) ≡ spec.others (shape_of s.value)
others_seen s = search (rules, the_lemmas)

pub field_seen : (f : Box held_field.Field Global)
    → fields_of (held_fields.Field f)
    ≡ spec.field (out-Field f.value).name (out-Field f.value).required (shape_of (out-Field f.value).shape) (fields_of (out-Field f.value).rest)
field_seen f = search (rules, the_lemmas)

pub never_seen : shape_of held.Never ≡ spec.never
never_seen = search (rules, the_lemmas)

pub nothings_seen : shape_of held.Nothings ≡ spec.nothings
nothings_seen = search (rules, the_lemmas)

pub nulls_seen : shape_of held.Nulls ≡ spec.nulls
nulls_seen = search (rules, the_lemmas)

pub truths_seen : shape_of held.Truths ≡ spec.truths
truths_seen = search (rules, the_lemmas)

pub numbers_seen : shape_of held.Numbers ≡ spec.numbers
numbers_seen = search (rules, the_lemmas)

pub texts_seen : shape_of held.Texts ≡ spec.texts
texts_seen = search (rules, the_lemmas)

pub exactly_seen : (t : Constant) → shape_of (held.Exactly t) ≡ spec.exactly t
exactly_seen t = search (rules, the_lemmas)

pub anything_seen : shape_of held.Anything ≡ spec.anything
anything_seen = search (rules, the_lemmas)

pub named_seen : (x : List ℕ) → shape_of (held.Named x) ≡ spec.named x
named_seen x = search (rules, the_lemmas)

pub closed_seen : fields_of held_fields.Closed ≡ spec.no_field
closed_seen = search (rules, the_lemmas)

pub ruleset parts =
    (list_seen, record_seen, either_seen, others_seen, field_seen, never_seen, nothings_seen, nulls_seen, truths_seen, numbers_seen, texts_seen, exactly_seen, anything_seen, named_seen, closed_seen)

-- how many fields there are
abbrev pub count : spec.Fields → ℕ
count spec.no_field = 0
count (spec.others s) = 0
count (spec.field n r s fs) = suc (count fs)

-- how much there is to copy
abbrev mutual
  pub amount : spec.Shape → ℕ
  amount (spec.list_of n s) = suc (amount s)
  amount (spec.record_of fs) = suc (amounts fs)
  amount (spec.either s t) = suc (amount s + amount t)
  amount s = 0

  pub amounts : spec.Fields → ℕ
  amounts spec.no_field = 0
  amounts (spec.others s) = suc (amount s)
  amounts (spec.field n r s fs) = suc (amount s + amounts fs)
