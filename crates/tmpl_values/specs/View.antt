-- What the values of a run, and the fields that they answer, stand for.
use Rattle.std.specs.Prelude.{◌≡◌, Bool, true, false, not, Result, Ok, Err}
use Rattle.std.specs.declared.alloc.AllocError.{AllocError}
use Rattle.tmpl_values.specs.Value.{Value, nothing, null, boolean, number, string, sequence, mapping}
use Rattle.tmpl_values.specs.declared.value.Val.{Val}
use Rattle.tmpl_values.specs.declared.value.Val.TheVariants as kind
use Rattle.tmpl_values.specs.Field.{FieldValue, found, missing, of_nothing, no_field}
use Rattle.tmpl_values.specs.declared.field.Field.{Field}
use Rattle.tmpl_values.specs.declared.field.Field.TheVariants as answer
pub use Rattle.tmpl_values.specs.row.View.{value_of, items_of, entries_of}

-- the value that a `Val` stands for, whoever owns its bytes
abbrev pub val_of : Val → Value
val_of kind.Nothing = nothing
val_of kind.Null = null
val_of (kind.Bool b) = boolean b
val_of (kind.Num n) = number n
val_of (kind.Text s) = string s.now
val_of (kind.Made s) = string s.0
val_of (kind.List ds) = sequence (items_of ds.now)
val_of (kind.Map es) = mapping es.now

-- whether it is a made text, which alone takes memory to share
abbrev pub is_made : Val → Bool
is_made (kind.Made s) = true
is_made _ = false

-- whether `share` copies nothing of it: it is no made text, or one whose owners are counted
abbrev pub is_kept : Val → Bool
is_kept (kind.Made s) = s.1
is_kept _ = true

-- what an answer of `Val::field` stands for
abbrev pub field_of : Field → FieldValue
field_of (answer.Found v) = found (val_of v)
field_of answer.Missing = missing
field_of answer.OfNothing = of_nothing
field_of answer.NoField = no_field

-- the answer holds no made text
abbrev pub is_borrowed : Field → Bool
is_borrowed (answer.Found v) = not (is_made v)
is_borrowed _ = true

-- the same value once more, or a refusal, which a made text alone may meet
abbrev pub IsShared : Val → Result Val AllocError → Type 0
IsShared v (Ok w) = (val_of w ≡ val_of v) × (is_made w ≡ is_made v)
IsShared v (Err e) = is_made v ≡ true

-- the element at a place, after its index or key
abbrev pub element_of : Val × Val → Value × Value
element_of p = (val_of p.0, val_of p.1)
