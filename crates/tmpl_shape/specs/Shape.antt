-- Shapes: what may be known of a value before a run.
use Rattle.std.specs.Prelude.{◌≡◌, ◌⊎◌, ◌≤◌, ℕ, zero, suc, Bool, true, false, List, length, Option, Some, None, IsSome}
use Rattle.std.specs.Str.{bytes_eq}
use Rattle.tmpl_values.specs.Value.{Value, nothing, null, boolean, number, string, sequence, mapping, Items, no_item}
use Rattle.tmpl_values.specs.Value.{item, Entries, no_entry, entry}
use Rattle.tmpl_values.specs.Elements.{values_of_items}
use Rattle.tmpl_values.specs.Field.{entry_at}
use Rattle.tmpl_shape.specs.declared.constant.Constant.{Constant}
use Rattle.tmpl_shape.specs.declared.constant.Constant.TheVariants as constant

mutual
  pub data Shape : Type 0 where
    -- no value
    never : Shape
    -- nothing, and null
    nothings : Shape
    nulls : Shape
    truths : Shape
    numbers : Shape
    texts : Shape
    -- this value alone
    exactly : Constant → Shape
    -- each value
    anything : Shape
    -- sequences of at least as many such values
    list_of : ℕ → Shape → Shape
    -- mappings with these fields
    record_of : Fields → Shape
    either : Shape → Shape → Shape
    -- of this name
    named : List ℕ → Shape

  -- fields: there is no other, or each other has the shape; or one more by its name, whether it is always there, and
  -- its shape
  pub data Fields : Type 0 where
    no_field : Fields
    others : Shape → Fields
    field : List ℕ → Bool → Shape → Fields → Fields

abbrev pub EachItem : (Value → Type 0) → Items → Type 0
EachItem P no_item = Unit {0}
EachItem P (item v vs) = P v × EachItem P vs

abbrev pub EachEntry : (List ℕ → Value → Type 0) → Entries → Type 0
EachEntry P no_entry = Unit {0}
EachEntry P (entry k v es) = P k v × EachEntry P es

-- no key comes twice
abbrev pub AreDistinct : Entries → Type 0
AreDistinct no_entry = Unit {0}
AreDistinct (entry k v es) = (entry_at k es ≡ None) × AreDistinct es

-- the fields that are always there are there
abbrev pub HasRequired : Fields → Entries → Type 0
HasRequired no_field es = Unit {0}
HasRequired (others s) es = Unit {0}
HasRequired (field name required s fs) es = (required ≡ true → IsSome (entry_at name es)) × HasRequired fs es

abbrev pub value_of : Constant → Value
value_of (constant.Bool b) = boolean b
value_of (constant.Number n) = number n
value_of (constant.Text s) = string s

-- which values a name stands for
abbrev pub Names : Type 1
Names = List ℕ → Value → Type 0

abbrev mutual
  pub HasShape : Names → Shape → Value → Type 0
  HasShape N anything v = Unit {0}
  HasShape N nothings nothing = Unit {0}
  HasShape N nulls null = Unit {0}
  HasShape N truths (boolean b) = Unit {0}
  HasShape N numbers (number n) = Unit {0}
  HasShape N texts (string s) = Unit {0}
  HasShape N (exactly c) v = v ≡ value_of c
  HasShape N (list_of n s) (sequence vs) = (n ≤ length (values_of_items vs)) × EachItem (HasShape N s) vs
  HasShape N (record_of fs) (mapping es) = AreDistinct es × EachEntry (IsField N fs) es × HasRequired fs es
  HasShape N (either a b) v = HasShape N a v ⊎ HasShape N b v
  HasShape N (named x) v = N x v
  HasShape N s v = ⊥

  -- the first of the fields of this name has the value's shape
  pub IsField : Names → Fields → List ℕ → Value → Type 0
  IsField N no_field k v = ⊥
  IsField N (others s) k v = HasShape N s v
  IsField N (field name required s fs) k v =
      ((bytes_eq k name ≡ true) × HasShape N s v) ⊎ ((bytes_eq k name ≡ false) × IsField N fs k v)

-- the shapes that names stand for
abbrev pub Defs : Type 0
Defs = List ℕ → Option Shape

abbrev pub IsOf : Option Shape → (Shape → Type 0) → Type 0
IsOf None P = ⊥
IsOf (Some s) P = P s

-- the values of a name, where names are followed as many times as this into one another
abbrev pub stands_in : Defs → ℕ → Names
stands_in defs zero x v = ⊥
stands_in defs (suc n) x v = IsOf (defs x) (λ s. HasShape (stands_in defs n) s v)

-- the values of a name
abbrev pub stands_for : Defs → Names
stands_for defs x v = (n : ℕ) × stands_in defs n x v

-- what is known of a value: its shape, in which names stand for these
pub record Schema : Type 0 where
  pub defs : Defs
  pub shape : Shape

abbrev pub Fits : Schema → Value → Type 0
Fits schema v = HasShape (stands_for schema.defs) schema.shape v
