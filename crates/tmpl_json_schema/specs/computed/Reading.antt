-- What is computed of a schema but for what stands inside it: its kinds, strings and fields.
use Rattle.std.specs.Prelude.{ℕ, suc, nat_le, Bool, true, false, not, ◌&&◌, ◌||◌, List, [], ◌∷◌, Option, Some, None}
use Rattle.std.specs.Prelude.{if◌then◌else◌, codes, is_some, unwrap_or}
use Rattle.std.specs.Option.{option_map, option_map_or, option_and_then}
use Rattle.std.specs.Str.{bytes_eq}
use Rattle.serde_json.specs.Data as json
use Rattle.serde_json.specs.Data.{Data, Items, no_items}
use Rattle.serde_json.specs.Find.{as_i64, as_number, as_u64, get}
use Rattle.tmpl_shape.specs.Shape.{Shape, never, nothings, nulls, truths, numbers, texts, exactly, anything, list_of, record_of}
use Rattle.tmpl_shape.specs.Shape.{either, Fields, no_field, others, field}
use Rattle.tmpl_shape.specs.declared.constant.Constant.{Constant}
use Rattle.tmpl_shape.specs.declared.constant.Constant.TheVariants as constant
use Rattle.tmpl_shape.specs.computed.Meet.{or_shape}
use Rattle.tmpl_shape.specs.computed.Shapes.{is_never}
use Rattle.tmpl_json_schema.specs.Document.{fragment_of, has_const}
use Rattle.tmpl_json_schema.specs.declared.draft.Draft.{Draft}
use Rattle.tmpl_json_schema.specs.declared.kinds.Kinds.{Kinds}

-- what comes of items one after the other, unless one gives nothing
abbrev pub fold : {A : Type 0} → (A → Data → Option A) → A → Items → Option A
fold f a no_items = Some a
fold f a (json.item d ds) = option_and_then (λ b. fold f b ds) (f a d)

-- ---- kinds

abbrev pub every_kind : Kinds
every_kind = record { null = true; truth = true; number = true; text = true; list = true; map = true }

abbrev pub no_kind : Kinds
no_kind = record { null = false; truth = false; number = false; text = false; list = false; map = false }

abbrev pub either_kinds : Kinds → Kinds → Kinds
either_kinds a b = record {
  null = a.null || b.null;
  truth = a.truth || b.truth;
  number = a.number || b.number;
  text = a.text || b.text;
  list = a.list || b.list;
  map = a.map || b.map;
}

abbrev pub both_kinds : Kinds → Kinds → Kinds
both_kinds a b = record {
  null = a.null && b.null;
  truth = a.truth && b.truth;
  number = a.number && b.number;
  text = a.text && b.text;
  list = a.list && b.list;
  map = a.map && b.map;
}

abbrev pub is_every_kind : Kinds → Bool
is_every_kind a = a.null && (a.truth && (a.number && (a.text && (a.list && a.map))))

abbrev pub only_null : Kinds
only_null = record { null = true; truth = false; number = false; text = false; list = false; map = false }

abbrev pub only_truth : Kinds
only_truth = record { null = false; truth = true; number = false; text = false; list = false; map = false }

abbrev pub only_number : Kinds
only_number = record { null = false; truth = false; number = true; text = false; list = false; map = false }

abbrev pub only_text : Kinds
only_text = record { null = false; truth = false; number = false; text = true; list = false; map = false }

abbrev pub only_list : Kinds
only_list = record { null = false; truth = false; number = false; text = false; list = true; map = false }

abbrev pub only_map : Kinds
only_map = record { null = false; truth = false; number = false; text = false; list = false; map = true }

-- .. of a type's name
abbrev pub kind_named : List ℕ → Option Kinds
kind_named w =
    if bytes_eq w (codes "null") then Some only_null
    else if bytes_eq w (codes "boolean") then Some only_truth
    else if bytes_eq w (codes "integer") then Some only_number
    else if bytes_eq w (codes "number") then Some only_number
    else if bytes_eq w (codes "string") then Some only_text
    else if bytes_eq w (codes "array") then Some only_list
    else if bytes_eq w (codes "object") then Some only_map
    else None

abbrev pub kind_with : Kinds → Data → Option Kinds
kind_with a (json.string w) = option_map (either_kinds a) (kind_named w)
kind_with a d = None

abbrev pub type_kinds : Data → Option Kinds
type_kinds (json.string w) = kind_named w
type_kinds (json.array ds) = fold kind_with no_kind ds
type_kinds d = None

-- .. of a constant
abbrev pub constant_kind : Data → Kinds
constant_kind json.null = only_null
constant_kind (json.boolean b) = only_truth
constant_kind (json.number n) = only_number
constant_kind (json.string s) = only_text
constant_kind (json.array ds) = only_list
constant_kind (json.object ms) = only_map

abbrev pub constant_with : Kinds → Data → Option Kinds
constant_with a d = Some (either_kinds a (constant_kind d))

abbrev pub enum_kinds : Data → Option Kinds
enum_kinds (json.array ds) = fold constant_with no_kind ds
enum_kinds d = None

-- .. by `type`, `const` and `enum`
abbrev pub types_in : Data → Option Kinds
types_in d = option_map_or type_kinds (get (codes "type") d) (Some every_kind)

abbrev pub const_in : Data → Kinds
const_in d = option_map_or constant_kind (get (codes "const") d) every_kind

abbrev pub enum_in : Data → Option Kinds
enum_in d = option_map_or enum_kinds (get (codes "enum") d) (Some every_kind)

abbrev pub kinds_in : Data → Option Kinds
kinds_in d = option_and_then (λ a. option_map (λ b. both_kinds a (both_kinds b (const_in d))) (enum_in d)) (types_in d)

-- .. of any schema
abbrev pub kinds_of : Data → Option Kinds
kinds_of (json.boolean true) = Some every_kind
kinds_of (json.boolean false) = Some no_kind
kinds_of d = kinds_in d

-- ---- shapes

abbrev pub is_anything : Shape → Bool
is_anything anything = true
is_anything s = false

abbrev pub or_if : Bool → Shape → Shape → Shape
or_if c s t = if c then or_shape s t else t

-- the strings, numbers and booleans that a constant is, and those that `const` and `enum` leave, of which not too many are followed
abbrev pub leaves : Shape
leaves = either truths (either numbers texts)

abbrev pub const_leaves : Data → Shape
const_leaves (json.boolean b) = exactly (constant.Bool b)
const_leaves (json.number n) = option_map_or (λ i. exactly (constant.Number i)) (as_i64 n) numbers
const_leaves (json.string t) = exactly (constant.Text t)
const_leaves d = never

abbrev pub leaf_with : Shape → Data → Option Shape
leaf_with s d = Some (or_shape (const_leaves d) s)

abbrev pub item_count : Items → ℕ
item_count no_items = 0
item_count (json.item d ds) = suc (item_count ds)

abbrev pub is_short : Items → Bool
is_short ds = nat_le (item_count ds) 32

abbrev pub enum_leaves : Data → Shape
enum_leaves (json.array ds) = if is_short ds then unwrap_or (fold leaf_with never ds) leaves else leaves
enum_leaves d = leaves

abbrev pub leaves_in : Data → Shape
leaves_in d = option_map_or const_leaves (get (codes "const") d) (option_map_or enum_leaves (get (codes "enum") d) leaves)

abbrev pub if_kind : Bool → Shape → Shape
if_kind c s = if c then s else never

-- a constant is of these kinds
abbrev pub has_kind : Kinds → Constant → Bool
has_kind ks (constant.Bool b) = ks.truth
has_kind ks (constant.Number n) = ks.number
has_kind ks (constant.Text t) = ks.text

-- of the values of these kinds
abbrev pub keep_kinds : Kinds → Shape → Shape
keep_kinds ks never = never
keep_kinds ks nothings = never
keep_kinds ks nulls = if_kind ks.null nulls
keep_kinds ks truths = if_kind ks.truth truths
keep_kinds ks numbers = if_kind ks.number numbers
keep_kinds ks texts = if_kind ks.text texts
keep_kinds ks (exactly c) = if_kind (has_kind ks c) (exactly c)
keep_kinds ks (list_of n s) = if_kind ks.list (list_of n s)
keep_kinds ks (record_of fs) = if_kind ks.map (record_of fs)
keep_kinds ks (either s t) = or_shape (keep_kinds ks s) (keep_kinds ks t)
keep_kinds ks s = s

abbrev pub by_kinds : Kinds → Shape → ℕ → Shape → Fields → Shape
by_kinds ks ls n i fs =
    or_if ks.null nulls (or_shape (keep_kinds ks ls) (or_if ks.list (list_of n i) (or_if ks.map (record_of fs) never)))

-- the fields that are not named
abbrev pub rest_of : Shape → Fields
rest_of s = if is_never s then no_field else others s

-- .. and the shape of one of them
abbrev pub shape_of_rest : Fields → Shape
shape_of_rest (others s) = s
shape_of_rest fs = never

-- one more that is always there, unless it is a property
abbrev pub with_required : Option Data → Shape → Fields → Data → Option Fields
with_required ps r fs (json.string k) = Some (if is_some (option_and_then (get k) ps) then fs else field k true r fs)
with_required ps r fs d = None

abbrev pub required_fields : Option Data → Fields → Data → Option Fields
required_fields ps rest (json.array ds) = fold (with_required ps (shape_of_rest rest)) rest ds
required_fields ps rest d = None

-- the key is one of these
abbrev pub is_key : List ℕ → Items → Bool
is_key k no_items = false
is_key k (json.item (json.string l) ds) = bytes_eq k l || is_key k ds
is_key k (json.item d ds) = is_key k ds

abbrev pub is_required : List ℕ → Option Data → Bool
is_required k (Some (json.array ds)) = is_key k ds
is_required k o = false

-- what stands there about fields and items
abbrev pub has_content : Data → Bool
has_content d =
    is_some (get (codes "properties") d) || (is_some (get (codes "required") d)
    || (is_some (get (codes "additionalProperties") d) || (is_some (get (codes "items") d) || is_some (get (codes "minItems") d))))

-- how many items a list has at least
abbrev pub count_of : Data → ℕ
count_of d = unwrap_or (option_and_then as_u64 (as_number d)) 0

abbrev pub least_in : Data → ℕ
least_in d = option_map_or count_of (get (codes "minItems") d) 0

-- the first that there is
abbrev pub or_else : Option Data → Option Data → Option Data
or_else None o = o
or_else (Some d) o = Some d

-- the alternatives, and those that are not beside keywords of fields and items
abbrev pub alternatives_in : Data → Option Data
alternatives_in d = or_else (get (codes "anyOf") d) (get (codes "oneOf") d)

abbrev pub choices_in : Data → Option Data
choices_in d = if has_content d then None else alternatives_in d

abbrev pub is_listed : List (List ℕ) → List ℕ → Bool
is_listed [] x = false
is_listed (y ∷ ys) x = bytes_eq x y || is_listed ys x

-- the pointer of a `$ref`, if it is one of these
abbrev pub if_listed : List (List ℕ) → List ℕ → Option (List ℕ)
if_listed names p = if is_listed names p then Some p else None

abbrev pub listed_in : List (List ℕ) → Data → Option (List ℕ)
listed_in names (json.string r) = option_and_then (if_listed names) (fragment_of r)
listed_in names d = None

abbrev pub required_in : Data → Fields → Option Fields
required_in d rest = option_map_or (required_fields (get (codes "properties") d) rest) (get (codes "required") d) (Some rest)

-- a `const` that the draft does not have
abbrev pub is_unread : Draft → Data → Bool
is_unread draft d = is_some (get (codes "const") d) && not (has_const draft)
