-- What is computed with shapes: whether one is within another, what they become where a value is not empty, and the
-- shapes of fields and elements.
use Rattle.std.specs.Prelude.{ℕ, zero, suc, ◌-◌, ◌==◌, max, nat_le, nat_lt, Bool, true, false, not, ◌&&◌, ◌||◌, List, [], ◌∷◌, Option, Some, None}
use Rattle.std.specs.Prelude.{if◌then◌else◌, unwrap_or}
use Rattle.std.specs.Option.{option_map, option_map_or, option_and_then}
use Rattle.std.specs.Str.{bytes_eq}
use Rattle.tmpl_grammar.specs.Tree.{Binding, declare_pair, Operand, bool_constant, number_constant, text_constant, Operands, no_operand, operand}
use Rattle.tmpl_values.specs.Compare.{equality}
use Rattle.tmpl_values.specs.Truth.{truth}
use Rattle.tmpl_values.specs.Value.{Value, boolean, number, string}
use Rattle.tmpl_shape.specs.declared.constant.Constant.{Constant}
use Rattle.tmpl_shape.specs.declared.constant.Constant.TheVariants as constant
use Rattle.tmpl_shape.specs.declared.field.AbsentField.{AbsentField}
use Rattle.tmpl_shape.specs.declared.field.AbsentField.TheVariants.{Nothing, Null, Fault}
use Rattle.tmpl_shape.specs.declared.kind.Kind.{Kind}
use Rattle.tmpl_shape.specs.declared.kind.Kinds.{Kinds}
use Rattle.tmpl_shape.specs.declared.kind.Kind.TheVariants.{Blank, Truth, Number, Text, Many}
use Rattle.tmpl_shape.specs.Shape.{Shape, never, nothings, nulls, truths, numbers, texts, exactly, anything, list_of, record_of}
use Rattle.tmpl_shape.specs.Shape.{either, named, Defs, Fields, no_field, others, field, value_of}

-- the shapes of names; and before a question is given up, how many names are followed one into the other where shapes
-- are compared, and how many steps are taken into a shape, as to an alternative or to what a name stands for
pub record Base : Type 0 where
  pub defs : Defs
  pub names : ℕ
  pub limit : ℕ

-- the shapes of an index or key, and of an element
pub record Visit : Type 0 where
  pub key : Shape
  pub element : Shape

-- ---- tests

-- what is shown of a value: that it is neither nothing nor null, has at least as many items if it is a list, and is not empty
-- where that is one or more; that it is one of these constants, none of which is `nil`; or that it is none of the constants among these
pub data Test : Type 0 where
  has_least : ℕ → Test
  is_among : Operands → Test
  is_apart : Operands → Test

-- that it is neither nothing nor null
abbrev pub shows_there : Test → Bool
shows_there (is_apart os) = false
shows_there test = true

abbrev pub least_of : Test → ℕ
least_of (has_least n) = n
least_of test = 0

-- two constants are the same value
abbrev pub is_same : Value → Value → Bool
is_same v w = unwrap_or (equality v w) false

-- an operand is this constant
abbrev pub is_named : Value → Operand → Bool
is_named v (bool_constant b) = is_same v (boolean b)
is_named v (number_constant n) = is_same v (number n)
is_named v (text_constant s) = is_same v (string s)
is_named v o = false

-- a value is one of the constants
abbrev pub is_constant : Value → Operands → Bool
is_constant v no_operand = false
is_constant v (operand o os) = is_named v o || is_constant v os

-- that it may be this constant
abbrev pub lets_value : Test → Value → Bool
lets_value (has_least n) v = n == 0 || truth v
lets_value (is_among os) v = is_constant v os
lets_value (is_apart os) v = not (is_constant v os)

-- ---- fields

-- the shape that a field of this name has if it is there
abbrev pub shape_at : List ℕ → Fields → Option Shape
shape_at name no_field = None
shape_at name (others s) = Some s
shape_at name (field n required s fs) = if bytes_eq name n then Some s else shape_at name fs

-- a field of this name is always there
abbrev pub is_required : List ℕ → Fields → Bool
is_required name no_field = false
is_required name (others s) = false
is_required name (field n required s fs) = (bytes_eq name n && required) || is_required name fs

-- the fields of the second that are always there are so in the first
abbrev pub requires_all : Fields → Fields → Bool
requires_all fs no_field = true
requires_all fs (others s) = true
requires_all fs (field n required s gs) = (not required || is_required n fs) && requires_all fs gs

-- there is a field of this name
abbrev pub is_listed : List ℕ → Fields → Bool
is_listed name no_field = false
is_listed name (others s) = false
is_listed name (field n required s fs) = bytes_eq name n || is_listed name fs

-- with a field of this name that is always there and has the shape
abbrev pub with_field : List ℕ → Shape → Fields → Fields
with_field n t no_field = no_field
with_field n t (others s) = field n true t (others s)
with_field n t (field name required s fs) =
    if bytes_eq n name then field name true t fs else field name required s (with_field n t fs)

-- with the first that is always there and has the shape; where there is none but others may be, with this one
abbrev pub with_first : List ℕ → Shape → Fields → Fields
with_first n t no_field = no_field
with_first n t (others s) = field n true t (others s)
with_first n t (field name required s fs) = field name true t fs

-- the first field, and those after it
abbrev pub first_in : Fields → Option (List ℕ × Bool × Shape × Fields)
first_in (field n required s fs) = Some (n, required, s, fs)
first_in fs = None

-- the fields of the first, the last of them foremost, and then the second
abbrev pub onto : Fields → Fields → Fields
onto (field n required s fs) gs = onto fs (field n required s gs)
onto fs gs = gs

-- the second, joined by this with each alternative of the first in turn but the last, which only ends them
abbrev pub gathered : (Shape → Shape → Shape) → Shape → Shape → Shape
gathered f (either a back) s = gathered f back (f a s)
gathered f back s = s

-- ---- inclusion

-- each field that is none of all these may be among the others
abbrev pub others_within : (Shape → Bool) → Fields → Fields → Bool
others_within p all no_field = false
others_within p all (others t) = p t
others_within p all (field n required t gs) = (is_listed n all || p t) && others_within p all gs

-- each field of the second, the last of all these, may be among the third
abbrev pub fields_within : (Shape → Shape → Bool) → Fields → Fields → Fields → Bool
fields_within w all no_field gs = true
fields_within w all (others s) gs = others_within (w s) all gs
fields_within w all (field n required s fs) gs = option_map_or (w s) (shape_at n gs) false && fields_within w all fs gs

abbrev pub record_within : (Shape → Shape → Bool) → Fields → Fields → Bool
record_within w fs gs = fields_within w fs fs gs && requires_all fs gs

-- .. of which those at the front are compared one by one as long as both have the same names
abbrev pub fields_along : (Shape → Shape → Bool) → Fields → Fields → Bool
fields_along w (field n r s fs) (field m q t gs) =
    if bytes_eq n m then (not q || r) && (w s t && fields_along w fs gs)
    else record_within w (field n r s fs) (field m q t gs)
fields_along w fs gs = record_within w fs gs

-- this name is one of the alternatives
abbrev pub has_name : List ℕ → Shape → Bool
has_name x (either a b) = has_name x a || has_name x b
has_name x (named y) = bytes_eq x y
has_name x s = false

-- there is no value
abbrev pub is_never : Shape → Bool
is_never never = true
is_never s = false

-- where as many are left, with one less
abbrev pub if_more : (ℕ → Bool) → ℕ → Bool
if_more f zero = false
if_more f (suc k) = f k

-- a shape of one kind of values is of this kind
abbrev pub is_of_kind : Kind → Shape → Bool
is_of_kind Blank nothings = true
is_of_kind Blank nulls = true
is_of_kind Truth truths = true
is_of_kind Number numbers = true
is_of_kind Text texts = true
is_of_kind Many (list_of n s) = true
is_of_kind Many (record_of fs) = true
is_of_kind k s = false

-- the values of the kind of a constant
abbrev pub kind_shape : Constant → Shape
kind_shape (constant.Bool b) = truths
kind_shape (constant.Number n) = numbers
kind_shape (constant.Text s) = texts

-- a shape of one kind has this constant
abbrev pub has_constant : Shape → Constant → Bool
has_constant (exactly d) c = is_same (value_of c) (value_of d)
has_constant truths (constant.Bool b) = true
has_constant numbers (constant.Number n) = true
has_constant texts (constant.Text s) = true
has_constant s c = false

-- each value of a shape of one kind has another of one kind
abbrev pub plain_within : (Shape → Shape → Bool) → Shape → Shape → Bool
plain_within w nothings nothings = true
plain_within w nulls nulls = true
plain_within w truths truths = true
plain_within w numbers numbers = true
plain_within w texts texts = true
plain_within w (exactly c) t = has_constant t c
plain_within w (list_of n s) (list_of m t) = nat_le m n && w s t
plain_within w (record_of fs) (record_of gs) = fields_along w fs gs
plain_within w s t = false

-- each alternative is such: by what is asked of those before the last, of names, and of a shape of one kind
abbrev pub each_along : (Shape → Bool) → (List ℕ → Bool) → (Shape → Bool) → Shape → Bool
each_along f g p (either s t) = f s && each_along f g p t
each_along f g p never = true
each_along f g p (named x) = g x
each_along f g p s = p s

-- what is known of an index: it is this text, or a text, or this number
pub data Key : Type 0 where
  of_name : List ℕ → Key
  of_text : Key
  of_place : ℕ → Key

-- an item of a list of at least n of them, for an index at which there always is one
abbrev pub item_shape : Key → ℕ → Shape → Option Shape
item_shape (of_place i) n s = if nat_lt i n then Some s else None
item_shape key n s = None

-- the part of such a list between two bounds, or from one on, where there always is one
abbrev pub list_part : ℕ → Option ℕ → ℕ → Shape → Option Shape
list_part i None n s = if nat_le i n then Some (list_of (n - i) s) else None
list_part i (Some j) n s = if nat_le i j && nat_le j n then Some (list_of (j - i) s) else None

-- .. of a text: it as a whole
abbrev pub text_part : ℕ → Option ℕ → Option Shape
text_part zero None = Some texts
text_part i to = None

-- what stands for a field that is absent, if that is no fault
abbrev pub absent_shape : AbsentField → Option Shape
absent_shape Nothing = Some nothings
absent_shape Null = Some nulls
absent_shape Fault = None

abbrev pub visit : Shape → Shape → Option Visit
visit k e = Some (record { key = k; element = e })

abbrev pub number_visit : Binding → Option Visit
number_visit (declare_pair key name) = None
number_visit c = visit numbers numbers

-- of the maps of which the field of this name, which is there, becomes such
abbrev pub with_refined : List ℕ → Shape → Fields → Shape
with_refined name t fs = if is_never t then never else record_of (with_field name t fs)

-- of the values that are this constant
abbrev pub refine_constant : Test → List (List ℕ) → Constant → Shape
refine_constant test [] c = if lets_value test (value_of c) then exactly c else never
refine_constant test (name ∷ ns) c = exactly c

module _ (base : Base) where
  -- some alternative is such, or it has each value: by what is asked of those before the last, and of what names stand for
  abbrev pub some_along : (Shape → Bool) → (Shape → Bool) → Shape → Bool
  some_along f p (either s t) = f s || some_along f p t
  some_along f p (named x) = option_map_or f (base.defs x) false
  some_along f p anything = true
  some_along f p t = p t

  -- .. as far as this many steps show
  abbrev pub some_part : ℕ → (Shape → Bool) → Shape → Bool
  some_part zero p t = false
  some_part (suc n) p t = some_along (some_part n p) p t

  -- each value of the first has the second, as far as is seen where as many names are followed, and as many steps taken
  abbrev pub within_by : ℕ → ℕ → Shape → Shape → Bool
  within_by k zero s t = false
  within_by k (suc n) s t =
      each_along (λ u. within_by k n u t) (λ x. has_name x t || if_more (λ i. option_map_or (λ u. within_by i n u t) (base.defs x) false) k)
      (λ u. some_part 64 (plain_within (within_by k n) u) t) s

  unfoldable pub within : Shape → Shape → Bool
  within s t = within_by base.names base.limit s t

  -- ---- alternatives

  unfoldable pub join : Shape → Shape → Shape
  join s t = if within s t then t else if within t s then s else either s t

  -- two parts where there are both
  abbrev pub both : Option Shape → Option Shape → Option Shape
  both (Some s) (Some t) = Some (join s t)
  both s t = None

  -- it may have values of the kind, by whether what is in it may
  abbrev pub kind_step : (Shape → Bool) → Kind → Shape → Bool
  kind_step p k never = false
  kind_step p k anything = true
  kind_step p k (either s t) = p s || p t
  kind_step p k (named x) = option_map_or p (base.defs x) true
  kind_step p k (exactly c) = p (kind_shape c)
  kind_step p k s = is_of_kind k s

  abbrev pub may_be : ℕ → Kind → Shape → Bool
  may_be zero k s = true
  may_be (suc n) k s = kind_step (may_be n k) k s

  unfoldable pub has_kind : Kind → Shape → Bool
  has_kind k s = may_be base.limit k s

  -- the kinds of which it may have values
  abbrev pub kinds_of : Shape → Kinds
  kinds_of s = record {
    blank = has_kind Blank s;
    truth = has_kind Truth s;
    number = has_kind Number s;
    text = has_kind Text s;
    many = has_kind Many s;
  }

  -- of what a command gives: null is nothing
  abbrev pub gone_step : (Shape → Shape) → Shape → Shape
  gone_step f nulls = nothings
  gone_step f (either s t) = join (f s) (f t)
  gone_step f (named x) =
      if has_kind Blank (named x) then option_map_or f (base.defs x) (either (named x) nothings) else named x
  gone_step f s = s

  abbrev pub null_gone_by : ℕ → Shape → Shape
  null_gone_by zero s = either s nothings
  null_gone_by (suc n) s = gone_step (null_gone_by n) s

  abbrev pub null_gone : Shape → Shape
  null_gone s = null_gone_by base.limit s

  -- of the maps of which a test shows what it does of the field of the field of ..
  abbrev pub refine_record : Test → (List (List ℕ) → Shape → Shape) → List (List ℕ) → Fields → Shape
  refine_record test f [] fs = record_of fs
  refine_record test f (name ∷ ns) fs = if shows_there test || is_required name fs then
      option_map_or (λ s. with_refined name (f ns s) fs) (shape_at name fs) never else record_of fs

  -- of the values of which the test shows what it does of the field of the field of ..
  abbrev pub refine_step : Test → (List (List ℕ) → Shape → Shape) → List (List ℕ) → Shape → Shape
  refine_step test f ns nothings = if shows_there test then never else nothings
  refine_step test f ns nulls = if shows_there test then never else nulls
  refine_step test f ns (exactly c) = refine_constant test ns c
  refine_step test f ns (list_of n s) = list_of (max n (least_of test)) s
  refine_step test f ns (either s t) = join (f ns s) (f ns t)
  refine_step test f ns (named x) = option_map_or (f ns) (base.defs x) (named x)
  refine_step test f ns (record_of fs) = refine_record test f ns fs
  refine_step test f ns s = s

  abbrev pub refine_by : Test → ℕ → List (List ℕ) → Shape → Shape
  refine_by test zero ns s = s
  refine_by test (suc n) ns s = refine_step test (refine_by test n) ns s

  abbrev pub refine : Test → List (List ℕ) → Shape → Shape
  refine test ns s = refine_by test base.limit ns s

  -- of the values that are not empty
  abbrev pub fill : Shape → Shape
  fill s = refine (has_least 1) [] s

  -- ---- fields

  -- the values of a kind, where each value of the shape is of it
  abbrev pub spread : Shape → Shape → Shape → Shape
  spread s kind t = if within s kind then kind else t

  -- .. of which it is not followed which constants there are
  abbrev pub blurred : Shape → Shape
  blurred (exactly c) = kind_shape c
  blurred (either s t) = spread (either s t) texts (spread (either s t) numbers (spread (either s t) truths (either s t)))
  blurred s = s

  abbrev pub of_field : AbsentField → Bool → Shape → Option Shape
  of_field a true s = Some (blurred s)
  of_field a false s = both (Some (blurred s)) (absent_shape a)

  abbrev pub entry_shape : AbsentField → List ℕ → Fields → Option Shape
  entry_shape a n no_field = absent_shape a
  entry_shape a n (others s) = of_field a false s
  entry_shape a n (field name required s fs) = if bytes_eq n name then of_field a required s else entry_shape a n fs

  -- the shape of a field, if that is never a fault
  abbrev pub field_step : (Shape → Option Shape) → AbsentField → List ℕ → Shape → Option Shape
  field_step f a name never = Some never
  field_step f a name nothings = option_map (λ s. nothings) (absent_shape a)
  field_step f a name (record_of fs) = entry_shape a name fs
  field_step f a name (either s t) = both (f s) (f t)
  field_step f a name (named x) = option_and_then f (base.defs x)
  field_step f a name s = None

  abbrev pub field_shape_by : ℕ → AbsentField → List ℕ → Shape → Option Shape
  field_shape_by zero a name s = None
  field_shape_by (suc n) a name s = field_step (field_shape_by n a name) a name s

  abbrev pub field_shape : AbsentField → List ℕ → Shape → Option Shape
  field_shape a name s = field_shape_by base.limit a name s

  abbrev pub chain_shape : AbsentField → List (List ℕ) → Shape → Option Shape
  chain_shape a [] s = Some s
  chain_shape a (n ∷ ns) s = option_and_then (chain_shape a ns) (field_shape a n s)

  -- any of the fields
  abbrev pub any_field : Fields → Shape
  any_field no_field = never
  any_field (others s) = s
  any_field (field n required s fs) = join (blurred s) (any_field fs)

  -- an entry, or null
  abbrev pub keyed_shape : Key → Fields → Option Shape
  keyed_shape (of_name name) fs = entry_shape Null name fs
  keyed_shape of_text fs = Some (join (any_field fs) nulls)
  keyed_shape (of_place i) fs = None

  -- what `index` gives, if it gives something of each value
  abbrev pub index_step : (Shape → Option Shape) → Key → Shape → Option Shape
  index_step f key never = Some never
  index_step f key (list_of n s) = item_shape key n s
  index_step f key (record_of fs) = keyed_shape key fs
  index_step f key (either s t) = both (f s) (f t)
  index_step f key (named x) = option_and_then f (base.defs x)
  index_step f key s = None

  abbrev pub index_shape_by : ℕ → Key → Shape → Option Shape
  index_shape_by zero key s = None
  index_shape_by (suc n) key s = index_step (index_shape_by n key) key s

  abbrev pub index_shape : Key → Shape → Option Shape
  index_shape key s = index_shape_by base.limit key s

  -- what `slice` gives, if it gives something of each value
  abbrev pub part_step : (Shape → Option Shape) → ℕ → Option ℕ → Shape → Option Shape
  part_step f i to never = Some never
  part_step f i to texts = text_part i to
  part_step f i to (exactly c) = f (kind_shape c)
  part_step f i to (list_of n s) = list_part i to n s
  part_step f i to (either s t) = both (f s) (f t)
  part_step f i to (named x) = option_and_then f (base.defs x)
  part_step f i to s = None

  abbrev pub part_shape_by : ℕ → ℕ → Option ℕ → Shape → Option Shape
  part_shape_by zero i to s = None
  part_shape_by (suc n) i to s = part_step (part_shape_by n i to) i to s

  abbrev pub part_shape : ℕ → Option ℕ → Shape → Option Shape
  part_shape i to s = part_shape_by base.limit i to s

  -- ---- elements

  abbrev pub both_visits : Option Visit → Option Visit → Option Visit
  both_visits (Some v) (Some w) = visit (join v.key w.key) (join v.element w.element)
  both_visits v w = None

  -- .. that a range visits, if it may range over each value of the shape
  abbrev pub visit_step : (Shape → Option Visit) → Binding → Shape → Option Visit
  visit_step f c never = visit never never
  visit_step f c nothings = visit never never
  visit_step f c nulls = visit never never
  visit_step f c numbers = number_visit c
  visit_step f c (exactly d) = f (kind_shape d)
  visit_step f c (list_of n s) = visit numbers s
  visit_step f c (record_of fs) = visit texts (any_field fs)
  visit_step f c (either s t) = both_visits (f s) (f t)
  visit_step f c (named x) = option_and_then f (base.defs x)
  visit_step f c s = None

  abbrev pub visit_by : ℕ → Binding → Shape → Option Visit
  visit_by zero c s = None
  visit_by (suc n) c s = visit_step (visit_by n c) c s

  abbrev pub visit_of : Binding → Shape → Option Visit
  visit_of c s = visit_by base.limit c s
