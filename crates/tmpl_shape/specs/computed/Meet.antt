-- The shape that is computed for the values which two shapes share.
use Rattle.std.specs.Prelude.{ℕ, zero, suc, max, Bool, true, false, ◌||◌, Option, Some, None, if◌then◌else◌}
use Rattle.std.specs.Option.{option_map_or}
use Rattle.tmpl_shape.specs.Shape.{Shape, never, nothings, nulls, truths, numbers, texts, exactly, anything, list_of, record_of}
use Rattle.tmpl_shape.specs.Shape.{either, named, Fields, no_field, others, field}
use Rattle.tmpl_shape.specs.computed.Shapes.{is_listed, is_never, is_required, shape_at, has_constant}

-- alternatives, but none without a value
abbrev pub or_shape : Shape → Shape → Shape
or_shape s t = if is_never s then t else if is_never t then s else either s t

-- the alternatives one by one: by what those before the last and by what the last becomes
abbrev pub each_part : (Shape → Shape) → (Shape → Shape) → Shape → Shape
each_part f g (either s t) = or_shape (f s) (each_part f g t)
each_part f g s = g s

-- ---- shapes that are no alternatives

-- nothing is known of a value, or it stands in a definition
abbrev pub is_open : Shape → Bool
is_open anything = true
is_open (named x) = true
is_open s = false

-- of these the second is kept: a definition beside another shape is not followed
abbrev pub is_first_open : Shape → Shape → Bool
is_first_open anything t = true
is_first_open (named x) anything = false
is_first_open (named x) t = true
is_first_open s t = false

-- each value of the one is of the other, where neither is of lists or maps
abbrev pub leaf_within : Shape → Shape → Bool
leaf_within nothings nothings = true
leaf_within nulls nulls = true
leaf_within truths truths = true
leaf_within numbers numbers = true
leaf_within texts texts = true
leaf_within (exactly c) t = has_constant t c
leaf_within s t = false

abbrev pub meet_leaf : Shape → Shape → Shape
meet_leaf s t = if leaf_within s t then s else if leaf_within t s then t else never

-- ---- fields

-- the shape of the fields that are not named
abbrev pub rest_shape : Fields → Option Shape
rest_shape no_field = None
rest_shape (others s) = Some s
rest_shape (field n r s fs) = rest_shape fs

-- those of the second that the first does not name, before the rest
abbrev pub with_unlisted : Fields → Fields → Fields → Fields
with_unlisted fs no_field rest = rest
with_unlisted fs (others t) rest = rest
with_unlisted fs (field n r t gs) rest = if is_listed n fs then with_unlisted fs gs rest else field n r t (with_unlisted fs gs rest)

-- those of the second, each with what the first says of its name, before the rest
abbrev pub with_met : (Shape → Shape → Shape) → Fields → Fields → Fields → Fields
with_met m gs no_field rest = rest
with_met m gs (others s) rest = rest
with_met m gs (field n r s fs) rest = field n (r || is_required n gs) (option_map_or (m s) (shape_at n gs) never) (with_met m gs fs rest)

-- those that neither names
abbrev pub meet_rest : (Shape → Shape → Shape) → Option Shape → Option Shape → Fields
meet_rest m (Some s) (Some t) = others (m s t)
meet_rest m o p = no_field

abbrev pub meet_fields : (Shape → Shape → Shape) → Fields → Fields → Fields
meet_fields m fs gs = with_met m gs fs (with_unlisted fs gs (meet_rest m (rest_shape fs) (rest_shape gs)))

-- ---- any shapes

abbrev pub meet_forms : (Shape → Shape → Shape) → Shape → Shape → Shape
meet_forms m (list_of n s) (list_of k t) = list_of (max n k) (m s t)
meet_forms m (record_of fs) (record_of gs) = record_of (meet_fields m fs gs)
meet_forms m s t = meet_leaf s t

abbrev pub meet_one : (Shape → Shape → Shape) → Shape → Shape → Shape
meet_one m s t = if is_first_open s t then t else if is_open t then s else meet_forms m s t

-- the values of the second among those of the first, as far as this many steps show
abbrev pub meet : ℕ → Shape → Shape → Shape
meet zero s t = s
meet (suc n) s t = each_part (λ a. meet n a t) (λ a. each_part (meet n a) (meet_one (meet n) a) t) s
