-- What the program's values that only the check has stand for.
use Rattle.std.specs.Prelude.{ℕ, Bool, false, ◌||◌, List, Option, Box}
use Rattle.std.specs.Option.{option_map, option_map_or}
use Rattle.std.specs.Borrow.{Bor}
use Rattle.tmpl_shape.specs.Shape as spec
use Rattle.tmpl_shape.specs.View.{defs_in, fields_of, shape_of}
use Rattle.tmpl_shape.specs.declared.shape.Field as held_field
use Rattle.tmpl_shape.specs.declared.shape.Field.{out-Field}
use Rattle.std.specs.Global.{Global}
use Rattle.tmpl_shape.specs.computed.Shapes as computed
use Rattle.tmpl_grammar.specs.View.{operands_in}
use Rattle.tmpl_shape.specs.computed.Shapes.{Key, of_name, of_text, of_place, has_least, is_among, is_apart, has_name, if_more, within_by}
use Rattle.tmpl_shape.specs.declared.field.Key as held_key
use Rattle.tmpl_shape.specs.declared.field.Key.TheVariants as key
use Rattle.tmpl_shape.specs.declared.shape.Base as held_base
use Rattle.tmpl_shape.specs.declared.shape.Shape as held
use Rattle.tmpl_shape.specs.declared.test.Test as held_test
use Rattle.tmpl_shape.specs.declared.test.Test.TheVariants as test
use Rattle.tmpl_shape.specs.declared.visit.Visit as held_visit

abbrev pub base_of : held_base.Base → computed.Base
base_of base = record { defs = defs_in base.definitions.now; names = base.names; limit = base.limit }

abbrev pub shape_seen : Option (Bor held.Shape) → Option spec.Shape
shape_seen shape = option_map (λ s. shape_of s.now) shape

abbrev pub key_seen : held_key.Key → Key
key_seen (key.Name name) = of_name name.now
key_seen key.Text = of_text
key_seen (key.Place i) = of_place i

abbrev pub test_seen : held_test.Test → computed.Test
test_seen (test.There n) = has_least n
test_seen (test.Among os) = is_among (operands_in os.now)
test_seen (test.Apart os) = is_apart (operands_in os.now)

abbrev pub visit_seen : held_visit.Visit → computed.Visit
visit_seen v = record { key = shape_of v.key; element = shape_of v.element }

-- a name is one of the alternatives, or what it stands for is within the shape, where one more name is followed
abbrev pub name_within : computed.Base → ℕ → ℕ → List ℕ → spec.Shape → Bool
name_within base k n x t = has_name x t || if_more (λ i. option_map_or (λ s. within_by base i n s t) (base.defs x) false) k

-- a field, and those after it
abbrev pub first_seen : Box held_field.Field Global → List ℕ × Bool × spec.Shape × spec.Fields
first_seen f =
    let first = out-Field f.value in (first.name, first.required, shape_of first.shape, fields_of first.rest)
