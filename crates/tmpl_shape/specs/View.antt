-- What shapes and definitions stand for, apart from how they are held.
use Rattle.std.specs.Prelude.{List, [], ◌∷◌, Some, None, if◌then◌else◌}
use Rattle.std.specs.Str.{bytes_eq}
use Rattle.tmpl_shape.specs.Shape as spec
use Rattle.tmpl_shape.specs.Shape.{Defs}
use Rattle.tmpl_shape.specs.declared.shape.Shape as held
use Rattle.tmpl_shape.specs.declared.shape.Shape.{fold-Shape}
use Rattle.tmpl_shape.specs.declared.shape.Fields.TheOpen.{Shape-F, Fields-F, Field-F}
use Rattle.tmpl_shape.specs.declared.shape.Fields as held_fields
use Rattle.tmpl_shape.specs.declared.shape.Fields.{fold-Fields}
use Rattle.tmpl_shape.specs.declared.shape.Definition as held_definition
use Rattle.tmpl_shape.specs.declared.shape.Schema as held_schema

-- one shape, with what stands inside it already seen
abbrev pub shape_step : Shape-F spec.Fields spec.Shape spec.Fields → spec.Shape
shape_step Shape-F.Never = spec.never
shape_step Shape-F.Nothings = spec.nothings
shape_step Shape-F.Nulls = spec.nulls
shape_step Shape-F.Truths = spec.truths
shape_step Shape-F.Numbers = spec.numbers
shape_step Shape-F.Texts = spec.texts
shape_step (Shape-F.Exactly c) = spec.exactly c
shape_step Shape-F.Anything = spec.anything
shape_step (Shape-F.List n s) = spec.list_of n s.value
shape_step (Shape-F.Record fs) = spec.record_of fs
shape_step (Shape-F.Either s t) = spec.either s.value t.value
shape_step (Shape-F.Named x) = spec.named x

abbrev pub fields_step : Fields-F spec.Fields spec.Shape spec.Fields → spec.Fields
fields_step Fields-F.Closed = spec.no_field
fields_step (Fields-F.Others s) = spec.others s.value
fields_step (Fields-F.Field f) = f.value

abbrev pub field_step : Field-F spec.Fields spec.Shape spec.Fields → spec.Fields
field_step f = spec.field f.name f.required f.shape f.rest

abbrev pub shape_of : held.Shape → spec.Shape
shape_of = fold-Shape spec.Fields spec.Shape spec.Fields fields_step shape_step field_step

abbrev pub fields_of : held_fields.Fields → spec.Fields
fields_of = fold-Fields spec.Fields spec.Shape spec.Fields fields_step shape_step field_step

-- the shapes of names: the first definition of a name counts
abbrev pub defs_in : List held_definition.Definition → Defs
defs_in [] x = None
defs_in (d ∷ ds) x = if bytes_eq x d.name then Some (shape_of d.shape) else defs_in ds x

abbrev pub schema_of : held_schema.Schema → spec.Schema
schema_of s = record { defs = defs_in s.definitions.items; shape = shape_of s.shape }
