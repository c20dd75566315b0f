-- What `printf` takes, by the shapes of its arguments. Whether it refuses them depends on their kinds alone, so a value of
-- each kind tells of all.
use Rattle.std.specs.Prelude.{pos, Bool, false, List, [], ◌∷◌, ℕ, map, is_ok, Option, Some, None, if◌then◌else◌}
use Rattle.tmpl_values.specs.Value.{Value, nothing, boolean, number, string, sequence, no_item}
use Rattle.tmpl_funcs.specs.Dispatch.{table_answer}
use Rattle.tmpl_funcs.specs.declared.func.Func.TheVariants.{Printf}
use Rattle.tmpl_shape.specs.declared.kind.Kind.{Kind}
use Rattle.tmpl_shape.specs.declared.kind.Kind.TheVariants.{Blank, Truth, Number, Text, Many}
use Rattle.tmpl_shape.specs.Shape.{Shape, texts}
use Rattle.tmpl_shape.specs.declared.kind.Kinds.{Kinds}
use Rattle.tmpl_shape.specs.computed.Shapes.{Base, kinds_of}
use Rattle.tmpl_shape.specs.computed.Calls.{each_kind, has}

-- a value of the kind
abbrev pub sample : Kind → Value
sample Blank = nothing
sample Truth = boolean false
sample Number = number (pos 0)
sample Text = string []
sample Many = sequence no_item

-- this kind where there may be values of it, and else one of which there may be
abbrev pub kind_in : Kind → Kinds → Kind
kind_in k ks =
    if has ks k then k
    else (if ks.text then Text else (if ks.number then Number else (if ks.truth then Truth else (if ks.blank then Blank else Many))))

-- an argument for each, each of this kind where it may be
abbrev pub samples : Kind → List Kinds → List Value
samples k kss = map (λ ks. sample (kind_in k ks)) kss

-- `printf` takes them
unfoldable pub prints : List ℕ → List Kinds → Kind → Bool
prints format kss k = is_ok (table_answer Printf (string format ∷ samples k kss))

-- what `printf` gives for a format and arguments of these kinds, if it refuses none of them
abbrev pub printed_kinds : List ℕ → List Kinds → Option Shape
printed_kinds format kss = if each_kind (prints format kss) then Some texts else None

-- .. of these shapes
abbrev pub printf_shape : Base → List ℕ → List Shape → Option Shape
printf_shape base format ss = printed_kinds format (map (kinds_of base) ss)
