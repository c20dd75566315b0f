-- The shapes of calls: a row for each function, by the kinds of which its arguments may be.
use Rattle.std.specs.Prelude.{Bool, true, false, not, ◌&&◌, ◌||◌, List, [], ◌∷◌, map, Option, Some, None, if◌then◌else◌}
use Rattle.tmpl_funcs.specs.declared.func.Func.{Func}
use Rattle.tmpl_funcs.specs.declared.func.Func.TheVariants.{And, Or, Not, Len, Index, Slice, Print, Println, Printf}
use Rattle.tmpl_funcs.specs.declared.func.Func.TheVariants.{Html, Urlquery, Eq, Ne, Lt, Le, Gt, Ge}
use Rattle.tmpl_shape.specs.declared.kind.Kind.{Kind}
use Rattle.tmpl_shape.specs.declared.kind.Kind.TheVariants.{Blank, Truth, Number, Text, Many}
use Rattle.tmpl_shape.specs.declared.kind.Kinds.{Kinds}
use Rattle.tmpl_shape.specs.Shape.{Shape, truths, numbers, texts}
use Rattle.tmpl_shape.specs.computed.Shapes.{Base, kinds_of}

-- there may be values of the kind
abbrev pub has : Kinds → Kind → Bool
has ks Blank = ks.blank
has ks Truth = ks.truth
has ks Number = ks.number
has ks Text = ks.text
has ks Many = ks.many

-- what holds of each kind
abbrev pub each_kind : (Kind → Bool) → Bool
each_kind p = p Blank && (p Truth && (p Number && (p Text && p Many)))

-- a value of the kind can't be compared by `eq` with one of those kinds
abbrev pub clashes : Kind → Kinds → Bool
clashes Blank ks = false
clashes Truth ks = ks.number || (ks.text || ks.many)
clashes Number ks = ks.truth || (ks.text || ks.many)
clashes Text ks = ks.truth || (ks.number || ks.many)
clashes Many ks = ks.truth || (ks.number || (ks.text || ks.many))

-- each two values can be compared by `eq`
abbrev pub comparable : Kinds → Kinds → Bool
comparable a b = each_kind (λ k. not (has a k) || not (clashes k b))

abbrev pub comparable_to_all : Kinds → List Kinds → Bool
comparable_to_all a [] = true
comparable_to_all a (b ∷ bs) = comparable a b && comparable_to_all a bs

abbrev pub only_numbers : Kinds → Bool
only_numbers ks = not (ks.blank || (ks.truth || (ks.text || ks.many)))

abbrev pub only_texts : Kinds → Bool
only_texts ks = not (ks.blank || (ks.truth || (ks.number || ks.many)))

-- each two values can be ordered
abbrev pub orderable : Kinds → Kinds → Bool
orderable a b = (only_numbers a && only_numbers b) || (only_texts a && only_texts b)

-- texts, lists and maps
abbrev pub is_sized : Kinds → Bool
is_sized ks = not (ks.blank || (ks.truth || ks.number))

abbrev pub one_kind : (Kinds → Option Shape) → List Kinds → Option Shape
one_kind f (a ∷ []) = f a
one_kind f ks = None

abbrev pub two_kinds : (Kinds → Kinds → Option Shape) → List Kinds → Option Shape
two_kinds f (a ∷ b ∷ []) = f a b
two_kinds f ks = None

abbrev pub truths_if : Bool → Option Shape
truths_if c = if c then Some truths else None

abbrev pub numbers_if : Bool → Option Shape
numbers_if c = if c then Some numbers else None

abbrev pub equal_shape : List Kinds → Option Shape
equal_shape (a ∷ b ∷ bs) = truths_if (comparable_to_all a (b ∷ bs))
equal_shape ks = None

abbrev pub ordered_shape : List Kinds → Option Shape
ordered_shape ks = two_kinds (λ a b. truths_if (orderable a b)) ks

-- what a call gives, if it never is a fault; `index`, `slice` and `printf` are looked at elsewhere
abbrev pub kinds_shape : Func → List Kinds → Option Shape
kinds_shape Not ks = one_kind (λ a. Some truths) ks
kinds_shape Len ks = one_kind (λ a. numbers_if (is_sized a)) ks
kinds_shape Print ks = Some texts
kinds_shape Println ks = Some texts
kinds_shape Html ks = Some texts
kinds_shape Urlquery ks = Some texts
kinds_shape Eq ks = equal_shape ks
kinds_shape Ne ks = two_kinds (λ a b. truths_if (comparable a b)) ks
kinds_shape Lt ks = ordered_shape ks
kinds_shape Le ks = ordered_shape ks
kinds_shape Gt ks = ordered_shape ks
kinds_shape Ge ks = ordered_shape ks
kinds_shape f ks = None

-- .. by the shapes of its arguments
abbrev pub call_shape : Base → Func → List Shape → Option Shape
call_shape base f ss = kinds_shape f (map (kinds_of base) ss)

-- of the six, the one that a function is
abbrev pub shape_by_function :
    Func → Option Shape → Option Shape → Option Shape → Option Shape → Option Shape → Option Shape → Option Shape
shape_by_function And all every some index part printed = every
shape_by_function Or all every some index part printed = some
shape_by_function Index all every some index part printed = index
shape_by_function Slice all every some index part printed = part
shape_by_function Printf all every some index part printed = printed
shape_by_function f all every some index part printed = all
