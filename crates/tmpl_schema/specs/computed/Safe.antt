-- The law that an accepted template has no fault but those that it may have.
use Rattle.std.specs.Prelude.{◌≡◌, ◌⊎◌, ℕ, true, List, [], ◌∷◌, Option, Some, None, IfSome, Contains, unwrap_or}
use Rattle.std.specs.Option.{option_map_or}
use Rattle.tmpl_values.specs.Value.{Value, nothing}
use Rattle.tmpl_syntax.specs.Set.{Template, tree_named}
use Rattle.tmpl_syntax.specs.Tree.{Tree}
use Rattle.tmpl_meaning.specs.Meaning.{Rules, ran}
use Rattle.tmpl_meaning.specs.Pipeline.{without_null}
use Rattle.tmpl_meaning.specs.declared.missing_key.MissingKey.{MissingKey}
use Rattle.tmpl_meaning.specs.declared.missing_key.MissingKey.TheVariants.{Error}
use Rattle.tmpl_shape.specs.Shape.{Shape, HasShape, stands_for, texts}
use Rattle.tmpl_schema.specs.Safe.{Covers, MayEnd}
use Rattle.tmpl_shape.specs.computed.Shapes.{Base, within}
use Rattle.tmpl_schema.specs.computed.Check.{Callee, handed, absent, Table, is_safe}
use Rattle.tmpl_schema.specs.computed.Loops.{IsFound}

-- the mode in which a template is checked: the one that was asked for, or where each is, that in which least is given
abbrev pub mode_for : Option MissingKey → MissingKey
mode_for asked = unwrap_or asked Error

-- a template is accepted for values of the shape: by its nodes, or, for texts, as a copy loop
abbrev pub IsAccepted : Base → MissingKey → List (List ℕ) → List Template → Table → Shape → Tree → Type 0
IsAccepted base m stops set table s t =
    (is_safe base m table s t.nodes ≡ true) ⊎ ((within base s texts ≡ true) × IsFound base set stops t.nodes)

-- a template that is called is in the set, and is accepted for values of its shape; or it is not, and its call is a stop
abbrev pub IsCallee : Base → MissingKey → List (List ℕ) → List Template → Table → List ℕ → Callee → Type 0
IsCallee base m stops set table name (handed s) =
    (t : Tree) × (tree_named name set ≡ Some t) × IsAccepted base m stops set table s t
IsCallee base m stops set table name absent = (tree_named name set ≡ None) × Contains stops name

-- .. and so each of the table
abbrev pub IsChecked : Base → MissingKey → List (List ℕ) → List Template → Table → Type 0
IsChecked base m stops set table =
    (name : List ℕ) (c : Callee) → table name ≡ Some c → IsCallee base m stops set table name c

-- each of these is so
abbrev pub EachCallee : Base → MissingKey → List (List ℕ) → List Template → Table → List (List ℕ × Callee) → Type 0
EachCallee b m stops set table [] = Unit {0}
EachCallee b m stops set table (e ∷ es) = IsCallee b m stops set table e.0 e.1 × EachCallee b m stops set table es

-- the template of this name is there, and its run over a value of the shape in a mode that was asked for has no fault
-- but those that it may have
abbrev pub NeverFailsIn : Base → Option MissingKey → List (List ℕ) → List Template → List ℕ → Shape → Type 0
NeverFailsIn b asked stops set name s = (t : Tree) × (tree_named name set ≡ Some t)
    × ((rules : Rules) (input : Option Value) → Covers asked rules.missing_key
    → HasShape (stands_for b.defs) s (option_map_or without_null input nothing)
    → IfSome (ran rules set name t input).fault (λ f. MayEnd stops f.cause))

-- where a template is accepted for a shape, a run over a value of the shape, whatever the limits, has no other fault
abbrev pub RunsSafely : Type 0
RunsSafely = (base : Base) (stops : List (List ℕ)) (rules : Rules) (set : List Template) (table : Table) (name : List ℕ) (t : Tree)
    (s : Shape) (input : Option Value)
    → IsChecked base rules.missing_key stops set table → is_safe base rules.missing_key table s t.nodes ≡ true
    → HasShape (stands_for base.defs) s (option_map_or without_null input nothing)
    → IfSome (ran rules set name t input).fault (λ f. MayEnd stops f.cause)
