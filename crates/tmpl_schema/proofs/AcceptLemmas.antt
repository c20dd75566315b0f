-- For the call `check_schema`: what is accepted never fails.
use Rattle.std.proofs.Common.{◌≡◌, ℕ, Bool, true, false, List, [], ◌∷◌, Option, Some, None, unwrap_or, refl, sym, subst, if◌then◌else◌}
use Rattle.std.specs.Option.{option_map_or}
use Rattle.std.specs.Str.{bytes_eq}
use Rattle.tmpl_values.specs.Value.{Value, nothing}
use Rattle.tmpl_syntax.specs.Set.{Template, tree_named}
use Rattle.tmpl_syntax.specs.Tree.{Tree}
use Rattle.tmpl_meaning.specs.Pipeline.{without_null}
use Rattle.tmpl_meaning.specs.declared.missing_key.MissingKey.{MissingKey}
use Rattle.tmpl_shape.specs.Shape.{Shape, Schema, HasShape, stands_for}
use Rattle.tmpl_schema.specs.Safe.{NeverFails}
use Rattle.tmpl_schema.specs.declared.table.Entry as held
use Rattle.tmpl_shape.specs.computed.Shapes.{Base, null_gone}
use Rattle.tmpl_schema.specs.computed.Check.{Callee, Table, is_safe}
use Rattle.tmpl_schema.specs.computed.Safe.{EachCallee, IsCallee, IsChecked, NeverFailsIn, mode_for}
use Rattle.tmpl_schema.specs.computed.View.{callee_of, entries_of, table_of}
use Rattle.tmpl_schema.proofs.ModeLemmas.{in-asked, safe-keeps, checked-keeps}
use Rattle.tmpl_schema.proofs.SafeLemmas.{runs-safely}
use Rattle.tmpl_shape.proofs.NameLemmas.{meant}
use Rattle.tmpl_shape.proofs.ShapeLemmas.{same_name}
use Rattle.tmpl_schema.proofs.NullLemmas.{null_gone-has}

module _ (base : Base) (m : MissingKey) (stops : List (List ℕ)) (set : List Template) (table : Table) where
  each-found : (es : List held.Entry) → EachCallee base m stops set table (entries_of es)
      → (name : List ℕ) (c : Callee) → table_of es name ≡ Some c → IsCallee base m stops set table name c
  each-found [] h name c e = cc
  each-found (x ∷ es) h name c e = by (bytes_eq name x.name) refl e (each-found es h.1 name c)
    where
      by : (b : Bool) → bytes_eq name x.name ≡ b → (if b then Some (callee_of x.callee) else table_of es name) ≡ Some c
          → (table_of es name ≡ Some c → IsCallee base m stops set table name c) → IsCallee base m stops set table name c
      by true is e more =
          let same : callee_of x.callee ≡ c = cc in
          subst (λ (i : Callee). IsCallee base m stops set table name i) same
          (subst (λ (n : List ℕ). IsCallee base m stops set table n (callee_of x.callee)) (sym (same_name name x.name is)) h.0)
      by false is e more = more e

pub all-accepted : (base : Base) (asked : Option MissingKey) (stops : List (List ℕ)) (set : List Template)
    → (es : List held.Entry) (name : List ℕ) (s : Shape) (t : Tree) → Some t ≡ tree_named name set
    → is_safe base (mode_for asked) (table_of es) s t.nodes ≡ true
    → EachCallee base (mode_for asked) stops set (table_of es) (entries_of es)
    → NeverFailsIn base asked stops set name s
all-accepted base asked stops set es name s t named safe each = (
  t,
  sym named,
  λ rules input is fits.
      let table = table_of es in
      let m = rules.missing_key in
      runs-safely base stops rules set table name t s input
      (in-asked (λ i. IsChecked base i stops set table) asked m is (λ i. checked-keeps base i table stops set)
      (each-found base (mode_for asked) stops set table es each))
      (in-asked (λ i. is_safe base i table s t.nodes ≡ true) asked m is (λ i. safe-keeps base i table s t.nodes) safe)
      fits,
)

-- a value of the shape is one of the shape without null as a run takes it
start-has : (base : Base) (s : Shape) (input : Option Value) → HasShape (stands_for base.defs) s (unwrap_or input nothing)
    → HasShape (stands_for base.defs) (null_gone base s) (option_map_or without_null input nothing)
start-has base s None h = null_gone-has base (stands_for base.defs) (meant base.defs) s nothing h
start-has base s (Some v) h = null_gone-has base (stands_for base.defs) (meant base.defs) s v h

pub schema-accepted : (base : Base) (asked : Option MissingKey) (stops : List (List ℕ)) (set : List Template)
    → (name : List ℕ) (schema : Schema) → base.defs ≡ schema.defs
    → NeverFailsIn base asked stops set name (null_gone base schema.shape) → NeverFails schema asked stops set name
schema-accepted base asked stops set name schema same h = (
  h.0,
  h.1,
  λ rules input is fits. h.2 rules input is (start-has base schema.shape input (rw same fits)),
)
