-- For code on pipelines: the weight of operands one level at a time, by which its recursion ends, how many there are, and
-- their shapes as arguments.
use Rattle.std.proofs.Common.{◌≡◌, ◌∙◌, ◌+◌, ◌++◌, ℕ, true, List, [], ◌∷◌, map, Option, Some, None, length, option_to_list, refl, ap, sym, subst, append_assoc}
use Rattle.std.specs.Option.{option_map, option_and_then}
use Rattle.tmpl_grammar.specs.Tree.{Operand, nil, function, Operands, operand, command}
use Rattle.tmpl_funcs.specs.Func.{takes}
use Rattle.tmpl_funcs.specs.declared.func.Func.{Func}
use Rattle.tmpl_funcs.specs.declared.func.Func.TheVariants as func
use Rattle.tmpl_grammar.specs.Tree.{operand_count}
use Rattle.tmpl_meaning.specs.declared.missing_key.MissingKey.{MissingKey}
use Rattle.tmpl_shape.specs.Shape.{Shape}
use Rattle.tmpl_shape.specs.declared.kind.Kinds.{Kinds}
use Rattle.tmpl_shape.specs.computed.Shapes.{Base, kinds_of}
use Rattle.tmpl_shape.specs.computed.Calls.{kinds_shape}
use Rattle.tmpl_schema.specs.computed.Check.{State, calls, is_value, head_of, alone, command_shape, operand_shape, operand_shapes, printed_shape, text_of}
use Rattle.tmpl_shape.specs.computed.Formats.{printed_kinds}
use Rattle.tmpl_schema.specs.computed.View.{argument_kinds, called_shape}

module _ (base : Base) (m : MissingKey) (k : State) where
  pub more-arguments : (o : Operand) (os : Operands) (piped : Option Shape) (s : Shape) (ks ls : List Kinds) → operand_shape base m k o ≡ Some s
      → option_map (λ ms. (ks ++ (kinds_of base s ∷ [])) ++ ms) (argument_kinds base m k os piped) ≡ Some ls
      → option_map (λ ms. ks ++ ms) (argument_kinds base m k (operand o os) piped) ≡ Some ls
  more-arguments o os piped s ks ls is rest = rw is (by (operand_shapes base m k os) rest)
    where
      by : (r : Option (List Shape)) → option_map (λ ms. (ks ++ (kinds_of base s ∷ [])) ++ ms) (option_map (λ ss. map (kinds_of base) (ss ++ option_to_list piped)) r) ≡ Some ls
          → option_map (λ ms. ks ++ ms) (option_map (λ ss. map (kinds_of base) (ss ++ option_to_list piped)) (option_map (λ ss. s ∷ ss) r)) ≡ Some ls
      by None e = cc
      by (Some ts) e =
          let ms = map (kinds_of base) (ts ++ option_to_list piped) in
          let same : (ks ++ (kinds_of base s ∷ [])) ++ ms ≡ ls = cc in ap Some (sym (append_assoc ks (kinds_of base s ∷ []) ms) ∙ same)

  pub all-arguments : (os : Operands) (piped : Option Shape) (ls : List Kinds) → option_map (λ ms. [] ++ ms) (argument_kinds base m k os piped) ≡ Some ls
      → argument_kinds base m k os piped ≡ Some ls
  all-arguments os piped ls e = by (argument_kinds base m k os piped) e
    where
      by : (r : Option (List Kinds)) → option_map (λ ms. [] ++ ms) r ≡ Some ls → r ≡ Some ls
      by None e = cc
      by (Some ms) e = e

  -- what is computed of the kinds of arguments
  by-kinds : (g : List Kinds → Option Shape) (os : Operands) (piped : Option Shape) (ks : List Kinds) (s : Shape) → argument_kinds base m k os piped ≡ Some ks
      → g ks ≡ Some s → option_and_then (λ ts. g (map (kinds_of base) (ts ++ option_to_list piped))) (operand_shapes base m k os) ≡ Some s
  by-kinds g os piped ks s is call = by (operand_shapes base m k os) is
    where
      by : (r : Option (List Shape)) → option_map (λ ts. map (kinds_of base) (ts ++ option_to_list piped)) r ≡ Some ks
          → option_and_then (λ ts. g (map (kinds_of base) (ts ++ option_to_list piped))) r ≡ Some s
      by None e = cc
      by (Some ts) e = let same : map (kinds_of base) (ts ++ option_to_list piped) ≡ ks = cc in rw same call

  pub called-by : (f : Func) (os : Operands) (piped : Option Shape) (ks : List Kinds) (s : Shape) → argument_kinds base m k os piped ≡ Some ks
      → kinds_shape f ks ≡ Some s → called_shape base m k f os piped ≡ Some s
  called-by f os piped ks s is call = by-kinds (kinds_shape f) os piped ks s is call

  pub printed-by : (o : Operand) (os : Operands) (piped : Option Shape) (format : List ℕ) (ks : List Kinds) (s : Shape) → text_of o ≡ Some format
      → argument_kinds base m k os piped ≡ Some ks → printed_kinds format ks ≡ Some s → printed_shape base m k (operand o os) piped ≡ Some s
  printed-by o os piped format ks s text is call = rw text (by-kinds (printed_kinds format) os piped ks s is call)

  -- a command of a function that is called as most are
  pub function-by : (f : Func) (os : Operands) (piped : Option Shape) (s : Shape) → (f ≡ func.And → ⊥) → (f ≡ func.Or → ⊥) → (f ≡ func.Index → ⊥) → (f ≡ func.Slice → ⊥) → (f ≡ func.Printf → ⊥)
      → takes f (operand_count os + length (option_to_list piped)) ≡ true → called_shape base m k f os piped ≡ Some s
      → command_shape base m k (operand (function f) os) piped ≡ Some s
  function-by func.And os piped s a b c p d t e = absurd (a refl)
  function-by func.Or os piped s a b c p d t e = absurd (b refl)
  function-by func.Index os piped s a b c p d t e = absurd (c refl)
  function-by func.Slice os piped s a b c p d t e = absurd (p refl)
  function-by func.Printf os piped s a b c p d t e = absurd (d refl)
  function-by _ os piped s a b c p d t e = rw t e

  -- a command by what its first operand is
  pub head-function : (o : Operand) (f : Func) (os : Operands) (piped : Option Shape) (s : Shape) → calls f ≡ head_of o
      → command_shape base m k (operand (function f) os) piped ≡ Some s → command_shape base m k (operand o os) piped ≡ Some s
  head-function (function g) f os piped s is e =
      let same : f ≡ g = cc in subst (λ (h : Func). command_shape base m k (operand (function h) os) piped ≡ Some s) same e
  head-function nil f os piped s is e = cc
  head-function _ f os piped s is e = cc

  pub head-value : (o : Operand) (os : Operands) (piped : Option Shape) (s : Shape) → is_value ≡ head_of o → alone (operand_shape base m k o) piped os ≡ Some s
      → command_shape base m k (operand o os) piped ≡ Some s
  head-value (function g) os piped s is e = cc
  head-value nil os piped s is e = cc
  head-value _ os piped s is e = e

pub ruleset more = (more-arguments)

pub ruleset all = (all-arguments)

pub ruleset calls_by = (called-by)

pub ruleset formats = (printed-by)

pub ruleset functions = (function-by)

pub ruleset heads = (head-function, head-value)
