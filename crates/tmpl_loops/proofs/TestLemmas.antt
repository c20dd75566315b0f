-- For the law `copies`: what pipelines are that pass a test.
use Rattle.std.proofs.Common.{◌≡◌, ◌∙◌, Bool, true, false, ℕ, List, [], ◌∷◌, Option, Some, None, refl, sym, ap}
use Rattle.std.proofs.lemmas.Bool.{and_parts, false≢true}
use Rattle.std.proofs.lemmas.Slice.Eq.{bytes_eq-Decides}
use Rattle.std.specs.Option.{option_map_or}
use Rattle.tmpl_funcs.specs.declared.func.Func.{Func}
use Rattle.tmpl_funcs.specs.declared.func.Func.TheVariants.{Index, Slice}
use Rattle.tmpl_grammar.specs.Tree.{Operand, Operands, Pipeline, bool_constant, command, function, no_command, no_operand, operand, variable}
use Rattle.tmpl_loops.specs.Form.{Names, are_variables, indexing, call_in, indexes, is_indexing, is_slicing, slices, is_variable, is_yes, lone, named, one}

abbrev pub variables_from : List (List ℕ) → Operands
variables_from [] = no_operand
variables_from (n ∷ ns) = operand (named n) (variables_from ns)

pub variable-is : (name : List ℕ) (o : Operand) → is_variable name o ≡ true → o ≡ named name
variable-is name (variable m []) e = ap (λ m. variable m []) (sym ((bytes_eq-Decides name m).0 e))
variable-is name _ e = absurd (false≢true e)

pub variables-are : (ns : List (List ℕ)) (os : Operands) → are_variables ns os ≡ true → os ≡ variables_from ns
variables-are [] no_operand e = refl
variables-are (n ∷ ns) (operand o os) e =
    let p = and_parts (is_variable n o) (are_variables ns os) e in λ i. operand (variable-is n o p.0 i) (variables-are ns os p.1 i)
variables-are [] (operand o os) e = absurd (false≢true e)
variables-are (n ∷ ns) no_operand e = absurd (false≢true e)

pub call-is : (p : Pipeline) (f : Func) (os : Operands) → call_in p ≡ Some (f, os) → p ≡ command (operand (function f) os) no_command
call-is (command (operand (function g) us) no_command) f os e = let same : (g, us) ≡ (f, os) = cc in ap (λ (x : Func × Operands). command (operand (function x.0) x.1) no_command) same
call-is no_command f os e = cc
call-is (command us (command vs q)) f os e = cc
call-is (command no_operand no_command) f os e = cc
call-is (command (operand _ us) no_command) f os e = cc

pub indexes-are : (ns : List (List ℕ)) (f : Func) (os : Operands) → indexes ns f os ≡ true → (f ≡ Index) × (os ≡ variables_from ns)
indexes-are ns Index os e = (refl, variables-are ns os e)
indexes-are ns _ os e = absurd (false≢true e)

pub slices-are : (ns : List (List ℕ)) (f : Func) (os : Operands) → slices ns f os ≡ true → (f ≡ Slice) × (os ≡ variables_from ns)
slices-are ns Slice os e = (refl, variables-are ns os e)
slices-are ns _ os e = absurd (false≢true e)

-- a call that passes a test
pub tested : (test : Func → Operands → Bool) (g : Func) (us : Operands) → ((f : Func) (os : Operands) → test f os ≡ true → (f ≡ g) × (os ≡ us))
    → (p : Pipeline) → option_map_or (λ call. test call.0 call.1) (call_in p) false ≡ true → p ≡ command (operand (function g) us) no_command
tested test g us are p e = by (call_in p) refl e
  where
    by : (o : Option (Func × Operands)) → call_in p ≡ o → option_map_or (λ call. test call.0 call.1) o false ≡ true → p ≡ command (operand (function g) us) no_command
    by None is e = absurd (false≢true e)
    by (Some (f, os)) is e =
        let q = are f os e in call-is p f os is ∙ (λ i. command (operand (function (q.0 i)) (q.1 i)) no_command)

pub indexing-is : (n : Names) (p : Pipeline) → is_indexing n p ≡ true → p ≡ indexing n
indexing-is n p e = tested (indexes (n.text ∷ n.index ∷ [])) Index (variables_from (n.text ∷ n.index ∷ [])) (indexes-are (n.text ∷ n.index ∷ [])) p e

pub slicing-is : (n : Names) (p : Pipeline) → is_slicing n p ≡ true → p ≡ one (function Slice ∷ named n.text ∷ named n.from ∷ named n.index ∷ [])
slicing-is n p e = tested (slices (n.text ∷ n.from ∷ n.index ∷ [])) Slice (variables_from (n.text ∷ n.from ∷ n.index ∷ [])) (slices-are (n.text ∷ n.from ∷ n.index ∷ [])) p e

pub lone-is : (p : Pipeline) (o : Operand) → lone p ≡ Some o → p ≡ one (o ∷ [])
lone-is (command (operand p no_operand) no_command) o e = let same : p ≡ o = cc in ap (λ (o : Operand). command (operand o no_operand) no_command) same
lone-is no_command o e = cc
lone-is (command no_operand q) o e = cc
lone-is (command (operand p no_operand) (command us q)) o e = cc
lone-is (command (operand p (operand r os)) q) o e = cc

pub yes-is : (p : Pipeline) → is_yes (lone p) ≡ true → p ≡ one (bool_constant true ∷ [])
yes-is p e = by (lone p) refl e
  where
    so : (b : Bool) → lone p ≡ Some (bool_constant b) → b ≡ true → p ≡ one (bool_constant true ∷ [])
    so true is e = lone-is p (bool_constant true) is
    so false is e = absurd (false≢true e)

    by : (o : Option Operand) → lone p ≡ o → is_yes o ≡ true → p ≡ one (bool_constant true ∷ [])
    by (Some (bool_constant b)) is e = so b is e
    by _ is e = absurd (false≢true e)
