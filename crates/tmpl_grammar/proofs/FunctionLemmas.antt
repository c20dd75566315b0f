-- For `function_named`: the function of a name is found by its name among all.
use Rattle.std.proofs.Common.{arith, ◌≡◌, ◌≢◌, ◌∙◌, ℕ, List, [], ◌∷◌, Option, Some, None, refl, ap, sym, find, bytes_eq, IfSome, IfNone}
use Rattle.std.proofs.lemmas.Bool.{false_from_ne_true}
use lib.Pointwise.{bytes_decides}
use Rattle.tmpl_funcs.specs.Func.{name_of}
use Rattle.tmpl_funcs.specs.declared.func.Func.{Func}
use Rattle.tmpl_grammar.specs.computed.Operand.{func_named, funcs}

named-itself : (f : Func) → Some f ≡ func_named (name_of f)
unfolding func_named
named-itself f = grind arith

find-none : (name : List ℕ) (fs : List Func) → ((f : Func) → name_of f ≢ name) → find (λ f. bytes_eq (name_of f) name) fs ≡ None
find-none name [] h = refl
find-none name (f ∷ fs) h =
    simp (false_from_ne_true (bytes_eq (name_of f) name) (λ e. h f ((bytes_decides (name_of f) name).0 e)), find-none name fs h)

pub named : (name : List ℕ) (o : Option Func) → IfSome o (λ f. name_of f ≡ name) → IfNone o ((f : Func) → name_of f ≢ name) → o ≡ func_named name
unfolding func_named
named name (Some f) is h = named-itself f ∙ ap func_named is
named name None is h = sym (find-none name funcs (λ f. h f))
