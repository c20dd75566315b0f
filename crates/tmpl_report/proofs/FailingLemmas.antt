-- Commands that always fail have no value.
use Rattle.std.proofs.Common.{◌≡◌, ◌∙◌, ◌+◌, Bool, true, false, not, ◌&&◌, ◌||◌, List, [], ◌∷◌, ◌++◌, Option, Some, None, Ok, Err, refl, sym, ap, arith}
use Rattle.std.specs.Prelude.{if◌then◌else◌, is_some}
use Rattle.std.specs.Option.{option_map_or}
use Rattle.std.specs.Result.{result_map_both}
use Rattle.std.proofs.lemmas.List.{append-nil}
use Rattle.std.proofs.lemmas.Option.{same_Some}
use Rattle.tmpl_values.specs.Value.{Value, nothing}
use Rattle.tmpl_funcs.specs.Arguments.{Answer}
use Rattle.tmpl_funcs.specs.Dispatch.{table_answer}
use Rattle.tmpl_funcs.specs.Func.{is_called, makes_text, takes}
use Rattle.tmpl_funcs.specs.declared.func.Func.{Func}
use Rattle.tmpl_funcs.specs.declared.func.Func.TheVariants as func
use Rattle.tmpl_funcs.specs.declared.fault.CallFault.TheVariants.{WrongCount}
use Rattle.tmpl_grammar.specs.Tree.{Operand, dot, fields, variable, bool_constant, number_constant, text_constant, nil, function, group, Operands, no_operand, operand, operand_count}
use Rattle.tmpl_meaning.specs.Fault.{Cause, call_failed, nil_command, not_a_function}
use Rattle.tmpl_meaning.specs.Pipeline.{Given, Place, apply_function, as_given, by_function, command_value, given_then, go_on, junction, operand_value, operand_values}
use Rattle.tmpl_problems.specs.Failing.{always_fails, both_values, constant_value, constant_values, is_refusal, refuses}
use Rattle.tmpl_report.specs.Laws.{ArgumentFails, CommandFails, HasNoValue}

-- ---- constants have their values

-- a constant has its value
one_value : (s : Place) (o : Operand) (v : Value) → constant_value o ≡ Some v → (operand_value s o).result ≡ Ok v
one_value s dot v e = absurd (cc)
one_value s (fields names) v e = absurd (cc)
one_value s (variable name names) v e = absurd (cc)
one_value s (bool_constant b) v e = ap Ok (same_Some _ v e)
one_value s (number_constant n) v e = ap Ok (same_Some _ v e)
one_value s (text_constant bytes) v e = ap Ok (same_Some _ v e)
one_value s nil v e = ap Ok (same_Some _ v e)
one_value s (group cs names) v e = absurd (cc)
one_value s (function f) v e = absurd (cc)

given_ok : {T U : Type 0} (g : Given T) (next : T → Given U) (t : T) → g.result ≡ Ok t → (given_then g next).result ≡ (next t).result
given_ok g next t e = ap (λ r. (go_on r g.made_text next).result) e

all_values : (s : Place) (os : Operands) (vs : List Value) → constant_values os ≡ Some vs → (operand_values s os).result ≡ Ok vs
all_values s no_operand vs e = ap Ok (same_Some [] vs e)
all_values s (operand o os) vs e = go (all_values s os) (constant_value o) (constant_values os) refl refl e
  where
    go : ((ws : List Value) → constant_values os ≡ Some ws → (operand_values s os).result ≡ Ok ws)
        → (a : Option Value) (b : Option (List Value)) → constant_value o ≡ a → constant_values os ≡ b → both_values a b ≡ Some vs
        → (operand_values s (operand o os)).result ≡ Ok vs
    go ih None b p q f = absurd (cc)
    go ih (Some v) None p q f = absurd (cc)
    go ih (Some v) (Some ws) p q f =
        given_ok (operand_value s o) (λ v. given_then (operand_values s os) (λ vs. as_given (Ok (v ∷ vs)))) v (one_value s o v p)
        ∙ given_ok (operand_values s os) (λ vs. as_given (Ok (v ∷ vs))) ws (ih ws q)
        ∙ ap Ok (same_Some (v ∷ ws) vs f)

-- ---- calls

called_by : (f : Func) (all both either : Given Value) → is_called f ≡ true → by_function f all both either ≡ all
called_by func.And all both either e = absurd (cc)
called_by func.Or all both either e = absurd (cc)
called_by func.Not all both either e = refl
called_by func.Len all both either e = refl
called_by func.Index all both either e = refl
called_by func.Slice all both either e = refl
called_by func.Print all both either e = refl
called_by func.Println all both either e = refl
called_by func.Printf all both either e = refl
called_by func.Html all both either e = refl
called_by func.Urlquery all both either e = refl
called_by func.Eq all both either e = refl
called_by func.Ne all both either e = refl
called_by func.Lt all both either e = refl
called_by func.Le all both either e = refl
called_by func.Gt all both either e = refl
called_by func.Ge all both either e = refl

and_left : (a b : Bool) → (a && b) ≡ true → a ≡ true
and_left true b e = refl
and_left false b e = absurd (cc)

and_right : (a b : Bool) → (a && b) ≡ true → b ≡ true
and_right true b e = e
and_right false b e = absurd (cc)

or_right : (a b : Bool) → a ≡ false → (a || b) ≡ true → b ≡ true
or_right true b f e = absurd (cc)
or_right false b f e = e

refusal : (f : Func) (a : Answer) → is_refusal a ≡ true → (cause : Cause) × (result_map_both (λ v. v) (call_failed f) a ≡ Err cause)
refusal f (Ok v) e = absurd (cc)
refusal f (Err fault) e = (call_failed f fault, refl)

-- a call that refuses its constants
refused : (s : Place) (f : Func) (os : Operands) → refuses f os ≡ true
    → HasNoValue (by_function f (given_then (operand_values s os) (λ vs. apply_function f (vs ++ []))) (junction false s nothing os None) (junction true s nothing os None))
refused s f os e = go (constant_values os) refl (and_right (is_called f && not (makes_text f)) (option_map_or (λ vs. is_refusal (table_answer f vs)) (constant_values os) false) e)
  where
    all : Given Value
    all = given_then (operand_values s os) (λ vs. apply_function f (vs ++ []))

    go : (o : Option (List Value)) → constant_values os ≡ o → option_map_or (λ vs. is_refusal (table_answer f vs)) o false ≡ true
        → HasNoValue (by_function f all (junction false s nothing os None) (junction true s nothing os None))
    go None p r = absurd (cc)
    go (Some vs) p r =
        let why = refusal f (table_answer f vs) r in (
          why.0,
          ap (λ g. g.result) (called_by f all (junction false s nothing os None) (junction true s nothing os None) (and_left (is_called f) (not (makes_text f)) (and_left (is_called f && not (makes_text f)) (option_map_or (λ vs. is_refusal (table_answer f vs)) (constant_values os) false) e)))
              ∙ given_ok (operand_values s os) (λ vs. apply_function f (vs ++ [])) vs (all_values s os vs p)
              ∙ ap (λ ws. result_map_both (λ v. v) (call_failed f) (table_answer f ws)) (append-nil vs) ∙ why.1,
        )

-- by whether the function takes as many arguments
chosen : (f : Func) (g : Given Value) (b : Bool) → (b ≡ true → HasNoValue g) → HasNoValue (if b then g else as_given (Err (call_failed f WrongCount)))
chosen f g true why = why refl
chosen f g false why = (call_failed f WrongCount, refl)

call_fails : (s : Place) (f : Func) (os : Operands) (piped : Option Value) → always_fails (operand (function f) os) (is_some piped) ≡ true
    → HasNoValue (command_value s (operand (function f) os) piped)
call_fails s f os None e =
    let n : operand_count os ≡ operand_count os + 0 = omega arith in
    chosen f _ (takes f (operand_count os + 0))
    (λ t. refused s f os (or_right (not (takes f (operand_count os))) (refuses f os) (ap (λ k. not (takes f k)) n ∙ ap not t) e))
call_fails s f os (Some v) e =
    chosen f _ (takes f (operand_count os + 1))
    (λ t. absurd (let why : false ≡ true = sym (ap not t) ∙ e in cc))

-- ---- other commands

pub command-fails : CommandFails
command-fails s no_operand None e = (not_a_function, refl)
command-fails s no_operand (Some v) e = (not_a_function, refl)
command-fails s (operand (function f) os) piped e = call_fails s f os piped e
command-fails s (operand dot no_operand) None e = absurd (cc)
command-fails s (operand dot no_operand) (Some v) e = (not_a_function, refl)
command-fails s (operand dot (operand p ps)) None e = (not_a_function, refl)
command-fails s (operand dot (operand p ps)) (Some v) e = (not_a_function, refl)
command-fails s (operand (fields names) no_operand) None e = absurd (cc)
command-fails s (operand (fields names) no_operand) (Some v) e = (not_a_function, refl)
command-fails s (operand (fields names) (operand p ps)) None e = (not_a_function, refl)
command-fails s (operand (fields names) (operand p ps)) (Some v) e = (not_a_function, refl)
command-fails s (operand (variable name names) no_operand) None e = absurd (cc)
command-fails s (operand (variable name names) no_operand) (Some v) e = (not_a_function, refl)
command-fails s (operand (variable name names) (operand p ps)) None e = (not_a_function, refl)
command-fails s (operand (variable name names) (operand p ps)) (Some v) e = (not_a_function, refl)
command-fails s (operand (bool_constant b) no_operand) None e = absurd (cc)
command-fails s (operand (bool_constant b) no_operand) (Some v) e = (not_a_function, refl)
command-fails s (operand (bool_constant b) (operand p ps)) None e = (not_a_function, refl)
command-fails s (operand (bool_constant b) (operand p ps)) (Some v) e = (not_a_function, refl)
command-fails s (operand (number_constant n) no_operand) None e = absurd (cc)
command-fails s (operand (number_constant n) no_operand) (Some v) e = (not_a_function, refl)
command-fails s (operand (number_constant n) (operand p ps)) None e = (not_a_function, refl)
command-fails s (operand (number_constant n) (operand p ps)) (Some v) e = (not_a_function, refl)
command-fails s (operand (text_constant bytes) no_operand) None e = absurd (cc)
command-fails s (operand (text_constant bytes) no_operand) (Some v) e = (not_a_function, refl)
command-fails s (operand (text_constant bytes) (operand p ps)) None e = (not_a_function, refl)
command-fails s (operand (text_constant bytes) (operand p ps)) (Some v) e = (not_a_function, refl)
command-fails s (operand nil no_operand) None e = (nil_command, refl)
command-fails s (operand nil no_operand) (Some v) e = (not_a_function, refl)
command-fails s (operand nil (operand p ps)) None e = (not_a_function, refl)
command-fails s (operand nil (operand p ps)) (Some v) e = (not_a_function, refl)
command-fails s (operand (group cs names) no_operand) None e = absurd (cc)
command-fails s (operand (group cs names) no_operand) (Some v) e = (not_a_function, refl)
command-fails s (operand (group cs names) (operand p ps)) None e = (not_a_function, refl)
command-fails s (operand (group cs names) (operand p ps)) (Some v) e = (not_a_function, refl)

pub argument-fails : ArgumentFails
argument-fails s f e = chosen f (apply_function f []) (takes f 0) (λ t. absurd (let why : false ≡ true = sym (ap not t) ∙ e in cc))
