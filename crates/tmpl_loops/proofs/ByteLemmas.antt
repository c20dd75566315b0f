-- For the law `copies`: a pipeline that sees some variables alone has the same value wherever these are the same.
use Rattle.std.proofs.Common.{◌≡◌, ◌∙◌, ◌+◌, ◌++◌, ◌||◌, Bool, true, false, ℕ, List, [], ◌∷◌, Option, Some, None, Result, Ok, Err, length, option_to_list, ap}
use Rattle.std.proofs.Common.{refl, if◌then◌else◌}
use Rattle.std.proofs.lemmas.Bool.{and_parts, false≢true}
use Rattle.std.specs.Result.{result_ok}
use Rattle.tmpl_values.specs.Value.{Value, nothing}
use Rattle.tmpl_funcs.specs.Func.{takes}
use Rattle.tmpl_grammar.specs.Tree.{Operand, dot, fields, variable, nil, function, group}
use Rattle.tmpl_grammar.specs.Tree.{Operands, no_operand, operand, Pipeline, no_command, command, operand_count}
use Rattle.tmpl_meaning.specs.Pipeline.{Place, lookup, without_null, as_given, given_then, apply_function, by_function, decides}
use Rattle.tmpl_meaning.specs.Pipeline.{operand_value, operand_values, junction, command_value, commands_value}
use Rattle.tmpl_meaning.proofs.PartLemmas.{by_count, decided}
use Rattle.tmpl_meaning.specs.Fault.{Cause}
use Rattle.tmpl_loops.specs.Form.{are_all_seen, are_seen, is_seen}

module _ (sees : List ℕ → Bool) (is_byte : Pipeline → Bool) (far near : Place)
    (agree : (name : List ℕ) → sees name ≡ true → lookup name far.env ≡ lookup name near.env)
    (agree_byte : (p : Pipeline) → is_byte p ≡ true → commands_value far p None ≡ commands_value near p None) where
  abbrev seen : Operand → Bool
  seen = is_seen sees is_byte

  abbrev all_seen : Operands → Bool
  all_seen = are_seen sees is_byte

  abbrev each_seen : Pipeline → Bool
  each_seen = are_all_seen sees is_byte

  grouped : (cs : Pipeline) (c : Bool) → is_byte cs ≡ c → (c || each_seen cs) ≡ true → (each_seen cs ≡ true → commands_value far cs None ≡ commands_value near cs None)
      → commands_value far cs None ≡ commands_value near cs None
  grouped cs true is e h = agree_byte cs is
  grouped cs false is e h = h e

  mutual
    operand-same : (o : Operand) → seen o ≡ true → operand_value far o ≡ operand_value near o
    operand-same (variable name []) e = ap (λ v. as_given (Ok v)) (agree name e)
    operand-same (group commands []) e = λ i. given_then (grouped commands (is_byte commands) refl e (commands-same commands None) i) (λ v. as_given (Ok v))
    operand-same (variable name (f ∷ fs)) e = absurd (false≢true e)
    operand-same (group commands (f ∷ fs)) e = absurd (false≢true e)
    operand-same dot e = absurd (false≢true e)
    operand-same (fields names) e = absurd (false≢true e)
    operand-same _ e = refl

    operands-same : (os : Operands) → all_seen os ≡ true → operand_values far os ≡ operand_values near os
    operands-same no_operand e = refl
    operands-same (operand o os) e =
        let p = and_parts (seen o) (all_seen os) e in
        λ i. given_then (operand-same o p.0 i) (λ v. given_then (operands-same os p.1 i) (λ vs. as_given (Ok (v ∷ vs))))

    junction-same : (os : Operands) (stop : Bool) (last : Value) (piped : Option Value) → all_seen os ≡ true
        → junction stop far last os piped ≡ junction stop near last os piped
    junction-same no_operand stop last piped e = refl
    junction-same (operand o os) stop last piped e =
        let p = and_parts (seen o) (all_seen os) e in
        λ i. given_then (operand-same o p.0 i) (λ v. decided (decides stop v) v (junction-same os stop v piped p.1 i))

    command-same : (os : Operands) (piped : Option Value) → all_seen os ≡ true
        → command_value far os piped ≡ command_value near os piped
    command-same (operand (function f) os) piped e =
        λ i. by_count f (takes f (operand_count os + length (option_to_list piped)))
        (by_function f (given_then (operands-same os e i) (λ vs. apply_function f (vs ++ option_to_list piped)))
        (junction-same os false nothing piped e i) (junction-same os true nothing piped e i))
    command-same (operand nil no_operand) None e = refl
    command-same (operand o no_operand) None e = operand-same o (and_parts (seen o) true e).0
    command-same _ piped e = refl

    commands-same : (cs : Pipeline) (piped : Option Value) → each_seen cs ≡ true
        → commands_value far cs piped ≡ commands_value near cs piped
    commands-same no_command piped e = refl
    commands-same (command os cs) piped e =
        let p = and_parts (all_seen os) (each_seen cs) e in
        λ i. given_then (command-same os piped p.0 i) (λ v. commands-same cs (Some (without_null v)) p.1 i)

  known : (v : Value) (r : Result Value Cause) → result_ok r ≡ Some v → r ≡ Ok v
  known v (Ok w) e = let h : w ≡ v = cc in ap Ok h
  known v (Err w) e = cc

  pub value-same : (p : Pipeline) (v : Value) → (if each_seen p then result_ok (commands_value near p None).result else None) ≡ Some v
      → (commands_value far p None).result ≡ Ok v
  value-same p v e = by (each_seen p) refl e
    where
      by : (c : Bool) → each_seen p ≡ c → (if c then result_ok (commands_value near p None).result else None) ≡ Some v
          → (commands_value far p None).result ≡ Ok v
      by true is e = ap (λ g. g.result) (commands-same p None is) ∙ known v (commands_value near p None).result e
      by false is e = cc
