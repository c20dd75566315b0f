-- For the law `formed_runs`: a pipeline whose names are there gives the same with older variables after these.
use Rattle.std.proofs.Common.{◌≡◌, ◌∙◌, ◌+◌, ◌++◌, ◌||◌, Bool, true, false, ℕ, List, [], ◌∷◌, Option, Some, None, Ok, length, option_to_list, ap}
use Rattle.std.proofs.Common.{refl, sym, map, if◌then◌else◌}
use Rattle.std.proofs.lemmas.Bool.{false≢true, and_parts}
use Rattle.std.proofs.lemmas.List.Folds.{list_all-append}
use Rattle.std.specs.Cmp.Lexicographic.{nat_list_eq_equiv}
use Rattle.std.specs.Option.{option_map_or}
use Rattle.std.specs.List.{find}
use Rattle.std.specs.Str.{bytes_eq}
use Rattle.tmpl_values.specs.Value.{Value, nothing}
use Rattle.tmpl_funcs.specs.Func.{takes}
use Rattle.tmpl_grammar.specs.Tree.{Operand, variable, nil, function, group}
use Rattle.tmpl_grammar.specs.Tree.{Operands, no_operand, operand, Pipeline, no_command, command, operand_count}
use Rattle.tmpl_syntax.specs.Place.Role.{Name, used_by_operand, used_by_operands, used_by}
use Rattle.tmpl_syntax.specs.Formed.{is_among, are_among}
use Rattle.tmpl_meaning.specs.Pipeline.{Environment, Place, lookup, chain, without_null, as_given, given_then, apply_function, by_function, decides}
use Rattle.tmpl_meaning.specs.Pipeline.{operand_value, operand_values, junction, command_value, commands_value}
use Rattle.tmpl_meaning.proofs.PartLemmas.{by_count, decided}
use Rattle.tmpl_meaning.specs.declared.missing_key.MissingKey.{MissingKey}

abbrev pub names : Environment → List Name
names env = map (λ v. v.0) env

pub found-same : (name : List ℕ) (env older : Environment) → is_among (names env) name ≡ true → lookup name (env ++ older) ≡ lookup name env
found-same name [] older e = absurd (false≢true e)
found-same name (v ∷ env) older e =
    go (bytes_eq v.0 name) (ap (λ b. b || is_among (names env) name) (nat_list_eq_equiv.symm v.0 name) ∙ e) (found-same name env older)
  where
    go : (b : Bool) → (b || is_among (names env) name) ≡ true → (is_among (names env) name ≡ true → lookup name (env ++ older) ≡ lookup name env)
        → option_map_or (λ v. v.1) (if b then Some v else find (λ v. bytes_eq v.0 name) (env ++ older)) nothing
        ≡ option_map_or (λ v. v.1) (if b then Some v else find (λ v. bytes_eq v.0 name) env) nothing
    go true h more = refl
    go false h more = more h

module _ (mode : MissingKey) (d : Value) (env older : Environment) (start : is_among (names env) [] ≡ true) where
  abbrev near : Place
  near = record { missing_key = mode; dot = d; env = env }

  abbrev far : Place
  far = record { missing_key = mode; dot = d; env = env ++ older }

  variable-same : (name : List ℕ) (fs : List (List ℕ)) → are_among (names env) (used_by_operand (variable name fs)) ≡ true
      → operand_value far (variable name fs) ≡ operand_value near (variable name fs)
  variable-same [] fs e = ap (λ v. as_given (chain mode fs v)) (found-same [] env older start)
  variable-same (b ∷ bs) fs e = ap (λ v. as_given (chain mode fs v)) (found-same (b ∷ bs) env older (and_parts (is_among (names env) (b ∷ bs)) true e).0)

  abbrev parted : (ns ms : List Name) → are_among (names env) (ns ++ ms) ≡ true → (are_among (names env) ns ≡ true) × (are_among (names env) ms ≡ true)
  parted ns ms e = and_parts (are_among (names env) ns) (are_among (names env) ms) (sym (list_all-append (is_among (names env)) ns ms) ∙ e)

  mutual
    operand-same : (o : Operand) → are_among (names env) (used_by_operand o) ≡ true → operand_value far o ≡ operand_value near o
    operand-same (variable name fs) e = variable-same name fs e
    operand-same (group commands fs) e = λ i. given_then (commands-same commands None e i) (λ v. as_given (chain mode fs v))
    operand-same _ e = refl

    operands-same : (os : Operands) → are_among (names env) (used_by_operands os) ≡ true → operand_values far os ≡ operand_values near os
    operands-same no_operand e = refl
    operands-same (operand o os) e =
        let p = parted (used_by_operand o) (used_by_operands os) e in
        λ i. given_then (operand-same o p.0 i) (λ v. given_then (operands-same os p.1 i) (λ vs. as_given (Ok (v ∷ vs))))

    junction-same : (os : Operands) (stop : Bool) (last : Value) (piped : Option Value) → are_among (names env) (used_by_operands os) ≡ true
        → junction stop far last os piped ≡ junction stop near last os piped
    junction-same no_operand stop last piped e = refl
    junction-same (operand o os) stop last piped e =
        let p = parted (used_by_operand o) (used_by_operands os) e in
        λ i. given_then (operand-same o p.0 i) (λ v. decided (decides stop v) v (junction-same os stop v piped p.1 i))

    command-same : (os : Operands) (piped : Option Value) → are_among (names env) (used_by_operands os) ≡ true
        → command_value far os piped ≡ command_value near os piped
    command-same (operand (function f) os) piped e =
        λ i. by_count f (takes f (operand_count os + length (option_to_list piped)))
        (by_function f (given_then (operands-same os e i) (λ vs. apply_function f (vs ++ option_to_list piped)))
        (junction-same os false nothing piped e i) (junction-same os true nothing piped e i))
    command-same (operand nil no_operand) None e = refl
    command-same (operand o no_operand) None e = operand-same o (parted (used_by_operand o) [] e).0
    command-same _ piped e = refl

    commands-same : (cs : Pipeline) (piped : Option Value) → are_among (names env) (used_by cs) ≡ true
        → commands_value far cs piped ≡ commands_value near cs piped
    commands-same no_command piped e = refl
    commands-same (command os cs) piped e =
        let p = parted (used_by_operands os) (used_by cs) e in
        λ i. given_then (command-same os piped p.0 i) (λ v. commands-same cs (Some (without_null v)) p.1 i)

  pub pipeline-same : (p : Pipeline) → are_among (names env) (used_by p) ≡ true → commands_value far p None ≡ commands_value near p None
  pipeline-same commands e = commands-same commands None e
