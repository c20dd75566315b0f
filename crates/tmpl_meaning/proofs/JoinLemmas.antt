-- For the law `joins_by_table`: `and` and `or` over operands that all have values give what the table says.
use Rattle.std.proofs.Common.{◌≡◌, ◌∙◌, ◌++◌, Bool, true, false, not, List, [], ◌∷◌, length, Option, Some, None, Result, Ok, Err, option_to_list, refl, ap, sym}
use Rattle.std.proofs.Common.{if◌then◌else◌}
use Rattle.std.specs.Bool.{beq}
use Rattle.tmpl_values.specs.Value.{Value, nothing}
use Rattle.tmpl_values.specs.Truth.{truth}
use Rattle.tmpl_funcs.specs.Junction.{deciding}
use Rattle.tmpl_funcs.specs.Func.{takes}
use Rattle.tmpl_grammar.specs.Tree.{Operands, no_operand, operand}
use Rattle.tmpl_meaning.specs.Fault.{Cause}
use Rattle.tmpl_meaning.specs.Laws.{JoinsByTable, joining}
use Rattle.tmpl_meaning.specs.Pipeline.{Given, Place, apply_function, decides, as_given, given_then, go_on, junction, operand_value, operand_values}
use Rattle.tmpl_meaning.proofs.PartLemmas.{decided}

-- of values the first that decides, else the last, or this one where there are none
abbrev among : Bool → Value → List Value → Value
among stop last [] = last
among stop last (v ∷ vs) = deciding stop v vs

module _ (v x : Value) (rest : Given Value) (is : rest.result ≡ Ok x) where
  or_next : (test : Bool) → (decided test v rest).result ≡ Ok (if beq test true then v else x)
  or_next true = refl
  or_next false = is

  and_next : (test : Bool) → (decided (not test) v rest).result ≡ Ok (if beq test false then v else x)
  and_next true = is
  and_next false = refl

-- the last value
last_one : (v : Value) (rest : Given Value) → rest.result ≡ Ok v → (test : Bool) → (decided test v rest).result ≡ Ok v
last_one v rest is true = refl
last_one v rest is false = is

by_test : (stop : Bool) (v : Value) (vs : List Value) (rest : Given Value) → rest.result ≡ Ok (among stop v vs)
    → (decided (decides stop v) v rest).result ≡ Ok (deciding stop v vs)
by_test true v [] rest is = last_one v rest is (truth v)
by_test false v [] rest is = last_one v rest is (not (truth v))
by_test true v (w ∷ vs) rest is = or_next v (deciding true w vs) rest is (truth v)
by_test false v (w ∷ vs) rest is = and_next v (deciding false w vs) rest is (truth v)

-- an operand with a value before others with values
record Parted (r : Result Value Cause) (rs : Result (List Value) Cause) (vs : List Value) : Type 0 where
  first : Value
  others : List Value
  is : r ≡ Ok first
  are : rs ≡ Ok others
  all : vs ≡ first ∷ others

parted : (r : Result Value Cause) (made : Bool) (rest : Given (List Value)) (vs : List Value)
    → (go_on r made (λ v. given_then rest (λ ws. as_given (Ok (v ∷ ws))))).result ≡ Ok vs → Parted r rest.result vs
parted (Err e) made rest vs h = let g : Err e ≡ Ok vs = h in cc
parted (Ok v) made rest vs h = go rest.result refl
  where
    go : (rs : Result (List Value) Cause) → rest.result ≡ rs → Parted (Ok v) rest.result vs
    go (Err e) same = let g : Err e ≡ Ok vs = ap (λ rs. (go_on rs rest.made_text (λ (ws : List Value). as_given (Ok (v ∷ ws)))).result) (sym same) ∙ h in cc
    go (Ok ws) same =
        let g : Ok (v ∷ ws) ≡ Ok vs = ap (λ rs. (go_on rs rest.made_text (λ (ws : List Value). as_given (Ok (v ∷ ws)))).result) (sym same) ∙ h in
        record { first = v; others = ws; is = refl; are = same; all = cc }

module _ (stop : Bool) (s : Place) (piped : Option Value) where
  joined : (os : Operands) (last : Value) (vs : List Value) → (operand_values s os).result ≡ Ok vs
      → (junction stop s last os piped).result ≡ Ok (among stop last (vs ++ option_to_list piped))
  joined no_operand last vs h = let empty : vs ≡ [] = cc in none piped empty
    where
      none : (p : Option Value) → vs ≡ [] → (junction stop s last no_operand p).result ≡ Ok (among stop last (vs ++ option_to_list p))
      none None e = ap (λ ws. Ok (among stop last (ws ++ []))) (sym e)
      none (Some v) e = ap (λ ws. Ok (among stop last (ws ++ v ∷ []))) (sym e)
  joined (operand o os) last vs h =
      let p = parted (operand_value s o).result (operand_value s o).made_text (operand_values s os) vs h in
      ap (λ r. (go_on r (operand_value s o).made_text (λ v. decided (decides stop v) v (junction stop s v os piped))).result) p.is
      ∙ by_test stop p.first (p.others ++ option_to_list piped) (junction stop s p.first os piped) (joined os p.first p.others p.are)
      ∙ ap (λ ws. Ok (among stop last (ws ++ option_to_list piped))) (sym p.all)

-- the table's answer for values of a number that the function takes
table : (is_or : Bool) (vs : List Value) → takes (joining is_or) (length vs) ≡ true
    → Ok (among is_or nothing vs) ≡ (apply_function (joining is_or) vs).result
table true [] h = cc
table false [] h = cc
table true (v ∷ vs) h = refl
table false (v ∷ vs) h = refl

pub joins : JoinsByTable
joins is_or s os piped vs h takes = joined is_or s piped os nothing vs h ∙ table is_or (vs ++ option_to_list piped) takes
