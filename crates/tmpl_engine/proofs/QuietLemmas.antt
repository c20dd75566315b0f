-- For the law `text_is_named` and the clause `spared` of `run`: a template of a set that names no function which makes a text
-- calls none, so the mark of its run stays as it is.
use Rattle.std.proofs.Common.{arith, ◌≡◌, ◌≢◌, ◌||◌, ◌<◌, ◌++◌, IfSome, length, ℕ, zero, suc, Bool, true, false, List, [], ◌∷◌, Option, Some, None, Result, Ok}
use Rattle.std.proofs.Common.{Err}
use Rattle.std.proofs.Common.{option_to_list, refl, subst}
use Rattle.std.specs.Prelude.{◌-◌, get_or, slice_get}
use Rattle.std.proofs.lemmas.Bool.{or_from, or_parts}
use Rattle.std.proofs.lemmas.Option.{slice_get-get_or}
use Rattle.tmpl_values.specs.Value.{Value, nothing}
use Rattle.tmpl_funcs.specs.Func.{makes_text}
use Rattle.tmpl_grammar.specs.Tree.{Operand, nil, function, group, Operands, no_operand, operand, Pipeline, no_command, command}
use Rattle.tmpl_syntax.specs.Tree as tree
use Rattle.tmpl_syntax.specs.Tree.{NodeKind, Nodes, Tree, action, control_node, template_node}
use Rattle.tmpl_syntax.specs.Set.{Template, number_of, tree_named}
use Rattle.tmpl_syntax.proofs.NamedLemmas.{Named, numbered, unnumbered}
use Rattle.tmpl_meaning.specs.Pipeline as meaning
use Rattle.tmpl_meaning.specs.Pipeline.{Given, Place, command_value, commands_value, decides, as_given, given_then, junction, operand_value, operand_values}
use Rattle.tmpl_meaning.specs.Meaning.{Rules, Run, calls_within, ran, setting_of}
use Rattle.tmpl_meaning.specs.Sink.{Sunk}
use Rattle.tmpl_meaning.proofs.PartLemmas.{decided, started}
use Rattle.tmpl_meaning.proofs.EachPartLemmas.{Keeps, NodeHas, NodesHave, calls-kept, nodes-kept}
use Rattle.tmpl_code.specs.MakesText.{commands_make_text, node_makes_text, nodes_make_text, operand_makes_text, operands_make_text, pipeline_makes_text}
use Rattle.tmpl_code.specs.MakesText.{set_makes_text}
use Rattle.tmpl_engine.specs.Laws.{TextIsNamed}
use Rattle.tmpl_engine.specs.State.{starting_dot}
use Rattle.tmpl_engine.specs.Run.{IsRun}
use Rattle.tmpl_engine.specs.computed.Machines.{no_template}
use Rattle.tmpl_engine.specs.declared.fault.RunError.{RunError}
use Rattle.tmpl_engine.specs.declared.fault.RunError.TheVariants as error

-- ---- pipelines

then-quiet : {T U : Type 0} (g : Given T) (next : T → Given U) → g.made_text ≡ false → ((t : T) → (next t).made_text ≡ false)
    → (given_then g next).made_text ≡ false
then-quiet g next e quiet = grind arith

mutual
  operand-quiet : (o : Operand) (s : Place) → operand_makes_text o ≡ false → (operand_value s o).made_text ≡ false
  operand-quiet (function f) s e = grind arith
  operand-quiet (group cs names) s e = grind (arith, commands-quiet cs s None e)
  operand-quiet _ s e = refl

  operands-quiet : (os : Operands) (s : Place) → operands_make_text os ≡ false → (operand_values s os).made_text ≡ false
  operands-quiet no_operand s e = refl
  operands-quiet (operand o os) s e =
      let n = or_parts (operand_makes_text o) (operands_make_text os) e in
      then-quiet (operand_value s o) (λ v. given_then (operand_values s os) (λ vs. as_given (Ok (v ∷ vs)))) (operand-quiet o s n.0) (λ v.
      then-quiet (operand_values s os) (λ vs. as_given (Ok (v ∷ vs))) (operands-quiet os s n.1) (λ vs. refl))

  junction-quiet : (os : Operands) (stop : Bool) (s : Place) (last : Value) (piped : Option Value) → operands_make_text os ≡ false
      → (junction stop s last os piped).made_text ≡ false
  junction-quiet no_operand stop s last piped e = grind arith
  junction-quiet (operand o os) stop s last piped e =
      let n = or_parts (operand_makes_text o) (operands_make_text os) e in
      then-quiet (operand_value s o) (λ v. decided (decides stop v) v (junction stop s v os piped)) (operand-quiet o s n.0)
      (λ v. grind (arith, junction-quiet os stop s v piped n.1))

  command-quiet : (os : Operands) (s : Place) (piped : Option Value) → operands_make_text os ≡ false → (command_value s os piped).made_text ≡ false
  command-quiet (operand (function f) os) s piped e =
      let n = or_parts (makes_text f) (operands_make_text os) e in
      let all = then-quiet (operand_values s os) (λ vs. meaning.apply_function f (vs ++ option_to_list piped)) (operands-quiet os s n.1) (λ vs. n.0) in
      grind (arith, all, junction-quiet os false s nothing piped n.1, junction-quiet os true s nothing piped n.1)
  command-quiet (operand nil no_operand) s None e = refl
  command-quiet (operand o no_operand) s None e = operand-quiet o s (or_parts (operand_makes_text o) false e).0
  command-quiet _ s piped e = refl

  commands-quiet : (cs : Pipeline) (s : Place) (piped : Option Value) → commands_make_text cs ≡ false → (commands_value s cs piped).made_text ≡ false
  commands-quiet no_command s piped e = grind arith
  commands-quiet (command os cs) s piped e =
      let n = or_parts (operands_make_text os) (commands_make_text cs) e in
      then-quiet (command_value s os piped) (λ v. commands_value s cs (Some (meaning.without_null v))) (command-quiet os s piped n.0)
      (λ v. commands-quiet cs s (Some (meaning.without_null v)) n.1)

-- ---- templates

-- where no text was made before it, none is after it
abbrev Quiet : Run → Run → Type 0
Quiet r q = r.made_text ≡ false → q.made_text ≡ false

abbrev MakesNone : Pipeline → Type 0
MakesNone p = pipeline_makes_text p ≡ false

quiet : Keeps Quiet MakesNone
quiet = record {
  same = λ r e. e;
  on = λ r q u f g e. g (f e);
  binds = λ r env e. e;
  spends = λ r left e. e;
  puts = λ r bytes e. e;
  pipes = λ p s none r e. or_from r.made_text (commands_value s p None).made_text e (commands-quiet p s None none);
}

mutual
  node-none : (n : NodeKind) → node_makes_text n ≡ false → NodeHas MakesNone n
  node-none (control_node c h body other) e =
      let n = or_parts (pipeline_makes_text h.pipeline) (nodes_make_text body || nodes_make_text other) e in
      let m = or_parts (nodes_make_text body) (nodes_make_text other) n.1 in
      (n.0, nodes-none body m.0, nodes-none other m.1)
  node-none (template_node name None) e = tt
  node-none (template_node name (Some p)) e = e
  node-none (action h) e = e
  node-none _ e = tt

  nodes-none : (ns : Nodes) → nodes_make_text ns ≡ false → NodesHave MakesNone ns
  nodes-none tree.none e = tt
  nodes-none (tree.then line n ns) e = let m = or_parts (node_makes_text n) (nodes_make_text ns) e in (node-none n m.0, nodes-none ns m.1)

at-none : (ts : List Template) (number : ℕ) (t : Template) → slice_get ts number ≡ Some t → set_makes_text ts ≡ false → nodes_make_text t.1.nodes ≡ false
at-none [] number t is none = cc
at-none (x ∷ ts) zero t is none = grind arith
at-none (x ∷ ts) (suc n) t is none = at-none ts n t is (or_parts (nodes_make_text x.1.nodes) (set_makes_text ts) none).1

named-none : (name : List ℕ) (ts : List Template) (t : Tree) → tree_named name ts ≡ Some t → set_makes_text ts ≡ false → nodes_make_text t.nodes ≡ false
named-none name ts t is none = by (number_of name ts) refl
  where
    by : (o : Option ℕ) → number_of name ts ≡ o → nodes_make_text t.nodes ≡ false
    by None e = let absent = unnumbered name ts e in cc
    by (Some m) e =
        let found : Named name ts m = numbered name ts m e in
        grind (arith, found.tree, at-none ts m found.t found.at none)

pub run-quiet : (rules : Rules) (ts : List Template) → set_makes_text ts ≡ false → (number : ℕ) (t : Template) (input : Option Value)
    → slice_get ts number ≡ Some t → (ran rules ts t.0 t.1 input).made_text ≡ false
run-quiet rules ts none number t input is =
    nodes-kept quiet (setting_of rules (calls_within rules ts (rules.depth_limit - 1)) t.0 t.1)
    (calls-kept quiet rules ts (λ name u found. nodes-none u.nodes (named-none name ts u found none)) (rules.depth_limit - 1))
    t.1.nodes (starting_dot input) (nodes-none t.1.nodes (at-none ts number t is none)) (started rules.step_limit (starting_dot input)) refl

pub text_is_named : TextIsNamed
text_is_named rules ts number t input is made =
    let quiet : set_makes_text ts ≡ false → (ran rules ts t.0 t.1 input).made_text ≡ false = λ none. run-quiet rules ts none number t input is in grind arith

-- what a run comes to is no want of memory, where no text is made
pub spared : (rules : Rules) (ts : List Template) (number : ℕ) (input : Option Value) (s : Sunk) (r : Result (Unit {0}) RunError) → number < length ts
    → IfSome (slice_get ts number) (λ t. IsRun (ran rules ts t.0 t.1 input) s r) → set_makes_text ts ≡ false → r ≢ Err error.OutOfMemory
spared rules ts number input s r within is named refused =
    let t = get_or ts number no_template in
    let at : slice_get ts number ≡ Some t = slice_get-get_or ts number no_template within in
    let h : IsRun (ran rules ts t.0 t.1 input) s r = subst (λ o. IfSome o (λ t. IsRun (ran rules ts t.0 t.1 input) s r)) at is in
    let made = subst (λ r. IsRun (ran rules ts t.0 t.1 input) s r) refused h in
    let quiet = run-quiet rules ts named number t input at in
    let told : (ran rules ts t.0 t.1 input).made_text ≡ true = made.1 in
    cc
