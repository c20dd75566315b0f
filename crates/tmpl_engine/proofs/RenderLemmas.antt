-- For `render` and what it calls: the template that a number names in a set is the one that its name names, and its run.
use Rattle.std.proofs.Common.{◌≡◌, ◌∙◌, ℕ, List, Option, Some, None, Result, Ok, Err, IfSome, ap, refl, subst, sym, inl, inr}
use Rattle.std.specs.Prelude.{slice_get}
use Rattle.std.specs.Option.{option_map}
use Rattle.std.specs.Result.{result_map_both}
use Rattle.std.specs.Borrow.{Bor}
use Rattle.tmpl_values.specs.Value.{Value}
use Rattle.tmpl_values.specs.View.{value_of}
use Rattle.tmpl_values.specs.declared.data.Data.{Data}
use Rattle.tmpl_syntax.specs.Set.{Template, number_of}
use Rattle.tmpl_syntax.proofs.NamedLemmas.{Named, numbered, unnumbered}
use Rattle.tmpl_meaning.specs.Meaning.{Ran, Rules, ran}
use Rattle.tmpl_meaning.specs.Sink.{Sunk, Told, sunk}
use Rattle.tmpl_meaning.specs.View.{rules_of}
use Rattle.tmpl_meaning.specs.declared.options.Options.{Options}
use Rattle.tmpl_engine.specs.Run.{IsRun}
use Rattle.tmpl_engine.specs.declared.fault.RunError.{RunError}
use Rattle.tmpl_engine.specs.declared.fault.RunError.TheVariants as run
use Rattle.tmpl_engine.specs.Error.{error_of}
use Rattle.tmpl_engine.specs.Laws.{LeavesSink}
use Rattle.tmpl_engine.specs.Render.{EndsBefore, IsRender, IsRunOf, Renders, ran_named}
use Rattle.tmpl_engine.specs.declared.error.RenderError.{RenderError}
use Rattle.tmpl_engine.specs.declared.error.RenderError.TheVariants.{NoTemplate, OutOfMemory}

-- the answer of a run as that of its render
abbrev pub as_render : Result (Unit {0}) RunError → Result (Unit {0}) RenderError
as_render r = result_map_both (λ u. u) error_of r

is_render : (r : Ran) (s : Sunk) (answer : Result (Unit {0}) RunError) → IsRun r s answer → IsRunOf r s (as_render answer)
is_render r s (Ok u) h = h
is_render r s (Err (run.Fault fault)) h = h
is_render r s (Err run.WriteFailed) h = h
is_render r s (Err run.OutOfMemory) h = inl h

-- a run of the template of a number, if there is one
pub run_of : (rules : Rules) (ts : List Template) (input : Option Value) (s : Sunk) (answer : Result (Unit {0}) RunError) (o : Option Template)
    → IfSome o (λ t. IsRun (ran rules ts t.0 t.1 input) s answer) → IfSome o (λ t. IsRunOf (ran rules ts t.0 t.1 input) s (as_render answer))
run_of rules ts input s answer None runs = tt
run_of rules ts input s answer (Some t) runs = is_render (ran rules ts t.0 t.1 input) s answer runs

module _ (rules : Rules) (ts : List Template) (name : List ℕ) (input : Option Value) where
  -- the template of the name has a number
  pub named_render : (k : ℕ) (s : Sunk) (answer : Result (Unit {0}) RenderError) → Some k ≡ number_of name ts
      → IfSome (slice_get ts k) (λ t. IsRunOf (ran rules ts t.0 t.1 input) s answer)
      → IsRender (ran_named rules ts name input) s answer
  named_render k s answer is h =
      let named = numbered name ts k (sym is) in
      subst (λ o. IsRender o s answer) (sym (same named))
      (subst (λ o. IfSome o (λ (t : Template). IsRunOf (ran rules ts t.0 t.1 input) s answer)) named.at h)
    where
      same : (n : Named name ts k) → ran_named rules ts name input ≡ Some (ran rules ts n.t.0 n.t.1 input)
      same n =
          ap (option_map (λ tree. ran rules ts name tree input)) n.tree
          ∙ ap (λ (bytes : List ℕ). Some (ran rules ts bytes n.t.1 input)) n.same

  -- no template has it
  pub unnamed_render : (t : Told) → None ≡ number_of name ts → IsRender (ran_named rules ts name input) (sunk t t) (Err NoTemplate)
  unnamed_render t none =
      subst (λ o. IsRender o (sunk t t) (Err NoTemplate))
      (sym (ap (option_map (λ tree. ran rules ts name tree input)) (unnumbered name ts (sym none)))) (refl, (refl, refl))

-- .. by these options, over data that may be given
pub unnamed_by : (options : Options) (ts : List Template) (name : List ℕ) (given : Option (Bor Data)) (t : Told)
    → None ≡ number_of name ts → Renders options ts name given t t (Err NoTemplate)
unnamed_by options ts name given t =
    unnamed_render (rules_of options) ts name (option_map (λ d. value_of d.now) given) t

-- .. and so a render ends that has no template, or no memory for one that is there
pub ends_unnamed : (ts : List Template) (name : List ℕ) → None ≡ number_of name ts → EndsBefore ts name NoTemplate
ends_unnamed ts name none options given t = unnamed_by options ts name given t none

pub ends_refused : (ts : List Template) (name : List ℕ) (k : ℕ) → Some k ≡ number_of name ts → EndsBefore ts name OutOfMemory
ends_refused ts name k is options given t =
    named_render (rules_of options) ts name input k (sunk t t) (Err OutOfMemory) is (any (slice_get ts k))
  where
    input : Option Value
    input = option_map (λ d. value_of d.now) given

    any : (o : Option Template) → IfSome o (λ t'. IsRunOf (ran (rules_of options) ts t'.0 t'.1 input) (sunk t t) (Err OutOfMemory))
    any None = tt
    any (Some u) = inr (refl, refl)

-- ---- the law

pub leaves-sink : LeavesSink
leaves-sink None before after h = (refl, h.1)
leaves-sink (Some r) before after h = absurd h

pub ruleset laws = (leaves-sink)
