-- The meaning of a template: its text, and the fault that ends it if there is one.
use Rattle.std.specs.Prelude.{ℕ, zero, suc, ◌-◌, nat_eq, Bool, false, ◌||◌, List, [], ◌∷◌, ◌++◌, length, drop}
use Rattle.std.specs.Prelude.{Option, Some, None, Result, Ok, Err, if◌then◌else◌}
use Rattle.std.specs.Option.{option_map_or}
use Rattle.std.specs.Str.{bytes_eq}
use Rattle.tmpl_values.specs.Value.{Value, nothing, number}
use Rattle.tmpl_values.specs.Elements.{Element, elements}
use Rattle.tmpl_values.specs.Text.{text_of}
use Rattle.tmpl_values.specs.Truth.{truth}
use Rattle.tmpl_grammar.specs.Tree.{Pipeline, Binding, unbound, declare, assign, declare_pair}
use Rattle.tmpl_grammar.specs.declared.tree.Control.{Control}
use Rattle.tmpl_grammar.specs.declared.tree.Control.TheVariants as control
use Rattle.tmpl_syntax.specs.Tree as tree
use Rattle.tmpl_syntax.specs.Tree.{NodeKind, text, action, control_node, break_node, continue_node}
use Rattle.tmpl_syntax.specs.Tree.{template_node, Nodes, Tree}
use Rattle.tmpl_syntax.specs.Set.{Template, tree_named}
pub use Rattle.tmpl_meaning.specs.Fault.{Cause, Fault, steps_spent, not_a_function, nil_command, lacks_field}
pub use Rattle.tmpl_meaning.specs.Fault.{lacks_entry, not_a_range, call_failed, no_template, calls_too_deep}
use Rattle.tmpl_meaning.specs.Pipeline.{Environment, commands_value, without_null}
use Rattle.tmpl_meaning.specs.declared.missing_key.MissingKey.{MissingKey}

-- ---- variables

-- a value assigned to the newest variable of a name
abbrev pub assign_variable : List ℕ → Value → Environment → Environment
assign_variable name x [] = []
assign_variable name x (v ∷ env) = if bytes_eq v.0 name then (v.0, x) ∷ env else v ∷ assign_variable name x env

-- binds variables to a value: to an element of a range, by its index or key and itself
abbrev pub bind : Binding → Element → Environment → Environment
bind unbound e env = env
bind (declare name) e env = (name, e.1) ∷ env
bind (assign name) e env = assign_variable name e.1 env
bind (declare_pair key name) e env = (name, e.1) ∷ (key, e.0) ∷ env

-- ---- runs

-- where a run stands: the variables, the text so far, the steps left, and whether a function that makes a text was
-- called with all its arguments
pub record Run : Type 0 where
  pub env : Environment
  pub text : List ℕ
  pub left : ℕ
  pub made_text : Bool

-- how a part of a template ends: at a break or continue it is left for the range around it to go on
pub data End : Type 0 where
  done broke continued : End
  faulted : Fault → End

abbrev pub Next : Type 0
Next = Run → Run × End

-- what a name calls: the run of a template over a value, or why there is none
abbrev pub Calls : Type 0
Calls = List ℕ → Result (Value → Next) Cause

-- the rules of a run: the mode, the limit of steps, and how many templates may be inside one another
pub record Rules : Type 0 where
  pub missing_key : MissingKey
  pub step_limit : ℕ
  pub depth_limit : ℕ

-- how a template is run: by these rules, in this file and under this name, and what names call in it
pub record Setting : Type 0 where
  pub rules : Rules
  pub file : List ℕ
  pub template : List ℕ
  pub calls : Calls

abbrev pub faulted_at : Setting → ℕ → Cause → End
faulted_at s line cause = faulted (record { file = s.file; line = line; template = s.template; cause = cause })

-- takes a step and goes on, or stops where none is left
abbrev pub spend : Setting → ℕ → Next → Next
spend s line go r = if nat_eq r.left 0 then (r, faulted_at s line (steps_spent s.rules.step_limit))
    else go (record r { left = r.left - 1 })

-- goes on from where a part is done
abbrev pub after : Run × End → Next → Run × End
after (r, done) go = go r
after part go = part

-- goes on with what is there, or stops
abbrev pub with_value : {T : Type 0} → Setting → ℕ → Result T Cause → (T → Next) → Next
with_value s line (Ok t) go r = go t r
with_value s line (Err cause) go r = (r, faulted_at s line cause)

-- goes on with the value of a pipeline, or stops
abbrev pub with_pipeline : Setting → ℕ → Pipeline → Value → (Value → Next) → Next
with_pipeline s line p d go r =
    let g = commands_value (record { missing_key = s.rules.missing_key; dot = d; env = r.env }) p None in
    with_value s line g.result go (record r { made_text = r.made_text || g.made_text })

-- a part whose variables last to its end: after it there are the oldest, as many as there were before it, so those
-- declared in it are gone, and values assigned stay
abbrev pub scope : Next → Next
scope part r = let q = part r in (record q.0 { env = drop (length q.0.env - length r.env) q.0.env }, q.1)

abbrev pub with_bound : Binding → Element → Run → Run
with_bound b e r = record r { env = bind b e r.env }

-- puts the text of a value, or binds variables to it, which is no element of a range and so has no index or key
abbrev pub show : Binding → Value → Next
show unbound v r = (record r { text = r.text ++ text_of v }, done)
show b v r = (with_bound b (nothing, v) r, done)

-- goes on from where the body of a range ends for one element: a break ends the range
abbrev pub after_turn : Run × End → Next → Run × End
after_turn (r, broke) go = (r, done)
after_turn (r, faulted f) go = (r, faulted f)
after_turn (r, end) go = go r

-- the body for each element in order, which costs a step and has the element as its dot
abbrev pub turns : Setting → ℕ → Binding → (Value → Next) → List Element → Next
turns s line b body [] r = (r, done)
turns s line b body (e ∷ es) r =
    after_turn (spend s line (scope (λ q. body e.1 (with_bound b e q))) r) (turns s line b body es)

-- the elements that a range visits, if it may range over the value: with two variables it may not over a number
abbrev pub elements_visited : Binding → Value → Option (List Element)
elements_visited (declare_pair key name) (number n) = None
elements_visited b v = elements v

-- what stands in a control: the variables in its header, its body with a dot, and its other part
pub record Parts : Type 0 where
  pub binding : Binding
  pub body : Value → Next
  pub other : Next

-- an `if` or a `with` that has this value: its body with a dot where the value is not empty, else its other part
abbrev pub choose : Parts → Value → Value → Next
choose p d v r = (if truth v then p.body d else p.other) (with_bound p.binding (nothing, v) r)

-- a range over the elements, or its other part where there are none
abbrev pub over : Setting → ℕ → Parts → Option (List Element) → Next
over s line p None r = (r, faulted_at s line not_a_range)
over s line p (Some []) r = p.other r
over s line p (Some (e ∷ es)) r = turns s line p.binding p.body (e ∷ es) r

-- a control with this dot and the value of its pipeline, which the body of a `with` has as its dot
abbrev pub control_run : Setting → ℕ → Control → Parts → Value → Value → Next
control_run s line control.If p d v r = choose p d v r
control_run s line control.With p d v r = choose p v v r
control_run s line control.Range p d v r = over s line p (elements_visited p.binding v) r

abbrev mutual
  -- a node with this dot, once its step is taken; its variables last to the end of a control; a template that it calls
  -- is looked for before its pipeline is looked at, and is handed the value of that, or nothing
  pub stepped : Setting → ℕ → NodeKind → Value → Next
  stepped s line (text bytes) d = λ r. (record r { text = r.text ++ bytes }, done)
  stepped s line (action h) d = with_pipeline s line h.pipeline d (show h.binding)
  stepped s line (control_node c h body other) d =
      let parts : Parts = record { binding = h.binding; body = meanings s body; other = meanings s other d } in
      scope (with_pipeline s line h.pipeline d (control_run s line c parts d))
  stepped s line break_node d = λ r. (r, broke)
  stepped s line continue_node d = λ r. (r, continued)
  stepped s line (template_node name given) d = with_value s line (s.calls name)
      (λ go. option_map_or (λ p. with_pipeline s line p d go) given (go nothing))

  -- the nodes one after the other, up to the first that is not done; each costs a step before anything else
  pub meanings : Setting → Nodes → Value → Next
  meanings s tree.none d r = (r, done)
  meanings s (tree.then line n ns) d r = after (spend s line (stepped s line n d) r) (meanings s ns d)

-- a node with this dot
abbrev pub meaning : Setting → ℕ → NodeKind → Value → Next
meaning s line n d = spend s line (stepped s line n d)

-- ---- calls

-- the fault of an end; a template that is accepted breaks out of nothing but a range of its own
abbrev pub fault_of : End → Option Fault
fault_of (faulted f) = Some f
fault_of end = None

abbrev pub setting_of : Rules → Calls → List ℕ → Tree → Setting
setting_of rules calls name t = record { rules = rules; file = t.file; template = name; calls = calls }

-- what names call in this set, where this many calls may be made inside one another: a template sees no variable but `$`,
-- which is the value that is handed to it; after it the variables are those of its caller, and it is done where it has
-- no fault
abbrev pub calls_within : Rules → List Template → ℕ → Calls
calls_within rules set zero name =
    option_map_or (λ t. Err (calls_too_deep rules.depth_limit)) (tree_named name set) (Err (no_template name))
calls_within rules set (suc n) name = option_map_or (λ t. Ok (λ v r.
    let q = meanings (setting_of rules (calls_within rules set n) name t) t.nodes v (record r { env = ([], v) ∷ [] }) in
    (record q.0 { env = r.env }, option_map_or faulted (fault_of q.1) done)))
    (tree_named name set) (Err (no_template name))

-- ---- whole templates

-- the text that a template puts out, the fault that ends it, and whether the run makes text: it calls a function that
-- makes one with all its arguments
pub record Ran : Type 0 where
  pub text : List ℕ
  pub fault : Option Fault
  pub made_text : Bool

-- what a template of this name and set puts out over the data: the dot at its start is the data, of which null is
-- nothing, and nothing where there is no data
abbrev pub ran : Rules → List Template → List ℕ → Tree → Option Value → Ran
ran rules set name t input = let d = option_map_or without_null input nothing in
    let r = meanings (setting_of rules (calls_within rules set (rules.depth_limit - 1)) name t) t.nodes d
    (record { env = ([], d) ∷ []; text = []; left = rules.step_limit; made_text = false }) in
    record { text = r.0.text; fault = fault_of r.1; made_text = r.0.made_text }
