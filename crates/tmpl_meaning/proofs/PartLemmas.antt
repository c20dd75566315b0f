-- The parts of the meaning by what they go by, for proofs by cases; each computes to what stands in `Meaning` and `Pipeline`.
use Rattle.std.specs.Prelude.{ℕ, ◌-◌, Bool, false, ◌||◌, List, [], ◌∷◌, length, drop, Option, Result, Ok, Err, if◌then◌else◌}
use Rattle.std.specs.Option.{option_map_or}
use Rattle.tmpl_values.specs.Value.{Value, nothing}
use Rattle.tmpl_values.specs.Elements.{Element}
use Rattle.tmpl_values.specs.Truth.{truth}
use Rattle.tmpl_funcs.specs.declared.func.Func.{Func}
use Rattle.tmpl_funcs.specs.declared.fault.CallFault.TheVariants.{WrongCount}
use Rattle.tmpl_grammar.specs.Tree.{Pipeline, Binding, Header}
use Rattle.tmpl_grammar.specs.declared.tree.Control.{Control}
use Rattle.tmpl_syntax.specs.Tree.{Tree}
use Rattle.tmpl_syntax.specs.Set.{Template}
use Rattle.tmpl_meaning.specs.Fault.{Cause, call_failed, calls_too_deep, no_template, steps_spent}
use Rattle.tmpl_meaning.specs.Pipeline.{Environment, Given, as_given}
use Rattle.tmpl_meaning.specs.Meaning.{Calls, End, Next, Ran, Rules, Run, Setting, after, after_turn, calls_within, done, fault_of}
use Rattle.tmpl_meaning.specs.Meaning as meaning
use Rattle.tmpl_meaning.specs.Meaning.{Parts, faulted, faulted_at, meanings, scope, setting_of, spend, with_bound, with_pipeline, with_value}

-- ---- pipelines

abbrev pub by_count : Func → Bool → Given Value → Given Value
by_count f b g = if b then g else as_given (Err (call_failed f WrongCount))

abbrev pub decided : Bool → Value → Given Value → Given Value
decided b v rest = if b then as_given (Ok v) else rest

-- ---- parts of a template

-- this many of the oldest variables
abbrev pub oldest : ℕ → Environment → Environment
oldest n env = drop (length env - n) env

abbrev pub spend_if : Bool → Setting → ℕ → Next → Next
spend_if b s line go r = if b then (r, faulted_at s line (steps_spent s.rules.step_limit)) else go (record r { left = r.left - 1 })

abbrev pub on_end : End → Run → Next → Run × End
on_end end r go = after (r, end) go

abbrev pub on_turn : End → Run → Next → Run × End
on_turn end r go = after_turn (r, end) go

abbrev pub with_given : Setting → ℕ → Given Value → (Value → Next) → Next
with_given s line g go r = with_value s line g.result go (record r { made_text = r.made_text || g.made_text })

abbrev pub scoped : ℕ → Run × End → Run × End
scoped n part = (record part.0 { env = oldest n part.0.env }, part.1)

abbrev pub without_key : Value → Element
without_key v = (nothing, v)

abbrev pub one_of : Bool → Next → Next → Next
one_of b body other r = (if b then body else other) r

abbrev pub choosing : Setting → ℕ → Header → Value → (Value → Next) → Next → Next
choosing s line h d body other = with_pipeline s line h.pipeline d (λ v r. one_of (truth v) (body v) other (with_bound h.binding (without_key v) r))

-- the parts of a control, one by one
abbrev pub parts_of : Binding → (Value → Next) → Next → Parts
parts_of b body other = record { binding = b; body = body; other = other }

abbrev pub over : Setting → ℕ → Binding → (Value → Next) → Next → Option (List Element) → Next
over s line b body other es = meaning.over s line (parts_of b body other) es

abbrev pub controlled : Setting → ℕ → Control → Binding → Value → (Value → Next) → Next → Value → Next
controlled s line c b d body other = meaning.control_run s line c (parts_of b body other) d

abbrev pub controlling : Setting → ℕ → Control → Header → Value → (Value → Next) → Next → Next
controlling s line c h d body other = with_pipeline s line h.pipeline d (controlled s line c h.binding d body other)

abbrev pub turn : Setting → ℕ → Binding → (Value → Next) → Element → Next
turn s line b body e = spend s line (scope (λ r. body e.1 (with_bound b e r)))

abbrev pub handing : Setting → ℕ → Option Pipeline → Value → (Value → Next) → Next
handing s line as_given d go = option_map_or (λ p. with_pipeline s line p d go) as_given (go nothing)

abbrev pub left_by : End → End
left_by end = option_map_or faulted (fault_of end) done

-- ---- calls

-- .. after which the variables are these
abbrev pub returned : Environment → Run × End → Run × End
returned env part = (record part.0 { env = env }, left_by part.1)

-- a run that sees no variable but `$`
abbrev pub apart : Value → Next → Next
apart v body r = returned r.env (body (record r { env = ([], v) ∷ [] }))

abbrev pub run_called : Rules → Calls → List ℕ → Option Tree → Result (Value → Next) Cause
run_called rules calls name found =
    option_map_or (λ t. Ok (λ v. apart v (meanings (setting_of rules calls name t) t.nodes v))) found (Err (no_template name))

abbrev pub uncalled : Rules → List ℕ → Option Tree → Result (Value → Next) Cause
uncalled rules name found = option_map_or (λ t. Err (calls_too_deep rules.depth_limit)) found (Err (no_template name))

abbrev pub calling : Setting → ℕ → List ℕ → Option Pipeline → Value → Next
calling s line name as_given d = with_value s line (s.calls name) (handing s line as_given d)

-- ---- whole templates

abbrev pub started : ℕ → Value → Run
started step_limit d = record { env = ([], d) ∷ []; text = []; left = step_limit; made_text = false }

abbrev pub ran_of : Run × End → Ran
ran_of r = record { text = r.0.text; fault = fault_of r.1; made_text = r.0.made_text }

abbrev pub ran_with : Rules → List Template → List ℕ → Tree → Value → Ran
ran_with rules set name t d =
    ran_of (meanings (setting_of rules (calls_within rules set (rules.depth_limit - 1)) name t) t.nodes d (started rules.step_limit d))
