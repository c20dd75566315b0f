-- What is kept by handles, and a call that keeps or renders it.
use Rattle.std.specs.Prelude.{◌≡◌, ◌⊎◌, ℕ, Bool, List, [], Option, Result, Ok, Err, option_map}
use Rattle.std.specs.Option.{option_map_or}
use Rattle.tmpl_values.specs.Value.{Value}
use Rattle.tmpl_values.specs.View.{value_of}
use Rattle.tmpl_syntax.specs.Set.{Template}
use Rattle.tmpl_syntax.specs.View.{set_view}
use Rattle.tmpl_syntax.specs.declared.set.Set.{Set}
use Rattle.tmpl_meaning.specs.Meaning.{Rules}
use Rattle.tmpl_tool.specs.Outcome.{Answer, memory_line}
use Rattle.tmpl_tool.specs.Source.{Bytes}
use Rattle.tmpl_tool.specs.Tool.{Early, answer_of, named_run, printed, stop_answer, stop_if}
use Rattle.tmpl_values.specs.Stage.{and_then}
use Rattle.tmpl_engine.specs.View as engine
use Rattle.tmpl_engine.specs.declared.rendering.Renderer.{Renderer}
use Rattle.tmpl_c.specs.Filled.{Fills, Seen}
use Rattle.tmpl_c.specs.declared.shared_data.SharedData.{SharedData}

-- ---- what is kept

-- the templates of a set that is kept; none before the first file
abbrev pub templates_in : Option Set → List Template
templates_in kept = option_map_or set_view kept []

-- those of the set that a program was made of, as they were then
abbrev pub templates_run : Option Renderer → List Template
templates_run kept = option_map_or engine.templates_in kept []

-- the value of data that is kept, if any is
abbrev pub value_in : Option SharedData → Option Value
value_in kept = option_map (λ s. value_of s.data.value) kept

-- ---- an offer

-- what was offered was accepted, and is kept: no line, and status 0
abbrev pub Accepted : {T : Type 0} → Result T Early → T → ℕ → Seen → ℕ → Type 0
Accepted offered new room err code = (offered ≡ Ok new) × Fills [] room err × (code ≡ 0)

-- it is refused, what was kept before is kept, and the line and the status are those of why
abbrev pub Declined : {T : Type 0} → Result T Early → T → T → ℕ → Seen → ℕ → Type 0
Declined offered old new room err code = (stop : Early) × (offered ≡ Err stop) × (new ≡ old)
    × Fills (stop_answer stop).line room err × (code ≡ (stop_answer stop).status)

-- memory ran out, and what was kept before is kept
abbrev pub Unmade : {T : Type 0} → T → T → ℕ → Seen → ℕ → Type 0
Unmade old new room err code = (new ≡ old) × Fills memory_line room err × (code ≡ 7)

-- one of the three
abbrev pub Keeps : {T : Type 0} → Result T Early → T → T → ℕ → Seen → ℕ → Type 0
Keeps offered old new room err code =
    Accepted offered new room err code ⊎ (Declined offered old new room err code ⊎ Unmade old new room err code)

-- what was offered is kept, with status 0; or memory ran out, and what was kept before is
abbrev pub Replaces : {T : Type 0} → T → T → T → ℕ → Type 0
Replaces offered old new code = ((new ≡ offered) × (code ≡ 0)) ⊎ ((new ≡ old) × (code ≡ 7))

-- ---- a render

-- the printed set, or else the name, and the run
abbrev pub held_answer : Rules → Bool → List Template → Bytes → Option Value → Answer
held_answer rules print set name value = answer_of
    (and_then (stop_if print (printed set)) (λ u. named_run rules name set value))
