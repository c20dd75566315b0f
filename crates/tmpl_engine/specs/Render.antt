-- The result of a render of a template by its name, as its sink saw it.
use Rattle.std.specs.Prelude.{◌≡◌, ◌⊎◌, List, ℕ, Option, Some, None, Result, Ok, Err, option_map}
use Rattle.std.specs.Borrow.{Bor}
use Rattle.tmpl_values.specs.Value.{Value}
use Rattle.tmpl_values.specs.View.{value_of}
use Rattle.tmpl_values.specs.declared.data.Data.{Data}
use Rattle.tmpl_syntax.specs.Set.{Template, tree_named}
use Rattle.tmpl_meaning.specs.Meaning.{Ran, Rules, ran}
use Rattle.tmpl_meaning.specs.Sink.{Sunk, Told, Untouched, sunk}
use Rattle.tmpl_meaning.specs.View.{rules_of}
use Rattle.tmpl_meaning.specs.declared.options.Options.{Options}
use Rattle.tmpl_engine.specs.Run.{IsRun}
use Rattle.tmpl_engine.specs.declared.fault.RunError.TheVariants as run
use Rattle.tmpl_engine.specs.declared.error.RenderError.{RenderError}
use Rattle.tmpl_engine.specs.declared.error.RenderError.TheVariants.{NoTemplate, Fault, WriteFailed, OutOfMemory}

-- the meaning of the template of this name, if there is one
abbrev pub ran_named : Rules → List Template → List ℕ → Option Value → Option Ran
ran_named rules ts name input = option_map (λ tree. ran rules ts name tree input) (tree_named name ts)

-- a run of the template, as it is called by code; or, before it, memory was refused
abbrev pub IsRunOf : Ran → Sunk → Result (Unit {0}) RenderError → Type 0
IsRunOf r s (Ok u) = IsRun r s (Ok u)
IsRunOf r s (Err (Fault fault)) = IsRun r s (Err (run.Fault fault))
IsRunOf r s (Err WriteFailed) = IsRun r s (Err run.WriteFailed)
IsRunOf r s (Err OutOfMemory) = IsRun r s (Err run.OutOfMemory) ⊎ Untouched s
IsRunOf r s (Err NoTemplate) = ⊥

-- where there is no such template, that is answered, and nothing is put out
abbrev pub IsRender : Option Ran → Sunk → Result (Unit {0}) RenderError → Type 0
IsRender None s answer = (answer ≡ Err NoTemplate) × Untouched s
IsRender (Some r) s answer = IsRunOf r s answer

-- .. of the template of this name, over data if they are given, by these options, between these states of the sink
abbrev pub Renders : Options → List Template → List ℕ → Option (Bor Data) → Told → Told
    → Result (Unit {0}) RenderError → Type 0
Renders options ts name given before after answer =
    IsRender (ran_named (rules_of options) ts name (option_map (λ d. value_of d.now) given)) (sunk before after) answer

-- a render of the template of this name ends with this error before anything is put out, whatever the options and data
abbrev pub EndsBefore : List Template → List ℕ → RenderError → Type 0
EndsBefore ts name e =
    (options : Options) (given : Option (Bor Data)) (t : Told) → Renders options ts name given t t (Err e)
