-- What it is that a failure is right: its data conform to the schema, and a run of the template over them has the fault
-- that the alarm names.
use Rattle.std.specs.Prelude.{◌≡◌, ℕ, Bool, true, false, List, [], ◌∷◌, Option, Some, Ok, IfSome}
use Rattle.std.specs.Prelude.{option_and_then, string_bytes}
use Rattle.std.specs.Str.{IsUtf8}
use Rattle.serde_json.specs.Data.{Data}
use Rattle.tmpl_values.specs.Json.{data_of}
use Rattle.tmpl_values.specs.Value.{Value}
use Rattle.tmpl_syntax.specs.Set.{Template, tree_named}
use Rattle.tmpl_meaning.specs.Fault.{Cause, Fault, lacks_entry, lacks_field, call_failed, not_a_range, not_a_function, nil_command, no_template}
use Rattle.tmpl_meaning.specs.Meaning.{Rules, ran}
use Rattle.tmpl_meaning.specs.declared.missing_key.MissingKey.{MissingKey}
use Rattle.tmpl_engine.specs.Reason.{cause_text}
use Rattle.tmpl_shape.specs.declared.cause.Cause as doubted
use Rattle.tmpl_shape.specs.declared.cause.Cause.TheVariants as doubted_for
use Rattle.tmpl_schema.specs.Safe.{MayEnd}
use Rattle.tmpl_schema.specs.declared.failure.Doubt.{Doubt}
use Rattle.tmpl_json_schema.specs.Document.{IsOfSchema}
use Rattle.tmpl_report.specs.declared.samples.failing.Failure.{Failure}

-- the rules of these runs: by this mode, 20,000 steps, and 50 templates inside one another
abbrev pub rules_by : MissingKey → Rules
rules_by mode = record { missing_key = mode; step_limit = 20000; depth_limit = 50 }

-- the fault of the run of the template of this name over a value, if there is the template and its run has one
abbrev pub fault_over : Rules → List Template → List ℕ → Value → Option Fault
fault_over rules set name value =
    option_and_then (λ tree. (ran rules set name tree (Some value)).fault) (tree_named name set)

-- a run that stops for this is what an alarm for that speaks of; no limit of the run is
abbrev pub Speaks : doubted.Cause → Cause → Type 0
Speaks (doubted_for.Absent name) (lacks_entry field) = field ≡ name
Speaks (doubted_for.Absent name) (lacks_field field) = field ≡ name
Speaks (doubted_for.NoFields name kind) (lacks_entry field) = field ≡ name
Speaks (doubted_for.NoFields name kind) (lacks_field field) = field ≡ name
Speaks (doubted_for.Arguments func) (call_failed f fault) = f ≡ func
Speaks (doubted_for.FewItems func count) (call_failed f fault) = f ≡ func
Speaks (doubted_for.NotFollowed func) (call_failed f fault) = f ≡ func
Speaks (doubted_for.Range kind) not_a_range = Unit {0}
Speaks (doubted_for.NoTemplate name) (no_template called) = called ≡ name
Speaks doubted_for.Command not_a_function = Unit {0}
Speaks doubted_for.Command nil_command = Unit {0}
Speaks doubt cause = ⊥

-- the fault is the one that the alarm names: at that line, in that template, and what the alarm speaks of
abbrev pub IsDoubted : Doubt → Fault → Type 0
IsDoubted doubt fault = (fault.line ≡ doubt.line) × (fault.template ≡ doubt.template) × Speaks doubt.cause fault.cause

-- a map has no entry of a name, which is a fault by one mode alone
abbrev pub is_no_entry : Cause → Bool
is_no_entry (lacks_entry name) = true
is_no_entry cause = false

-- what is asked: the runs of a template of a set by these rules, over values of a schema, where a call of one of the
-- stops is no failure
pub record Asked : Type 0 where
  pub rules : Rules
  pub stops : List (List ℕ)
  pub set : List Template
  pub name : List ℕ
  pub schema : Data

-- the data of the failure have a value, which conforms to the schema, and the run over it has the fault that the alarm
-- names, which is none that is allowed; the failure says whether it comes by one mode alone, and what `tmpl` says of
-- it, unless that is no UTF-8
abbrev pub IsRight : Asked → Doubt → Failure → Type 0
IsRight asked doubt failure = (value : Value) × (fault : Fault)
    × (data_of (string_bytes failure.data) ≡ Ok value) × IsOfSchema asked.schema value
    × (fault_over asked.rules asked.set asked.name value ≡ Some fault)
    × IsDoubted doubt fault × ¬ (MayEnd asked.stops fault.cause)
    × (failure.is_strict ≡ is_no_entry fault.cause)
    × (IsUtf8 (cause_text fault.cause) → string_bytes failure.said ≡ cause_text fault.cause)

-- there is one entry for each of these alarms, and a failure that is given is right of the alarm at its place
abbrev pub AreRight : Asked → List Doubt → List (Option Failure) → Type 0
AreRight asked [] [] = Unit {0}
AreRight asked (doubt ∷ doubts) (found ∷ rest) = IfSome found (IsRight asked doubt) × AreRight asked doubts rest
AreRight asked doubts found = ⊥
