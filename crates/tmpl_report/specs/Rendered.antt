-- What it is that the template is rendered over the data, and which finding tells its fault.
use Rattle.std.specs.Prelude.{◌≡◌, ◌⊎◌, ℕ, nat_eq, Bool, true, false, List, [], drop, Option, Some, None, Ok, IfSome, IfNone, MatchOption, codes}
use Rattle.std.specs.List.{AllByRecursion, list_any, starts_with}
use Rattle.std.specs.Prelude.{unwrap_or}
use Rattle.std.specs.Str.{IsUtf8, bytes_eq}
use Rattle.serde_json.specs.Data.{Data}
use Rattle.tmpl_values.specs.Json.{data_of}
use Rattle.tmpl_values.specs.Value.{Value}
use Rattle.tmpl_syntax.specs.Set.{Template}
use Rattle.tmpl_meaning.specs.Fault.{Cause, Fault, steps_spent, calls_too_deep}
use Rattle.tmpl_meaning.specs.Meaning.{Rules}
use Rattle.tmpl_meaning.specs.declared.missing_key.MissingKey.{MissingKey}
use Rattle.tmpl_meaning.specs.declared.missing_key.MissingKey.TheVariants.{Default}
use Rattle.tmpl_engine.specs.Reason.{cause_text}
use Rattle.tmpl_problems.specs.Line.{reason_with}
use Rattle.tmpl_json_schema.specs.Document.{IsOfSchema, document_of}
use Rattle.tmpl_report.specs.Failing.{fault_over}
use Rattle.tmpl_problems.specs.Finding.{Finding}
use Rattle.tmpl_report.specs.Safe.{AreAccepted, asked_name}
use Rattle.tmpl_problems.specs.declared.finding.Level.TheVariants.{Error}
use Rattle.tmpl_report.specs.declared.source.Question.{Question}
use Rattle.tmpl_problems.specs.declared.source.Source.{Source}
use Rattle.tmpl_report.specs.declared.source.Sources.{Sources}

-- the rules of the run: by this mode, 1,000,000 steps, and 500 templates inside one another
abbrev pub run_rules : MissingKey → Rules
run_rules mode = record { missing_key = mode; step_limit = 1000000; depth_limit = 500 }

-- the run stops since it meets a limit
abbrev pub is_limit : Cause → Bool
is_limit (steps_spent limit) = true
is_limit (calls_too_deep limit) = true
is_limit cause = false

-- the fault of the run over the data, by the mode that is asked for or else the default
abbrev pub fault_by : Question → List ℕ → List Template → Value → Option Fault
fault_by question first set value =
    fault_over (run_rules (unwrap_or question.mode Default)) set (asked_name question first) value

-- the finding tells a fault: its line, the words of `tmpl` for it, unless these are no UTF-8, and a detail
abbrev pub IsOfFault : Fault → Finding → Type 0
IsOfFault fault f = (f.level ≡ Error) × (f.rule ≡ codes "fails-over-data") × (f.line ≡ fault.line)
    × (IsUtf8 (cause_text fault.cause)
    → (detail : List ℕ) × (f.text ≡ reason_with (cause_text fault.cause) detail))

-- .. the fault of the run over the data, which no limit of the run is
abbrev pub IsFaultOver : Question → List ℕ → Source → List Template → Finding → Type 0
IsFaultOver question first given set f = (value : Value) × (fault : Fault) × (data_of given.bytes.items ≡ Ok value)
    × (fault_by question first set value ≡ Some fault) × (is_limit fault.cause ≡ false) × IsOfFault fault f

-- one of these says that the run met a limit
abbrev pub is_cut : List Finding → Bool
is_cut found = list_any (λ f. bytes_eq f.rule (codes "not-rendered-whole")) found

-- the run over the data has no fault; or it met a limit, which is found
abbrev pub IsRenderedOver : Question → List ℕ → Source → List Template → List Finding → Type 0
IsRenderedOver question first given set found = (value : Value) → data_of given.bytes.items ≡ Ok value
    → (fault_by question first set value ≡ None) ⊎ (is_cut found ≡ true)

-- .. where data is given and no schema
abbrev pub IsRendered : Question → Sources → List Template → List Finding → Type 0
IsRendered question sources set found = IfSome sources.data (λ given. IfNone sources.schema
    (IfSome question.first (λ first. IsRenderedOver question first.now given set found)))

-- the bytes stand inside these
abbrev pub IsInside : List ℕ → List ℕ → Type 0
IsInside text bytes = (at : ℕ) × (starts_with nat_eq (drop at bytes) text ≡ true)

-- a schema names a keyword by which strings are not looked at
abbrev pub Mentions : List ℕ → Type 0
Mentions schema = IsInside (codes "\"pattern\"") schema ⊎ IsInside (codes "\"format\"") schema

-- the value of the data conforms to the document of the schema; or that document names such a keyword
abbrev pub IsHeldTo : Source → Source → Type 0
IsHeldTo schema given = (document : Data) (value : Value) → document_of schema.bytes.items ≡ Some document
    → data_of given.bytes.items ≡ Ok value → IsOfSchema document value ⊎ Mentions schema.bytes.items

-- .. where both are given
abbrev pub IsHeld : Sources → Type 0
IsHeld sources = IfSome sources.data (λ given. IfSome sources.schema (λ schema. IsHeldTo schema given))

-- the finding is that the data does not conform to the schema
abbrev pub IsUnfit : Finding → Type 0
IsUnfit f = (f.level ≡ Error) × (f.rule ≡ codes "does-not-conform")

-- these are the errors of the data beside the files: of a schema that it does not conform to, or the fault of the run
-- over it
abbrev pub AreOfValues : Question → Sources → List Template → List Finding → Type 0
AreOfValues question sources set errors = AllByRecursion (λ f. IfSome sources.data (λ given. MatchOption sources.schema
    (IfSome question.first (λ first. IsFaultOver question first.now given set f)) (λ schema. IsUnfit f))) errors

-- the data conforms to the schema; and, where all files are accepted and none is missing, the run over it has no fault
abbrev pub IsValued : Question → Sources → List Finding → Type 0
IsValued question sources found = IsHeld sources × ((set : List Template) × AreAccepted [] sources.templates.items set
    × (sources.is_short ≡ false → IsRendered question sources set found))
