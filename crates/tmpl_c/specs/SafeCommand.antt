-- From a check without errors to the command: over the same files, and data that conforms, it ends well, or at a limit or a stop.
use Rattle.std.specs.Prelude.{◌≡◌, ◌⊎◌, ◌∷◌, [], false, List, Some, Ok, map}
use Rattle.std.specs.Borrow.{Bor}
use Rattle.tmpl_values.specs.Json.{data_of}
use Rattle.tmpl_values.specs.Value.{Value}
use Rattle.tmpl_meaning.specs.Meaning.{Fault}
use Rattle.tmpl_schema.specs.Safe.{Covers, MayEnd}
use Rattle.tmpl_json_schema.specs.Document.{ConformsTo}
use Rattle.tmpl_report.specs.Safe as report
use Rattle.tmpl_report.specs.Safe.{IsSafe}
use Rattle.tmpl_report.specs.declared.source.Question.{Question}
use Rattle.tmpl_problems.specs.declared.source.Source.{Source}
use Rattle.tmpl_report.specs.declared.source.Sources.{Sources}
use Rattle.tmpl_tool.specs.Outcome.{Answer}
use Rattle.tmpl_tool.specs.Source.{Bytes, Files}
use Rattle.tmpl_tool.specs.Tool.{IsParse, Parse, asked_by, asked_name, fault_line, no_read, tool_answer}
use Rattle.tmpl_tool.specs.Words.{Wanted}

-- each of these files holds what was checked
abbrev pub HoldsChecked : Files → List Source → Type 0
HoldsChecked files [] = Unit {0}
HoldsChecked files (s ∷ ss) = (files s.name.now ≡ Some s.bytes.items) × HoldsChecked files ss

-- the arguments name these template files, in this order, the same template, and a mode that was asked for, and print nothing
abbrev pub AsksSame : Question → Bytes → Sources → Wanted → Type 0
AsksSame question first sources w = (w.print ≡ false) × (w.files ≡ map (λ (s : Source). s.name.now) sources.templates.items)
    × (asked_name w ≡ report.asked_name question first) × Covers question.mode w.rules.missing_key

-- the data file of the arguments has a value, which conforms to the schema
abbrev pub HasConforming : Files → Source → Wanted → Type 0
HasConforming files schema w = (name input : Bytes) × (v : Value) × (w.data_file ≡ Some name) × (files name ≡ Some input)
    × (data_of input ≡ Ok v) × ConformsTo schema.bytes.items v

-- all went well, or the run ended at a limit or a stop
abbrev pub EndsSafely : List Bytes → Answer → Type 0
EndsSafely stops a = (a.status ≡ 0)
    ⊎ ((fault : Fault) × MayEnd stops fault.cause × (a.status ≡ 1) × (a.line ≡ fault_line fault))

abbrev pub SafeCommand : Type 0
SafeCommand = (question : Question) (sources : Sources) → IsSafe question sources → sources.is_short ≡ false
    → (schema : Source) → sources.schema ≡ Some schema → (first : Bor Bytes) → question.first ≡ Some first
    → (files : Files) → HoldsChecked files sources.templates.items
    → (words : List Bytes) (w : Wanted) → asked_by words ≡ Ok w → AsksSame question first.now sources w → HasConforming files schema w
    → (parse : Parse) → IsParse parse
    → EndsSafely (map (λ stop. stop.now) question.stops.items) (tool_answer parse words files no_read)
