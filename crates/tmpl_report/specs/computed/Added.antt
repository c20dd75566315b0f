-- For private contracts: the document of the schema, and what is added.
use Rattle.std.specs.Prelude.{◌≡◌, ℕ, false, ◌++◌, List, [], ◌∷◌, Option}
use Rattle.std.specs.Option.{option_and_then}
use Rattle.std.specs.List.{AllByRecursion}
use Rattle.tmpl_syntax.specs.Set.{Template}
use Rattle.tmpl_meaning.specs.Fault.{Fault}
use Rattle.serde_json.specs.Data.{Data}
use Rattle.tmpl_json_schema.specs.Document.{document_of}
use Rattle.tmpl_problems.specs.Errors.{errors_in}
use Rattle.tmpl_problems.specs.Finding.{Finding, has_error}
use Rattle.tmpl_problems.specs.declared.source.Source.{Source}
use Rattle.tmpl_report.specs.Errors.{AreOfOutput, AreOfSources, IsNotOfFormat}
use Rattle.tmpl_report.specs.Rendered.{IsFaultOver, IsOfFault, IsUnfit, IsValued}
use Rattle.tmpl_report.specs.Safe.{IsSafe}
use Rattle.tmpl_report.specs.declared.source.Question.{Question}
use Rattle.tmpl_report.specs.declared.source.Sources.{Sources}

-- the JSON value that a schema is, and that of the schema among the sources
abbrev pub document_for : Option Source → Option Data
document_for schema = option_and_then (λ file. document_of file.bytes.items) schema

abbrev pub schema_document : Sources → Option Data
schema_document sources = document_for sources.schema

-- what is found of all but an output
abbrev pub AreFound : Question → Sources → List Finding → Type 0
AreFound question sources found = AreOfSources question sources (errors_in found)
    × (has_error found ≡ false → IsSafe question sources × IsValued question sources found)

-- one error is added, which tells this fault
abbrev pub AddsFault : Fault → List Finding → List Finding → Type 0
AddsFault fault old new = (f : Finding) × IsOfFault fault f × (errors_in new ≡ errors_in old ++ f ∷ [])

-- errors are added, each of them the fault of the run over the data
abbrev pub AddsFaults : Question → List ℕ → Source → List Template → List Finding → List Finding → Type 0
AddsFaults question first given set old new = (errors : List Finding)
    × AllByRecursion (IsFaultOver question first given set) errors × (errors_in new ≡ errors_in old ++ errors)

-- .. each of them that the data does not conform to the schema
abbrev pub AddsUnfit : List Finding → List Finding → Type 0
AddsUnfit old new = (errors : List Finding) × AllByRecursion IsUnfit errors × (errors_in new ≡ errors_in old ++ errors)

-- .. each of them that an output is not of the format
abbrev pub AddsBroken : List Finding → List Finding → Type 0
AddsBroken old new = (errors : List Finding) × AllByRecursion IsNotOfFormat errors × (new ≡ old ++ errors)

-- .. which are those of an output
abbrev pub AddsOfOutput : Question → List Finding → List Finding → Type 0
AddsOfOutput question old new = (errors : List Finding) × AreOfOutput question (errors_in old) errors × (new ≡ old ++ errors)
