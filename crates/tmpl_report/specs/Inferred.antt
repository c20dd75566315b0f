-- What comes of files of data of which a schema is inferred.
use Rattle.std.specs.Prelude.{◌≡◌, ℕ, true, List, Any, Some, Ok, Err, string_bytes}
use Rattle.std.specs.List.{AllByRecursion}
use Rattle.tmpl_values.specs.Json.{data_of, Flaw}
use Rattle.tmpl_values.specs.Value.{Value}
use Rattle.serde_json.specs.Data.{Data}
use Rattle.tmpl_json_schema.specs.Document.{ConformsTo, document_of}
use Rattle.tmpl_json_schema.specs.Inferred as schema
use Rattle.tmpl_problems.specs.Finding.{has_error}
use Rattle.tmpl_report.specs.declared.infer.Inferred.{Inferred}
use Rattle.tmpl_report.specs.declared.infer.Inferred.TheVariants.{Schema, Refused}
use Rattle.tmpl_problems.specs.declared.source.Source.{Source}

-- the bytes are a schema that has no keywords but those that are inferred
abbrev pub IsSchemaInferred : List ℕ → Type 0
IsSchemaInferred bytes = (root : Data) × (document_of bytes ≡ Some root) × schema.IsInferred root

-- each file has a value, which conforms to the schema that the text is; or a file has none, and there is an error
abbrev pub IsInferred : List Source → Inferred → Type 0
IsInferred files (Schema text) = AllByRecursion (λ file. (value : Value) × (data_of file.bytes.items ≡ Ok value)
    × ConformsTo (string_bytes text) value) files × IsSchemaInferred (string_bytes text)
IsInferred files (Refused found) = (has_error found ≡ true)
    × Any (λ file. (flaw : Flaw) × (data_of file.bytes.items ≡ Err flaw)) files
