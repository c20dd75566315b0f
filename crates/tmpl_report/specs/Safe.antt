-- What is so of a template that is accepted over a JSON Schema, and where no error is found.
use Rattle.std.specs.Prelude.{◌≡◌, ℕ, false, List, [], ◌∷◌, map, Option, Some, Ok, IfSome, IsSome}
use Rattle.std.specs.Option.{option_map_or}
use Rattle.tmpl_values.specs.Json.{data_of}
use Rattle.tmpl_values.specs.Value.{Value}
use Rattle.tmpl_syntax.specs.Set.{Template, tree_named}
use Rattle.tmpl_syntax.specs.Parse.{Parses, base_name}
use Rattle.tmpl_syntax.specs.Tree.{Tree}
use Rattle.tmpl_meaning.specs.Meaning.{Rules, ran}
use Rattle.tmpl_meaning.specs.declared.missing_key.MissingKey.{MissingKey}
use Rattle.tmpl_schema.specs.Safe.{Covers, MayEnd}
use Rattle.serde_json.specs.Data.{Data}
use Rattle.tmpl_json_schema.specs.Document.{IsOfSchema, document_of, draft_of}
use Rattle.tmpl_report.specs.declared.source.Question.{Question}
use Rattle.tmpl_problems.specs.declared.source.Source.{Source}
use Rattle.tmpl_report.specs.declared.source.Sources.{Sources}

-- the template of this name is there, the document is of a draft that is known, and whatever the limits, the template's run
-- over each value that conforms to the document has no fault but those that it may have
abbrev pub NeverFailsOver : Data → Option MissingKey → List (List ℕ) → List Template → List ℕ → Type 0
NeverFailsOver root asked stops set name = (t : Tree) × (tree_named name set ≡ Some t) × IsSome (draft_of root)
    × ((rules : Rules) (v : Value) → Covers asked rules.missing_key → IsOfSchema root v
    → IfSome (ran rules set name t (Some v)).fault (λ f. MayEnd stops f.cause))

-- these files are accepted one after the other, and make the new set of the old one
abbrev pub AreAccepted : List Template → List Source → List Template → Type 0
AreAccepted old [] new = new ≡ old
AreAccepted old (file ∷ files) new = (next : List Template)
    × Parses old file.name.now file.bytes.items (Ok next) × AreAccepted next files new

-- the name of the template that is rendered, where this is the first file
abbrev pub asked_name : Question → List ℕ → List ℕ
asked_name question first = option_map_or (λ name. name.now) question.name (base_name first)

-- the template that is rendered never fails over the schema, if there is one
abbrev pub IsSafeOver : Question → Sources → List Template → Type 0
IsSafeOver question sources set = IfSome sources.schema (λ schema. IfSome question.first (λ first.
    (document : Data) × (document_of schema.bytes.items ≡ Some document)
    × NeverFailsOver document question.mode (map (λ stop. stop.now) question.stops.items) set
    (asked_name question first.now)))

-- the data has a value, if there is some
abbrev pub HasValue : Sources → Type 0
HasValue sources = IfSome sources.data (λ d. (value : Value) × (data_of d.bytes.items ≡ Ok value))

-- all files are accepted, the data has a value, and, where no file is missing, the template never fails over the schema
abbrev pub IsSafe : Question → Sources → Type 0
IsSafe question sources = (set : List Template) × AreAccepted [] sources.templates.items set
    × HasValue sources × (sources.is_short ≡ false → IsSafeOver question sources set)
