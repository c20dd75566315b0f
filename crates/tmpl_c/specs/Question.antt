-- A check of templates over all data of a JSON Schema.
use Rattle.std.specs.Prelude.{◌≡◌, ◌⊎◌, ℕ, false, List, [], ◌∷◌, Option, Some, None, Ok, eqb, length, map, if◌then◌else◌}
use Rattle.serde_json.specs.Data.{Data}
use Rattle.tmpl_syntax.specs.Parse.{Parses, base_name}
use Rattle.tmpl_syntax.specs.Set.{Template}
use Rattle.tmpl_meaning.specs.declared.missing_key.MissingKey.{MissingKey}
use Rattle.tmpl_meaning.specs.declared.missing_key.MissingKey.TheVariants.{Default, Invalid, Zero, Error}
use Rattle.tmpl_json_schema.specs.Document.{document_of}
use Rattle.tmpl_report.specs.Safe.{NeverFailsOver}
use Rattle.tmpl_problems.specs.Finding.{Finding, has_error}
use Rattle.tmpl_problems.specs.Told.{told}
use Rattle.tmpl_problems.specs.declared.findings.Format.{Format}
use Rattle.tmpl_problems.specs.declared.findings.Format.TheVariants.{Text, Json, Sarif}
use Rattle.tmpl_tool.specs.Source.{Bytes}
use Rattle.tmpl_c.specs.declared.passed.Name.{Name}
use Rattle.tmpl_c.specs.declared.passed.Question.{Question}

-- ---- the numbers of a question

-- the mode for missing keys, or each of them
abbrev pub mode_asked : ℕ → Option MissingKey
mode_asked n = if eqb n 1 then Some Default else (if eqb n 2 then Some Invalid
    else (if eqb n 3 then Some Zero else (if eqb n 4 then Some Error else None)))

abbrev pub format_asked : ℕ → Format
format_asked n = if eqb n 1 then Json else (if eqb n 2 then Sarif else Text)

-- ---- its names

-- the own template of the first file
abbrev pub first_name : List (Bytes × Bytes) → Bytes
first_name [] = []
first_name (f ∷ fs) = base_name f.0

-- the template that is rendered: that of the name, where it is not empty
abbrev pub name_asked : Bytes → List (Bytes × Bytes) → Bytes
name_asked name files = if eqb (length name) 0 then first_name files else name

abbrev pub stops_asked : List Name → List Bytes
stops_asked names = map (λ n. n.bytes.now) names

-- ---- the answer

-- these files are accepted one after the other, and make the new set of the old one
abbrev pub AreAdded : List Template → List (Bytes × Bytes) → List Template → Type 0
AreAdded old [] new = new ≡ old
AreAdded old (f ∷ fs) new = (next : List Template) × Parses old f.0 f.1 (Ok next) × AreAdded next fs new

-- the files are accepted, and the template never fails over the schema
abbrev pub NeverFails : List (Bytes × Bytes) → Question → Type 0
NeverFails files q = (set : List Template) × AreAdded [] files set
    × ((document : Data) × (document_of q.schema.bytes.now ≡ Some document)
    × NeverFailsOver document (mode_asked q.mode) (stops_asked q.stops.now) set (name_asked q.name.now files))

-- the findings, in the format that is asked for, and 4 where one is an error; with 0 the template never fails
abbrev pub Reports : List (Bytes × Bytes) → Question → Bytes → ℕ → Type 0
Reports files q text code = (found : List Finding) × (text ≡ told (format_asked q.format) found)
    × (code ≡ (if has_error found then 4 else 0)) × (has_error found ≡ false → NeverFails files q)

-- .. or nothing: a name is not UTF-8, or memory ran out
abbrev pub Answers : List (Bytes × Bytes) → Question → Bytes → ℕ → Type 0
Answers files q text code = Reports files q text code ⊎ ((text ≡ []) × ((code ≡ 2) ⊎ (code ≡ 7)))
