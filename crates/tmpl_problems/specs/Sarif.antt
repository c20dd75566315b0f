-- What is found as a log of SARIF 2.1.0.
use Rattle.std.specs.Prelude.{ℕ, nat_eq, ◌==◌, List, [], ◌∷◌, ◌++◌, ◌||◌, map, flat_map, codes, if◌then◌else◌}
use Rattle.std.specs.List.{starts_with}
use Rattle.std.specs.Option.{option_map_or}
use Rattle.std.specs.Str.{byte}
use Rattle.percent_encoding.specs.Percent.{percent_encode_byte}
use Rattle.serde_json.specs.Data.{Data, string, number, array, unsigned, no_items, item}
use Rattle.serde_json.specs.Written.{compact_text}
use Rattle.tmpl_funcs.specs.Escape.{is_unreserved}
use Rattle.tmpl_problems.specs.Finding.{Finding}
use Rattle.tmpl_problems.specs.Json.{lines_between, object_of}
use Rattle.tmpl_problems.specs.Level.{word_of}
use Rattle.tmpl_problems.specs.Rules.{rules}

-- a byte of a path, as it stands in a URI: escaped unless no part of a URI reserves it, or it is a slash
abbrev pub path_byte : ℕ → List ℕ
path_byte b = if is_unreserved b || b == byte "/" then b ∷ [] else percent_encode_byte b

-- the URI of a file: of a path from the root on one of the scheme `file`
abbrev pub uri_of : List ℕ → List ℕ
uri_of file = (if starts_with nat_eq file (codes "/") then codes "file://" else []) ++ flat_map path_byte file

-- a text as SARIF has it
abbrev pub message_of : List ℕ → Data
message_of text = object_of ((codes "text", string text) ∷ [])

-- its line and column
abbrev pub region_of : Finding → Data
region_of f =
    object_of ((codes "startLine", number (unsigned f.line)) ∷ (codes "startColumn", number (unsigned f.column)) ∷ [])

-- where it is
abbrev pub place_of : Finding → Data
place_of f = object_of ((codes "artifactLocation", object_of ((codes "uri", string (uri_of f.file)) ∷ []))
    ∷ (codes "region", region_of f) ∷ [])

-- a list of that place alone, with a note there, if there is one
abbrev pub locations_of : Finding → List (List ℕ × Data) → Data
locations_of f said = array (item (object_of (said ++ (codes "physicalLocation", place_of f) ∷ [])) no_items)

-- what is found at one place, with a note if there is one
abbrev pub result_of : Finding → Data
result_of f = object_of ((codes "ruleId", string f.rule) ∷ (codes "level", string (word_of f.level))
    ∷ (codes "message", message_of f.text) ∷ (codes "locations", locations_of f [])
    ∷ option_map_or (λ note. (codes "relatedLocations", locations_of f ((codes "message", message_of note) ∷ []))
    ∷ []) f.note [])

-- a rule by its name and what it asks for
abbrev pub descriptor_of : List ℕ × List ℕ → Data
descriptor_of rule = object_of ((codes "id", string rule.0) ∷ (codes "shortDescription", message_of rule.1) ∷ [])

-- what stands before the rules of the one tool
abbrev pub log_begin : List ℕ
log_begin = codes "{\"$schema\":\"https://json.schemastore.org/sarif-2.1.0.json\",\"version\":\"2.1.0\",\"runs\":["
    ++ codes "{\"tool\":{\"driver\":{\"name\":\"tmpl-check\",\"rules\":["

-- the rules, and what is found
abbrev pub log_of : List Finding → List ℕ
log_of found = log_begin ++ lines_between (map (λ rule. compact_text (descriptor_of rule)) rules)
    ++ codes "\n]}},\"columnKind\":\"unicodeCodePoints\",\"results\":["
    ++ lines_between (map (λ f. compact_text (result_of f)) found) ++ codes "\n]}]}\n"
