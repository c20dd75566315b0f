-- What is found as an object of JSON and as a result of SARIF, part by part.
use Rattle.std.proofs.Common.{◌≡◌, ◌++◌, ℕ, List, [], ◌∷◌, Option, Some, None, ap, append_assoc, codes, refl, sym}
use Rattle.std.specs.Fmt.{decimal}
use Rattle.std.specs.Option.{option_map_or}
use Rattle.serde_json.proofs.OnLiterals.{serde_json_on_literals}
use Rattle.serde_json.specs.Data.{Data, array, item, no_items, number, string, unsigned}
use Rattle.serde_json.specs.Written.{compact_text}
use Rattle.tmpl_problems.specs.declared.finding.Level.{Level}
use Rattle.tmpl_problems.specs.declared.finding.Level.TheVariants.{Error, Warning}
use Rattle.tmpl_problems.specs.Finding.{Finding}
use Rattle.tmpl_problems.specs.Json.{item_of, object_of}
use Rattle.tmpl_problems.specs.Level.{word_of}
use Rattle.tmpl_problems.specs.Sarif.{locations_of, message_of, result_of}

abbrev pub item_parts : Finding → List ℕ
item_parts f = codes "{\"file\":" ++ (compact_text (string f.file) ++ (codes ",\"line\":" ++ (decimal f.line
    ++ (codes ",\"column\":" ++ (decimal f.column ++ (codes ",\"level\":\"" ++ (word_of f.level ++ (codes "\",\"rule\":"
    ++ (compact_text (string f.rule) ++ (codes ",\"text\":" ++ (compact_text (string f.text)
    ++ (option_map_or (λ t. codes ",\"note\":" ++ compact_text (string t)) f.note [] ++ codes "}"))))))))))))

parted : (file : List ℕ) (line column : ℕ) (level : Level) (rule text : List ℕ) (note : Option (List ℕ)) (f : Finding)
    → f ≡ record { file = file; line = line; column = column; level = level; rule = rule; text = text; note = note } → item_parts f ≡ compact_text (item_of f)
unfolding serde_json_on_literals
parted file line column Error rule text None f e = rw e
parted file line column Error rule text (Some t) f e = rw e
parted file line column Warning rule text None f e = rw e
parted file line column Warning rule text (Some t) f e = rw e

pub item_parted : (f : Finding) → item_parts f ≡ compact_text (item_of f)
item_parted f = parted f.file f.line f.column f.level f.rule f.text f.note f refl

-- a result of SARIF: of this rule, level, message and locations, and of others where there is a note
result_said : List ℕ → Level → Data → Data → (List ℕ → Data) → Option (List ℕ) → List ℕ
result_said rule level message here more note = codes "{\"ruleId\":" ++ (compact_text (string rule) ++ (codes ",\"level\":\"" ++ (word_of level
    ++ (codes "\",\"message\":" ++ (compact_text message ++ (codes ",\"locations\":" ++ (compact_text here
    ++ (option_map_or (λ t. codes ",\"relatedLocations\":" ++ compact_text (more t)) note [] ++ codes "}"))))))))

parted_result : (rule : List ℕ) (level : Level) (message here : Data) (more : List ℕ → Data) (note : Option (List ℕ))
    → result_said rule level message here more note ≡ compact_text (object_of ((codes "ruleId", string rule) ∷ (codes "level", string (word_of level))
    ∷ (codes "message", message) ∷ (codes "locations", here) ∷ option_map_or (λ t. (codes "relatedLocations", more t) ∷ []) note []))
unfolding serde_json_on_literals result_said
parted_result rule Error message here more None = refl
parted_result rule Error message here more (Some t) = refl
parted_result rule Warning message here more None = refl
parted_result rule Warning message here more (Some t) = refl

abbrev pub result_parts : Finding → List ℕ
result_parts f = codes "{\"ruleId\":" ++ (compact_text (string f.rule) ++ (codes ",\"level\":\"" ++ (word_of f.level
    ++ (codes "\",\"message\":" ++ (compact_text (message_of f.text) ++ (codes ",\"locations\":" ++ (compact_text (locations_of f [])
    ++ (option_map_or (λ t. codes ",\"relatedLocations\":" ++ compact_text (locations_of f ((codes "message", message_of t) ∷ []))) f.note []
    ++ codes "}"))))))))

pub result_parted : (f : Finding) → result_parts f ≡ compact_text (result_of f)
unfolding result_said
result_parted f = parted_result f.rule f.level (message_of f.text) (locations_of f []) (λ t. locations_of f ((codes "message", message_of t) ∷ [])) f.note

-- a place
place_regrouped : (uri line column before between : List ℕ) → uri ++ 125 ∷ (before ++ (line ++ (between ++ (column ++ 125 ∷ 125 ∷ []))))
    ≡ (uri ++ 125 ∷ []) ++ (before ++ ((line ++ (between ++ (column ++ 125 ∷ []))) ++ 125 ∷ []))
place_regrouped uri line column before between = simp append_assoc

pub place_parted : (uri : List ℕ) (line column : ℕ) → codes "{\"artifactLocation\":{\"uri\":" ++ (compact_text (string uri)
    ++ (codes "},\"region\":{\"startLine\":" ++ (decimal line ++ (codes ",\"startColumn\":" ++ (decimal column ++ codes "}}")))))
    ≡ compact_text (object_of ((codes "artifactLocation", object_of ((codes "uri", string uri) ∷ []))
    ∷ (codes "region", object_of ((codes "startLine", number (unsigned line)) ∷ (codes "startColumn", number (unsigned column)) ∷ [])) ∷ []))
unfolding serde_json_on_literals
place_parted uri line column =
    ap (λ t. codes "{\"artifactLocation\":{\"uri\":" ++ t)
    (place_regrouped (compact_text (string uri)) (decimal line) (decimal column) (codes ",\"region\":{\"startLine\":") (codes ",\"startColumn\":"))

-- a list of one location
pub here_parted : (place : Data) → codes "[{\"physicalLocation\":" ++ (compact_text place ++ codes "}]")
    ≡ compact_text (array (item (object_of ((codes "physicalLocation", place) ∷ [])) no_items))
unfolding serde_json_on_literals
here_parted place = ap (λ t. codes "[{\"physicalLocation\":" ++ t) (sym (append_assoc (compact_text place) (125 ∷ []) (93 ∷ [])))

pub related_parted : (message place : Data) → codes "[{\"message\":" ++ (compact_text message ++ (codes ",\"physicalLocation\":" ++ (compact_text place ++ codes "}]")))
    ≡ compact_text (array (item (object_of ((codes "message", message) ∷ (codes "physicalLocation", place) ∷ [])) no_items))
unfolding serde_json_on_literals
related_parted message place = ap (λ t. codes "[{\"message\":" ++ t) (regrouped (compact_text message) (codes ",\"physicalLocation\":") (compact_text place))
  where
    regrouped : (m k p : List ℕ) → m ++ (k ++ (p ++ 125 ∷ 93 ∷ [])) ≡ (m ++ (k ++ (p ++ 125 ∷ []))) ++ 93 ∷ []
    regrouped m k p = simp append_assoc
