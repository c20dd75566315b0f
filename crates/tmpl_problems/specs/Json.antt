-- What is found as JSON.
use Rattle.std.specs.Prelude.{ℕ, List, [], ◌∷◌, ◌++◌, map, flat_map, codes}
use Rattle.std.specs.Option.{option_map_or}
use Rattle.serde_json.specs.Data.{Data, string, number, object, unsigned, Members, no_members, member}
use Rattle.serde_json.specs.Written.{compact_text}
use Rattle.tmpl_problems.specs.Finding.{Finding}
use Rattle.tmpl_problems.specs.Level.{word_of}

-- an object of these members, in this order
abbrev pub members_of : List (List ℕ × Data) → Members
members_of [] = no_members
members_of (m ∷ ms) = member m.0 m.1 (members_of ms)

abbrev pub object_of : List (List ℕ × Data) → Data
object_of ms = object (members_of ms)

-- what is found at one place, with a note if there is one
abbrev pub item_of : Finding → Data
item_of f = object_of ((codes "file", string f.file) ∷ (codes "line", number (unsigned f.line))
    ∷ (codes "column", number (unsigned f.column)) ∷ (codes "level", string (word_of f.level))
    ∷ (codes "rule", string f.rule) ∷ (codes "text", string f.text)
    ∷ option_map_or (λ note. (codes "note", string note) ∷ []) f.note [])

-- the items of a list, each on a line of its own
abbrev pub lines_between : List (List ℕ) → List ℕ
lines_between [] = []
lines_between (item ∷ items) = codes "\n" ++ item ++ flat_map (λ next. codes ",\n" ++ next) items

abbrev pub json_of : List Finding → List ℕ
json_of found =
    codes "{\"problems\":[" ++ lines_between (map (λ f. compact_text (item_of f)) found) ++ codes "\n]}\n"
