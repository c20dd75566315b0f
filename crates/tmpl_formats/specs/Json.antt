-- JSON: what the definitions of `json` read, by which tmpl reads its data. A bound of depth is one that the text does not reach.
use Rattle.std.specs.Prelude.{◌≡◌, ℕ, List, [], Some}
use Rattle.json.specs.Json.{Json, value}
use Rattle.json.specs.Lex.{tokens}

-- the whole text is this value
abbrev pub IsValueOf : List ℕ → Json → Type 0
IsValueOf text j = (depth : ℕ) × (value depth (tokens text) ≡ Some (j, []))

abbrev pub IsJson : List ℕ → Type 0
IsJson text = (j : Json) × IsValueOf text j
