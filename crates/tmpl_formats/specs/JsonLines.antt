-- JSON lines.
use Rattle.std.specs.Prelude.{◌≡◌, ℕ, true, List}
use Rattle.std.specs.List.{list_all}
use Rattle.json.specs.Word.{is_space}
use Rattle.tmpl_formats.specs.Json.{IsJson}
use Rattle.tmpl_formats.specs.Lines.{Lines}

-- a line of white space alone, or of one value
pub data IsJsonLine : List ℕ → Type 0 where
  blank : {line : List ℕ} → list_all is_space line ≡ true → IsJsonLine line
  value : {line : List ℕ} → IsJson line → IsJsonLine line

abbrev pub IsJsonLines : List ℕ → Type 0
IsJsonLines text = Lines IsJsonLine text
