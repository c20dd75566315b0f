-- The machine for JSON lines: none where a line has white space alone so far, else that of its value.
use Rattle.std.specs.Prelude.{ℕ, Bool, true, ◌==◌, List, Option, Some, None, option_map, if◌then◌else◌}
use Rattle.std.specs.Str.{byte}
use Rattle.tmpl_formats.specs.computed.JsonBytes.{is_white}
use Rattle.tmpl_formats.specs.computed.Json as json
use Rattle.tmpl_formats.specs.computed.Machine.{mistake}

-- whether a line may end there
abbrev pub ends : Option json.Config → Bool
ends None = true
ends (Some c) = json.ends c

-- a byte of a value
abbrev pub in_value : json.Config → ℕ → Option (Option json.Config)
in_value c b = option_map (λ d. Some d) (json.step c b)

-- a byte that is no newline
abbrev pub within : Option json.Config → ℕ → Option (Option json.Config)
within None b = if is_white b then Some None else in_value json.start b
within (Some c) b = in_value c b

-- one step of the machine
abbrev pub step : Option json.Config → ℕ → Option (Option json.Config)
step x b = if b == byte "\n" then (if ends x then Some None else None) else within x b

abbrev pub start : Option json.Config
start = None

abbrev pub json_lines_mistake : List ℕ → Option ℕ
json_lines_mistake text = mistake step ends start text
