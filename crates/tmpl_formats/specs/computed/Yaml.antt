-- The machine for YAML.
use Rattle.std.specs.Prelude.{ℕ, Bool, false, not, ◌&&◌, ◌==◌, List, [], ◌∷◌, ◌++◌, Option, Some, None, option_map, option_and_then, if◌then◌else◌}
use Rattle.std.specs.Str.{byte}
use Rattle.tmpl_formats.specs.YamlScalar.{is_unprintable}
use Rattle.tmpl_formats.specs.computed.Machine.{mistake}
use Rattle.tmpl_formats.specs.computed.YamlLine.{is_margin, move_of, spot_at}
use Rattle.tmpl_formats.specs.computed.YamlNest as nest
use Rattle.tmpl_formats.specs.declared.yaml_line.Control.{Control}
use Rattle.tmpl_formats.specs.declared.yaml_line.Control.TheVariants as at
use Rattle.tmpl_formats.specs.declared.yaml_line.Move.{Move}
use Rattle.tmpl_formats.specs.declared.yaml_line.Place.TheVariants as place
use Rattle.tmpl_formats.specs.declared.yaml_line.Write.{Write}
use Rattle.tmpl_formats.specs.declared.yaml_line.Write.TheVariants as write

pub record Config : Type 0 where
  pub before : ℕ
  pub last : ℕ
  pub control : Control
  pub scalar : List ℕ
  pub nest : nest.Nest

abbrev pub written : Write → List ℕ → List ℕ
written write.Keep text = text
written (write.Start b) text = b ∷ []
written (write.Add b) text = text ++ b ∷ []
written (write.Dash b) text = byte "-" ∷ b ∷ []
written (write.Dashes b) text = byte "-" ∷ byte "-" ∷ b ∷ []

abbrev pub with_nest : ℕ → ℕ → Control → List ℕ → nest.Nest → Config
with_nest a b q text n = record { before = a; last = b; control = q; scalar = text; nest = n }

-- does what a byte does
abbrev pub went : Move → Config → Option Config
went m c = option_map (λ n. with_nest c.before c.last m.control (written m.write c.scalar) n) (nest.happened m.event c.nest)

abbrev pub moved : Config → ℕ → Option Config
moved c b = option_and_then (λ m. went m c) (move_of c.control c.scalar (nest.is_in_brackets c.nest) b)

abbrev pub kept : ℕ → Config → Config
kept b c = with_nest c.last b c.control c.scalar c.nest

-- one step of the machine
abbrev pub step : Config → ℕ → Option Config
step c b = if is_unprintable c.before c.last b then None else moved (kept b c) b

abbrev pub begins_line : Control → Bool
begins_line (at.At x) = is_margin x.place x.column
begins_line (at.Block parent c) = c == 0
begins_line (at.Indent parent own c) = c == 0
begins_line _ = false

abbrev pub is_done : Config → Bool
is_done c = begins_line c.control && not (nest.is_in_brackets c.nest)

abbrev pub done_if : Option Config → Bool
done_if None = false
done_if (Some c) = is_done c

-- a text may end where a line may
abbrev pub ends : Config → Bool
ends c = done_if (step c 10)

abbrev pub start : Config
start = with_nest 0 0 (at.At (spot_at place.Line 0)) [] nest.start

abbrev pub yaml_mistake : List ℕ → Option ℕ
yaml_mistake text = mistake step ends start text
