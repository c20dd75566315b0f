-- What Rust values stand for.
use Rattle.std.specs.Prelude.{reverse}
use Rattle.tmpl_formats.specs.computed.Json.{Config}
use Rattle.tmpl_formats.specs.declared.json_text.Json.{Json}

abbrev pub config_of : Json → Config
config_of json = record { control = json.control; top = json.top; below = reverse json.below.items }
