-- What the machine for JSON lines stands for.
use Rattle.std.specs.Prelude.{Option, Some, None, if◌then◌else◌}
use Rattle.tmpl_formats.specs.computed.Json.{Config}
use Rattle.tmpl_formats.specs.computed.View.{config_of}
use Rattle.tmpl_formats.specs.declared.json_lines.JsonLines.{JsonLines}

abbrev pub lines_of : JsonLines → Option Config
lines_of lines = if lines.is_blank then None else Some (config_of lines.json)
