-- Where a text ceases to be of a format.
use Rattle.std.specs.Prelude.{ℕ, List, Option, Some, None, nat_lt, if◌then◌else◌}
use Rattle.std.specs.Str.{is_utf8}
use Rattle.std.specs.Str.Lossy.{utf8_valid_len}
use Rattle.tmpl_formats.specs.computed.Csv.{csv_mistake}
use Rattle.tmpl_formats.specs.computed.Env.{env_mistake}
use Rattle.tmpl_formats.specs.computed.Json.{json_mistake}
use Rattle.tmpl_formats.specs.computed.JsonLines.{json_lines_mistake}
use Rattle.tmpl_formats.specs.computed.Lines.{lines_mistake}
use Rattle.tmpl_formats.specs.computed.Nginx.{nginx_mistake}
use Rattle.tmpl_formats.specs.computed.Yaml.{yaml_mistake}
use Rattle.tmpl_formats.specs.PatternView.{marks_of}
use Rattle.tmpl_formats.specs.declared.format.Format.{Format}
use Rattle.tmpl_formats.specs.declared.format.Format.TheVariants as format

-- the machine of a format refuses the text
abbrev pub machine_mistake : Format → List ℕ → Option ℕ
machine_mistake format.Json text = json_mistake text
machine_mistake format.JsonLines text = json_lines_mistake text
machine_mistake format.Env text = env_mistake text
machine_mistake (format.Csv columns) text = csv_mistake columns text
machine_mistake format.Nginx text = nginx_mistake text
machine_mistake format.Yaml text = yaml_mistake text
machine_mistake (format.Lines pattern) text = lines_mistake (marks_of pattern.root) text

-- the text is no UTF-8 from there on
abbrev pub utf8_mistake : List ℕ → Option ℕ
utf8_mistake text = if is_utf8 text then None else Some (utf8_valid_len text)

-- the lower of two places, where there are any
abbrev pub earlier : Option ℕ → Option ℕ → Option ℕ
earlier None other = other
earlier (Some a) None = Some a
earlier (Some a) (Some b) = Some (if nat_lt a b then a else b)

abbrev pub mistake_of : Format → List ℕ → Option ℕ
mistake_of asked text = earlier (utf8_mistake text) (machine_mistake asked text)
