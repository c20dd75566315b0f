-- Which texts are of a format.
use Rattle.std.specs.Prelude.{ℕ, List}
use Rattle.std.specs.Str.{IsUtf8}
use Rattle.tmpl_formats.specs.Csv.{IsCsv}
use Rattle.tmpl_formats.specs.Env.{IsEnv}
use Rattle.tmpl_formats.specs.Json.{IsJson}
use Rattle.tmpl_formats.specs.JsonLines.{IsJsonLines}
use Rattle.tmpl_formats.specs.Nginx.{IsNginx}
use Rattle.tmpl_formats.specs.Yaml.{IsYaml}
use Rattle.tmpl_formats.specs.PatternLines.{HaveMatch}
use Rattle.tmpl_formats.specs.PatternView.{tree_of}
use Rattle.tmpl_formats.specs.declared.format.Format.{Format}
use Rattle.tmpl_formats.specs.declared.format.Format.TheVariants as format

-- the bytes are of the format, whose texts are UTF-8
abbrev pub HasForm : Format → List ℕ → Type 0
HasForm format.Json text = IsJson text
HasForm format.JsonLines text = IsJsonLines text
HasForm format.Env text = IsEnv text
HasForm (format.Csv columns) text = IsCsv columns text
HasForm format.Nginx text = IsNginx text
HasForm format.Yaml text = IsYaml text
HasForm (format.Lines pattern) text = HaveMatch (tree_of pattern.root) text

pub record IsOf (asked : Format) (text : List ℕ) : Type 0 where
  pub utf8 : IsUtf8 text
  pub form : HasForm asked text
