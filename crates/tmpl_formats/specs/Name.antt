-- The names of formats.
use Rattle.std.specs.Prelude.{ℕ, ◌+◌, ◌-◌, ◌*◌, ◌^◌, not, ◌≡◌, ◌&&◌, ◌==◌, nat_lt, List, [], ◌∷◌, ◌++◌, codes, drop, nat_eq, Option, Some, None, option_map, option_and_then, if◌then◌else◌}
use Rattle.std.specs.Char.{is_ascii_digit}
use Rattle.std.specs.List.{starts_with}
use Rattle.std.specs.Str.{bytes_eq, chars}
use Rattle.tmpl_formats.specs.PatternText.{Writes}
use Rattle.tmpl_formats.specs.PatternView.{tree_of}
use Rattle.tmpl_formats.specs.declared.format.Format.{Format}
use Rattle.tmpl_formats.specs.declared.format.Format.TheVariants as format
use Rattle.tmpl_formats.specs.declared.pattern.Pattern.{Pattern}

-- one digit more of a number of columns, which begins with no zero and is below 2^32
abbrev pub with_digit : ℕ → ℕ → Option ℕ
with_digit columns b =
    if is_ascii_digit b && not ((columns == 0) && (b == 48)) && nat_lt (columns * 10 + (b - 48)) (2 ^ 32) then Some (columns * 10 + (b - 48)) else None

unfoldable pub columns_from : ℕ → List ℕ → Option ℕ
columns_from columns [] = if columns == 0 then None else Some columns
columns_from columns (b ∷ bs) = option_and_then (λ n. columns_from n bs) (with_digit columns b)

-- the number of columns that digits write
abbrev pub columns_of : List ℕ → Option ℕ
columns_of digits = columns_from 0 digits

-- the format of a name that has no number
abbrev pub plain_named : List ℕ → Option Format
plain_named name =
    if bytes_eq name (codes "json") then Some format.Json
    else (if bytes_eq name (codes "jsonl") then Some format.JsonLines
    else (if bytes_eq name (codes "env") then Some format.Env else (if bytes_eq name (codes "nginx") then Some format.Nginx else (if bytes_eq name (codes "yaml") then Some format.Yaml else None))))

-- the format of a name that has no pattern: that of CSV has its columns
abbrev pub format_named : List ℕ → Option Format
format_named name =
    if starts_with nat_eq name (codes "csv:") then option_map (λ columns. format.Csv columns) (columns_of (drop 4 name)) else plain_named name

-- the format has this name: that of lines has its pattern
pub data IsNamed : List ℕ → Format → Type 0 where
  simply : {name : List ℕ} {asked : Format} → format_named name ≡ Some asked → IsNamed name asked
  lines : {text : List ℕ} {pattern : Pattern} → Writes (chars text) (tree_of pattern.root) → IsNamed (codes "lines:" ++ text) (format.Lines pattern)
