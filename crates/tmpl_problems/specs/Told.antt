-- How findings are printed.
use Rattle.std.specs.Prelude.{ℕ, List, [], ◌++◌, flat_map, codes}
use Rattle.std.specs.Option.{option_map_or}
use Rattle.tmpl_problems.specs.Line.{line_of}
use Rattle.tmpl_problems.specs.declared.findings.Format.{Format}
use Rattle.tmpl_problems.specs.declared.findings.Format.TheVariants.{Text, Json, Sarif}
use Rattle.tmpl_problems.specs.Finding.{Finding}
use Rattle.tmpl_problems.specs.Json.{json_of}
use Rattle.tmpl_problems.specs.Level.{word_of}
use Rattle.tmpl_problems.specs.Sarif.{log_of}

-- a line for the finding, and one for the note
abbrev pub lines_of : Finding → List ℕ
lines_of f = line_of f.file (f.line, f.column) (word_of f.level) f.text
    ++ option_map_or (λ note. line_of f.file (f.line, f.column) (codes "note") note) f.note []

-- what is written
abbrev pub told : Format → List Finding → List ℕ
told Text found = flat_map lines_of found
told Json found = json_of found
told Sarif found = log_of found
