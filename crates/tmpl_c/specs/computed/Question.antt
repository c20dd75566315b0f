-- What the stages of a check over a schema answer.
use Rattle.std.specs.Prelude.{◌≡◌, false, true, List, Option, Some, None, IfSome, eqb, is_some, length, map, option_map, if◌then◌else◌}
use Rattle.std.specs.Borrow.{Bor}
use Rattle.std.specs.Option.{option_map_or}
use Rattle.tmpl_report.specs.declared.source.Question as report
use Rattle.tmpl_problems.specs.declared.source.Source.{Source}
use Rattle.tmpl_report.specs.declared.source.Sources.{Sources}
use Rattle.tmpl_tool.specs.Source.{Bytes}
use Rattle.tmpl_c.specs.Passed.{pair_of, pairs_of}
use Rattle.tmpl_c.specs.Question.{mode_asked, stops_asked, first_name}
use Rattle.tmpl_c.specs.declared.passed.File.{File}
use Rattle.tmpl_c.specs.declared.passed.Question.{Question}
use Rattle.tmpl_syntax.specs.Parse.{base_name}

-- a file as its name and its bytes
abbrev pub pair_in : Source → Bytes × Bytes
pair_in s = (s.name.now, s.bytes.items)

-- the sources are the files and the schema, and nothing is missing
abbrev pub AreGiven : List File → Question → Sources → Type 0
AreGiven files q sources = (map pair_in sources.templates.items ≡ pairs_of files) × (sources.data ≡ None)
    × (option_map pair_in sources.schema ≡ Some (pair_of q.schema)) × (sources.is_short ≡ false)

-- a name, where it is not empty, or else another one
abbrev pub IsNamed : Bytes → Option (Bor Bytes) → Type 0
IsNamed name given = (other : Bytes) → option_map_or (λ g. g.now) given other ≡ (if eqb (length name) 0 then other else name)

-- the question is that of the caller
abbrev pub IsAsked : List File → Question → report.Question → Type 0
IsAsked files q asked = IfSome asked.first (λ first. base_name first.now ≡ first_name (pairs_of files)) × (is_some asked.first ≡ true)
    × IsNamed q.name.now asked.name × (asked.mode ≡ mode_asked q.mode)
    × (map (λ stop. stop.now) asked.stops.items ≡ stops_asked q.stops.now)
