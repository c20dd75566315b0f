use Rattle.std.proofs.Common.{◌≡◌, string_bytes, take}
use Rattle.std.specs.List.{flat_map}
use Rattle.tmpl_problems.specs.Told.{lines_of}
use Rattle.tmpl_problems.proofs.line.lines.Given as goal

abbrev pub invariant-loop-finding : goal.invariant-loop-finding
invariant-loop-finding l = string_bytes l.out ≡ flat_map lines_of (take l.finding-index l.findings)
