use Rattle.std.proofs.Common.{◌≡◌, length, drop}
use Rattle.std.specs.Str.{chars}
use Rattle.tmpl_formats.specs.computed.PatternMarks.{finds, begun}
use Rattle.tmpl_formats.specs.PatternView.{marks_of}
use Rattle.tmpl_formats.specs.computed.SearchView.{search_of}
use Rattle.tmpl_formats.proofs.pattern_search.has_match.Given as goal

abbrev pub invariant-loop-character : goal.invariant-loop-character
invariant-loop-character l = finds (search_of l.search) (drop (length l.yielded) (chars l.text)) ≡ finds (begun (marks_of l.root)) (chars l.text)
