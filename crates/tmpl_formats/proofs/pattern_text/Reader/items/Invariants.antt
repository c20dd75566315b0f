use Rattle.std.proofs.Common.{ℕ, List, ◌++◌}
use Rattle.tmpl_formats.specs.PatternText.{HasItems}
use Rattle.tmpl_formats.specs.declared.pattern.Span.{Span}
use Rattle.tmpl_formats.proofs.pattern_text.Reader.items.Given as goal

abbrev pub invariant-loop : goal.invariant-loop
invariant-loop l = (others : List Span) (rest : List ℕ) → HasItems l.self.rest.now others rest → HasItems l.fn.self.rest.now (l.spans.items ++ others) rest
