use Rattle.std.proofs.Common.{◌<◌, ℕ, length}
use Rattle.tmpl_formats.specs.PatternText.{HasDigits}
use Rattle.tmpl_formats.proofs.pattern_text.Reader.number.Given as goal

abbrev pub invariant-loop-next : goal.invariant-loop-next
invariant-loop-next l = (count : ℕ) × (0 < count) × HasDigits l.base count 0 l.fn.self.rest.now l.number l.self.rest.now

abbrev pub decreases-loop-next : goal.decreases-loop-next
decreases-loop-next l = length l.self.rest.now
