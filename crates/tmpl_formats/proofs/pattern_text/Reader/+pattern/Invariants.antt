use Rattle.std.proofs.Common.{◌+◌, ◌*◌, ◌∷◌, true, false}
use Rattle.tmpl_formats.specs.computed.PatternRows.{HasRow, trees_of}
use Rattle.tmpl_formats.proofs.pattern_text.Reader.+pattern.Given as goal

abbrev pub decreases-group : goal.decreases-group
decreases-group l = 7 * l.depth

abbrev pub decreases-closed : goal.decreases-closed
decreases-closed l = 7 * l.depth + 6

abbrev pub decreases-atom : goal.decreases-atom
decreases-atom l = 7 * l.depth + 1

abbrev pub decreases-term : goal.decreases-term
decreases-term l = 7 * l.depth + 2

abbrev pub decreases-sequence : goal.decreases-sequence
decreases-sequence l = 7 * l.depth + 4

abbrev pub decreases-alternatives : goal.decreases-alternatives
decreases-alternatives l = 7 * l.depth + 5

abbrev pub decreases-terms : goal.decreases-terms
decreases-terms l = 7 * l.depth + 3

abbrev pub invariant-terms-loop : goal.invariant-terms-loop
invariant-terms-loop l = HasRow false l.fn.self.rest.now (trees_of l.parts.items) l.self.rest.now

abbrev pub invariant-alternatives-loop : goal.invariant-alternatives-loop
invariant-alternatives-loop l = HasRow true (124 ∷ l.fn.self.rest.now) (trees_of l.parts.items) (124 ∷ l.self.rest.now)
