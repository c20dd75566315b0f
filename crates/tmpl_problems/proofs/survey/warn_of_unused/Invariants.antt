use Rattle.std.proofs.Common.{List, ℕ, filter, not, take}
use Rattle.std.specs.List.{AllZip}
use Rattle.tmpl_problems.specs.Survey.{Declared, IsUnused, is_used, warned_place}
use Rattle.tmpl_syntax.specs.Column.{IsPlace}
use Rattle.tmpl_problems.specs.computed.Adds.{AddsAll, AddsZip, ArePlaced, IsNoted}
use Rattle.tmpl_problems.proofs.survey.warn_of_unused.Given as goal

abbrev pub invariant-loop-number : goal.invariant-loop-number
invariant-loop-number l = record {
  placed : (file : List ℕ) → ArePlaced file l.variables.entries → AddsAll (λ w. IsPlace file (warned_place w)) l.initial.warnings.items l.warnings.items;
  unused : (file : List ℕ) (uses : List (ℕ × List ℕ)) (ds : List Declared) → AllZip (IsNoted file uses) ds l.variables.entries
      → AddsZip (IsUnused file) (filter (λ d. not (is_used uses d)) (take l.number ds)) l.initial.warnings.items l.warnings.items;
}
