use Rattle.std.proofs.Common.{[], ◌∷◌, filter, not, subst, sym, arith}
use Rattle.tmpl_syntax.specs.Column.{IsPlace}
use Rattle.tmpl_problems.specs.Survey.{IsUnused, is_used, warned_place}
use Rattle.tmpl_problems.specs.computed.Adds.{AddsAll, AddsZip}
use Rattle.tmpl_problems.specs.declared.survey.Variable.{Variable}
use Rattle.tmpl_problems.proofs.VariableLemmas.{adds-both, get-all, unused-all, unused-more}
use Rattle.tmpl_problems.proofs.survey.warn_of_unused.Goals as goal
use Rattle.tmpl_problems.proofs.survey.warn_of_unused.Goals.{in-Some+in_ok-warn_if_unused, in_default}

pub loop-number-preserved : goal.loop-number-preserved
loop-number-preserved c = elim c.match-get_index.branch [
  | in-Some+in_ok-warn_if_unused w ↦ record {
    placed = λ file all.
        let place = get-all (λ (v : Variable). IsPlace file v.place) c.args.variables.now.entries c.loop-number.number _ all (sym w.in-Some.ensures.entry) in
        subst (λ v. AddsAll (λ w. IsPlace file (warned_place w)) c.args.warnings.now.items v.items) (sym w.warnings-is)
        (adds-both (λ w. IsPlace file (warned_place w)) _ _ _ (c.loop-number.invariant.placed file all) (w.in_ok-warn_if_unused.ensures.placed file place));
    unused = λ file uses ds z.
        unused-more file uses ds c.args.variables.now.entries c.loop-number.number _ z (sym w.in-Some.ensures.entry) _ _ _ (c.loop-number.invariant.unused file uses ds z)
        (λ d is. subst (λ v. AddsZip (IsUnused file) (filter (λ d. not (is_used uses d)) (d ∷ [])) c.loop-number.warnings.items v.items) (sym w.warnings-is) (w.in_ok-warn_if_unused.ensures.unused file uses d is));
  }
  | in_default w ↦ absurd (let there = w.in_default.ensures.found.1 (omega (arith, c.loop-number-test.true, c.len-number-end.ensures.len)) in cc)
]

pub returns-clause-unused : goal.returns-clause-unused
returns-clause-unused c = λ file uses ds z. unused-all file uses ds c.args.variables.now.entries c.loop-number.number z (omega (arith, c.loop-number-test.false, c.len-number-end.ensures.len)) _ _ (c.loop-number.invariant.unused file uses ds z)
