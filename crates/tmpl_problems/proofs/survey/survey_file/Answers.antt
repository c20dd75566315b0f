use Rattle.std.proofs.Common.{◌≡◌, [], Some, None}
use Rattle.std.proofs.lemmas.Result.{IfOk-weaker}
use Rattle.tmpl_problems.specs.Survey.{Names, Warns, IsNamed, IsUnused, callers, declared_from, definers, firsts, named_place, names_from, unused, used_from, warned_place}
use Rattle.tmpl_syntax.specs.Column.{IsPlace}
use Rattle.tmpl_problems.specs.computed.Failing.{Fails, IsFailing, failing_from}
use Rattle.tmpl_problems.specs.computed.Adds.{AddsAll, AddsZip}
use Rattle.tmpl_problems.specs.declared.survey.Survey.{Survey}
use Rattle.tmpl_problems.proofs.ProgressLemmas.{Done, found_in, ok-both, progress-begins, progress-more, tells, warns-all}
use Rattle.tmpl_problems.proofs.survey.survey_file.Goals as goal

pub loop-tokens-init : goal.loop-tokens-init
loop-tokens-init c = record {
  left = c.of-rest.ensures.left;
  place = c.first-place.ensures.place c.args.file.now;
  found = progress-begins c.args.file.now c.of-rest.result _ c.of-rest.ensures.bytes c.of-rest.ensures.line c.of-rest.ensures.trims
      c.new-surveyor.ensures.warnings c.new-surveyor.ensures.failing c.new-surveyor.ensures.defined c.new-surveyor.ensures.called c.new-surveyor.ensures.variables;
}

pub loop-tokens-preserved : goal.loop-tokens-preserved
loop-tokens-preserved c =
    let part = c.in_ok-part.part in
    let e = c.in_ok-part.ensures in
    let told = rw (c.action_tokens-action.ensures, c.as_slice.ensures.value) at c.in_ok-place-2.ensures in
    record {
      left = c.in-Some.ensures.left.0;
      place = told.place;
      found = progress-more c.args.file.now c.loop-tokens.rest part.line part.start part.opens part.text.now part.after c.first_part.new.tokens.items part.rest
          (Some c.in-Some.next) e.cuts e.placed e.begins.0 e.begins.1 c.in-Some.ensures.follows (found_in c.loop-tokens.surveyor) (found_in c.pass_action.new.self)
          (rw (← told.warnings) at c.in_ok-place.ensures.adds_warning) told.failing told.defined told.called told.variables c.loop-tokens.invariant.found;
    }

-- once all parts are passed
done : (c : goal.After-drop-tokens-in-None) → Done c.args.file.now (found_in c.pass_action.new.self)
done c =
    let part = c.in_ok-part.part in
    let e = c.in_ok-part.ensures in
    let told = rw (c.action_tokens-action.ensures, c.as_slice.ensures.value) at c.in_ok-place-2.ensures in
    progress-more c.args.file.now c.loop-tokens.rest part.line part.start part.opens part.text.now part.after c.first_part.new.tokens.items part.rest None
    e.cuts e.placed e.begins.0 e.begins.1 c.in-None.ensures.follows (found_in c.loop-tokens.surveyor) (found_in c.pass_action.new.self)
    (rw (← told.warnings) at c.in_ok-place.ensures.adds_warning) told.failing told.defined told.called told.variables c.loop-tokens.invariant.found

-- what the survey has of the surveyor
abbrev Same : goal.After-drop-tokens-in-None → Survey → Type 0
Same c s = let last = c.pass_action.new.self.survey in (s.defined ≡ last.defined) × (s.called ≡ last.called) × (s.failing ≡ last.failing)

pub returns-in-None-clause-defined : goal.returns-in-None-clause-defined
returns-in-None-clause-defined c =
    let file = c.args.file.now in
    let d = done c in
    IfOk-weaker c.finish.result (Same c) (λ s. Names definers file s.defined.items)
    (λ s same. rw same.0 (tells (names_from definers 0) (IsNamed file) named_place file d.pieces _ d.cut d.begun.defined (λ f. (d.exact f).defined))) c.finish.ensures.same

pub returns-in-None-clause-called : goal.returns-in-None-clause-called
returns-in-None-clause-called c =
    let file = c.args.file.now in
    let d = done c in
    IfOk-weaker c.finish.result (Same c) (λ s. Names callers file s.called.items)
    (λ s same. rw same.1 (tells (names_from callers 0) (IsNamed file) named_place file d.pieces _ d.cut d.begun.called (λ f. (d.exact f).called))) c.finish.ensures.same

pub returns-in-None-clause-failing : goal.returns-in-None-clause-failing
returns-in-None-clause-failing c =
    let file = c.args.file.now in
    let d = done c in
    IfOk-weaker c.finish.result (Same c) (λ s. Fails file s.failing.items)
    (λ s same. rw same.2 (tells (failing_from 0) (IsFailing file) warned_place file d.pieces _ d.cut d.begun.failing (λ f. (d.exact f).failing))) c.finish.ensures.same

pub returns-in-None-clause-warnings : goal.returns-in-None-clause-warnings
returns-in-None-clause-warnings c =
    let file = c.args.file.now in
    let d = done c in
    let old = c.pass_action.new.self.survey.warnings.items in
    ok-both (λ s. AddsAll (λ w. IsPlace file (warned_place w)) old s.warnings.items) (λ s. AddsZip (IsUnused file) (unused d.pieces) old s.warnings.items)
    (λ s. Warns file s.warnings.items) c.finish.result (c.finish.ensures.placed file d.begun.variables)
    (λ f. c.finish.ensures.unused file (used_from 0 d.pieces) (firsts [] (declared_from 0 d.pieces)) (d.exact f).variables)
    (λ s more told. warns-all file _ s.warnings.items d more told)
