use Rattle.std.proofs.Common.{length}
use Rattle.tmpl_lex.specs.Part.{IsLeft}
use Rattle.tmpl_syntax.specs.Column.{IsPlace}
use Rattle.tmpl_problems.proofs.ProgressLemmas.{Progress, found_in}
use Rattle.tmpl_problems.proofs.survey.survey_file.Given as goal

abbrev pub invariant-loop-tokens : goal.invariant-loop-tokens
invariant-loop-tokens l = record {
  left : IsLeft l.file l.rest;
  place : IsPlace l.file l.place;
  found : Progress l.file l.rest (found_in l.surveyor);
}

abbrev pub decreases-loop-tokens : goal.decreases-loop-tokens
decreases-loop-tokens l = length l.rest.bytes.now
