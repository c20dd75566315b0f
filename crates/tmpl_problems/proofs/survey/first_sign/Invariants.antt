use Rattle.std.proofs.Common.{◌≡◌, []}
use Rattle.std.specs.List.{range_with_len}
use Rattle.tmpl_problems.specs.Sign.{signs_in}
use Rattle.tmpl_problems.proofs.survey.first_sign.Given as goal

abbrev pub invariant-loop-at : goal.invariant-loop-at
invariant-loop-at l = signs_in l.text (range_with_len 0 l.at) ≡ []
