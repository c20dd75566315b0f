use Rattle.std.proofs.Common.{arith}
use Rattle.std.proofs.lemmas.Grind.{common_steps}
use Rattle.std.proofs.lemmas.Bool.Decides.{nat_tests}
use Rattle.std.proofs.lemmas.List.{at_drop_more}
use Rattle.tmpl_grammar.proofs.IntegerLemmas.{left, left-digit, left-large}
use Rattle.tmpl_grammar.proofs.constant.integer.number_without.Goals as goal

pub returns-then-next-gt-MOST : goal.returns-then-next-gt-MOST
returns-then-next-gt-MOST c = grind (arith, nat_tests, common_steps, at_drop_more (left c.args.base c.digits.value), left-digit, left-large)
