use Rattle.std.proofs.Common.{subst}
use Rattle.tmpl_c.specs.Texts.{Holds}
use Rattle.tmpl_c.proofs.GivenLemmas.{given_not, given_refused, given_without}
use Rattle.tmpl_c.proofs.give.give_of.Goals as goal

pub returns-then-status-ne0 : goal.returns-then-status-ne0
returns-then-status-ne0 c a holds = given_without c.args.word.now a _ _ c.args.status c.if-status-ne0.true holds _ c.clear.ensures.items

pub returns-in-Ok-Some : goal.returns-in-Ok-Some
returns-in-Ok-Some c a holds =
    let well = subst (λ code. Holds a c.args.text.now.bytes.items c.args.line.now.bytes.items code) c.if-status-ne0.false holds in
    given_not c.args.word.now a _ _ well _ _ c.clear-in-Ok-Some.ensures.items

pub returns-in-Err : goal.returns-in-Err
returns-in-Err c a holds = given_refused c.args.word.now a _ _ c.clear-in-Err.ensures.items c.clear-in-Err-2.ensures.items
