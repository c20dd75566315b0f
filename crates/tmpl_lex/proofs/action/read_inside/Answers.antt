use Rattle.std.proofs.Common.{ap, arith, length, length-drop}
use Rattle.std.proofs.lemmas.Grind.{common_steps}
use Rattle.tmpl_lex.specs.View.{token_of}
use Rattle.tmpl_lex.proofs.ActionLemmas.{front_token-some, inside-read}
use Rattle.tmpl_lex.proofs.action.read_inside.Goals as goal

pub returns-in-Some : goal.returns-in-Some
returns-in-Some c = grind (arith, common_steps, inside-read)

pub loop-end-smaller : goal.loop-end-smaller
loop-end-smaller c =
    let rest = c.loop-end.rest.now in
    let token = token_of c.in-Some-front_token.token in
    let some = front_token-some rest token c.in-Some-front_token.ensures.value in
    omega (arith, some, c.in-Some-front_token.ensures.within, ap length c.skip-rest.ensures, length-drop (length token.bytes) rest)
