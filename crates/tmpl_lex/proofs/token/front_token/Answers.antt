use Rattle.std.proofs.Common.{take, drop, length, ◌-◌}
use Rattle.tmpl_lex.proofs.TokenLemmas.{front_token-cons, take-rest}
use Rattle.tmpl_lex.proofs.token.front_token.Goals as goal

pub returns-clause-value : goal.returns-clause-value
returns-clause-value c =
    let bs = c.args.bytes.now in
    let rest = take (length bs - 1) (drop 1 bs) in
    front_token-cons bs rest c.in_ok-kind.kind c.in_ok-kind.len c.in-len1-up.len_at_least (take-rest bs)
    c.in_ok-kind.ensures.value
