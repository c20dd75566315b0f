use Rattle.tmpl_lex.proofs.OneTokenLemmas.{found-at, stands, one}
use Rattle.tmpl_lex.proofs.laws.one_token.Goals as goal

pub returns : goal.returns
returns c = record { found = found-at; stands = stands; one = one }
