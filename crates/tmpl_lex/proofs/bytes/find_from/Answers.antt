use Rattle.std.proofs.Common.{◌≡◌, ◌∙◌, ◌+◌, ℕ, List, None, length, drop, ap, subst, arith, length-drop}
use Rattle.memchr.specs.Find.{IsFirstByte, is_byte}
use Rattle.tmpl_lex.specs.computed.Bytes.{split_from}
use Rattle.tmpl_lex.proofs.PairLemmas.{split_from-passed}
use Rattle.tmpl_lex.proofs.bytes.find_from.Goals as goal

pub returns-in-None-clause-same : goal.returns-in-None-clause-same
returns-in-None-clause-same c =
    let bs = c.args.bytes.now in
    let i = c.args.from in
    let none = subst (λ (rest : List ℕ). IsFirstByte (is_byte c.args.first) rest None) c.skip.ensures c.in-None.ensures in
    let all : i + length (drop i bs) ≡ length bs = omega (arith, length-drop i bs, c.requires) in
    split_from-passed c.args.first c.args.second bs i (length (drop i bs)) (omega arith) none ∙ ap (λ (n : ℕ). split_from c.args.first c.args.second n bs) all
