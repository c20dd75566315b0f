use Rattle.std.proofs.Common.{arith, ◌∙◌, sym, ap, map}
use Rattle.std.proofs.lemmas.List.{drop_more}
use Rattle.tmpl_lex.specs.View.{token_of}
use Rattle.tmpl_grammar.specs.Depth.{most_deep}
use Rattle.tmpl_grammar.proofs.DepthLemmas.{too-deep}
use Rattle.tmpl_grammar.proofs.pipeline.is_shallow.Goals as goal

pub returns-then-depth-gt-MOST_DEEP : goal.returns-then-depth-gt-MOST_DEEP
returns-then-depth-gt-MOST_DEEP c =
    let one = ap (map token_of) (drop_more c.args.tokens.now c.loop-token.token-index _ (omega arith)) in
    sym (sym c.loop-token.invariant.same
    ∙ too-deep most_deep c.loop-token.depth _ _ _ _ one c.depth_after-depth.ensures c.if-depth-gt-MOST_DEEP.true)
