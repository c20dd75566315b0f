use Rattle.std.proofs.Common.{arith}
use Rattle.std.proofs.lemmas.Option.{slice_get_within}
use Rattle.tmpl_syntax.specs.View.{set_view}
use Rattle.tmpl_code.specs.computed.Weights.{HoldsOf}
use Rattle.tmpl_code.proofs.BoundLemmas.{each-more}
use Rattle.tmpl_code.proofs.bound.holds.Goals as goal

pub loop-number-preserved : goal.loop-number-preserved
loop-number-preserved c =
    let ts = set_view c.args.set.now in
    let guess = c.args.guess.now in
    each-more (HoldsOf ts guess.claims.weights.items guess.claims.allowances.items guess.fixed guess.each) ts c.loop-number.number
    (c.holds_of.ensures c.if-not-holds_of.false) c.loop-number.invariant

pub returns : goal.returns
returns c = λ so number t at.
    let there = slice_get_within (set_view c.args.set.now) number t at in
    c.loop-number.invariant number t (omega (arith, there, c.len-number-end.ensures, c.loop-number-test.false)) at
