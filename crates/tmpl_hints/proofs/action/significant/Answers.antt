use Rattle.std.proofs.Common.{rules, tests, ◌∙◌, not}
use Rattle.std.proofs.lemmas.Iterator.{YieldsList-from_slice}
use Rattle.std.proofs.lemmas.Iterator.Consumers.{YieldsList-from_filter, nth_from_yields_List}
use Rattle.tmpl_hints.specs.Action.{is_blank}
use Rattle.tmpl_hints.proofs.action.significant.Goals as goal

pub returns : goal.returns
returns c =
    c.copied.ensures
    ∙ nth_from_yields_List c.nth.result c.nth.new.self c.args.index c.nth.ensures.ran
    (YieldsList-from_filter _ (λ t. not (is_blank t.kind)) (YieldsList-from_slice c.args.tokens.now cc) c.filter.ensures.closure (λ x r q k. search (rules, tests)))
