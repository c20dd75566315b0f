use Rattle.std.proofs.Common.{inr, subst}
use Rattle.tmpl_report.specs.Rendered.{Mentions}
use Rattle.tmpl_report.proofs.held.add_held.Goals as goal

pub returns-then-has_text_rules-clause-held : goal.returns-then-has_text_rules-clause-held
returns-then-has_text_rules-clause-held c = λ no_error document value reads has.
    inr (subst Mentions c.as_slice-3.ensures.value (c.has_text_rules.ensures c.if-has_text_rules.true))
