use Rattle.std.proofs.Common.{sym, ◌∙◌}
use Rattle.tmpl_c.proofs.CheckLemmas.{four_after, none_after}
use Rattle.tmpl_c.proofs.check.add_lines.Goals as goal

pub returns-then-is_empty : goal.returns-then-is_empty
returns-then-is_empty c = none_after _ _ _ (sym c.args.problems.refused.ok.0) (sym c.if-is_empty.true ∙ c.is_empty.ensures)

pub returns : goal.returns
returns c = four_after _ _ _ (sym c.args.problems.refused.ok.0) (sym c.if-is_empty.false ∙ c.is_empty.ensures)
