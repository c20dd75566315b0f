use Rattle.std.proofs.Common.{◌∙◌, sym}
use Rattle.tmpl_problems.proofs.TokenLemmas.{no-first, other-first, no-second, both}
use Rattle.tmpl_problems.proofs.definitions.name_after.Goals as goal

pub returns-in_err-first : goal.returns-in_err-first
returns-in_err-first c = rw c.from_residual.ensures (no-first _ c.args.tokens.now (sym c.significant.ensures ∙ c.in_err-first.was))

pub returns-then-not-is_among : goal.returns-then-not-is_among
returns-then-not-is_among c = other-first _ c.args.tokens.now _ (sym c.in_ok-first.ensures) (sym c.if-not-is_among.ensures)

pub returns-in_err-significant : goal.returns-in_err-significant
returns-in_err-significant c =
    rw c.from_residual-in_err-significant.ensures (no-second _ c.args.tokens.now _ (sym c.in_ok-first.ensures) (sym c.in_err-significant.ensures))

pub returns : goal.returns
returns c =
    c.quoted_name.ensures
    ∙ both _ c.args.tokens.now _ _ (sym c.in_ok-first.ensures) (sym c.if-not-is_among.ensures) (sym c.in_ok-significant.ensures)
