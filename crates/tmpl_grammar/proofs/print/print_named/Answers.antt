use Rattle.tmpl_grammar.proofs.PrintLemmas.{on_err, still_begins, still_begins_on_err}
use Rattle.tmpl_grammar.proofs.print.print_named.Goals as goal

pub returns-in_err-add_quote-clause-kept : goal.returns-in_err-add_quote-clause-kept
returns-in_err-add_quote-clause-kept c =
    on_err _ (still_begins _ _ _ _ c.in_ok-extend_from_slice.ensures.items
    (still_begins _ _ _ _ c.in_ok-extend_from_slice-2.ensures.items c.in_err-add_quote.ensures.kept))

pub returns-in_ok-extend_from_slice-in-Some-clause-kept :
    goal.returns-in_ok-extend_from_slice-in-Some-clause-kept
returns-in_ok-extend_from_slice-in-Some-clause-kept c =
    still_begins_on_err _ _ _ _ _ c.in_ok-extend_from_slice.ensures.items
    (still_begins_on_err _ _ _ _ _ c.in_ok-extend_from_slice-2.ensures.items
    (still_begins_on_err _ _ _ _ _ c.in_ok-add_quote.ensures.added
    (still_begins_on_err _ _ _ _ _ c.in_ok-extend_from_slice-in-Some.ensures.items c.print_commands.ensures.kept)))
