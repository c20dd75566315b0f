use Rattle.std.proofs.Common.{◌∙◌, ap, sym, arith, drop, refl}
use Rattle.tmpl_grammar.specs.computed.Quoted.{unquoted_text}
use Rattle.tmpl_grammar.specs.computed.View.{rune_of}
use Rattle.tmpl_grammar.proofs.ListLemmas.{take-rest}
use Rattle.tmpl_grammar.proofs.QuotedLemmas.{led, unquoted_text-first}
use Rattle.tmpl_grammar.proofs.constant.quoted.unquote.Goals as goal

pub loop-rest-preserved : goal.loop-rest-preserved
loop-rest-preserved c =
    let fits = c.in-Some.ensures.within in
    let rest = c.loop-rest.rest.now in
    c.loop-rest.invariant
    ∙ unquoted_text-first c.args.quote c.loop-rest.text.items rest (rune_of c.in-Some.part, c.in-Some.len) (omega arith) (sym c.in-Some.ensures.value) fits.0 fits.1
    ∙ ap (λ s. led s (unquoted_text c.args.quote (drop c.in-Some.len rest))) (sym c.in_ok-add_to.ensures)
    ∙ ap (λ t. led c.add_to.new.text.items (unquoted_text c.args.quote t)) (sym (take-rest rest c.in-Some.len _ fits.1 refl))
