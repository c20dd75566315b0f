use Rattle.std.proofs.Common.{◌≡◌, ◌∙◌, ◌<◌, length, sym, None, true}
use Rattle.tmpl_values.specs.Quote.{letter_of, letters}
use Rattle.tmpl_values.specs.Printable.{printable}
use Rattle.tmpl_values.proofs.QuoteLemmas.{inside-plain, spelling-plain, length-not_empty, is_some-none}
use Rattle.tmpl_values.proofs.quote.plain_char.Goals as goal

pub returns-then-is_printable : goal.returns-then-is_printable
returns-then-is_printable c =
    let x = c.in-Some.c in
    let some : 0 < length c.args.bytes.now = length-not_empty c.args.bytes.now _ c.is_empty.ensures c.if-is_empty.false in
    let unlettered : letter_of x letters ≡ None = sym c.letter_of.ensures ∙ is_some-none _ c.if-is_none.ensures in
    let prints : printable x ≡ true = sym c.if-is_printable.ensures in
    (c.in-Some.ensures.1, inside-plain printable c.args.bytes.now x some c.in-Some.ensures.0 (spelling-plain printable x unlettered prints))
