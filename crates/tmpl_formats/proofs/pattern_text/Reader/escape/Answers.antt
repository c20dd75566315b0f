use Rattle.std.proofs.Common.{sym}
use Rattle.tmpl_formats.specs.PatternText as says
use Rattle.tmpl_formats.specs.PatternText.{HasDigits, HasEscape}
use Rattle.tmpl_formats.proofs.PatternTextLemmas.{at_letter, with_some}
use Rattle.tmpl_formats.proofs.pattern_text.Reader.escape.Goals as goal

pub returns-in-t : goal.returns-in-t
returns-in-t c = at_letter (λ t. HasEscape t 9 c.next.new.self.rest.now) _ _ _ _ c.in_ok-c.ensures c.in-t.is says.tab

pub returns-in-n : goal.returns-in-n
returns-in-n c = at_letter (λ t. HasEscape t 10 c.next.new.self.rest.now) _ _ _ _ c.in_ok-c.ensures c.in-n.is says.newline

pub returns-in-v : goal.returns-in-v
returns-in-v c = at_letter (λ t. HasEscape t 11 c.next.new.self.rest.now) _ _ _ _ c.in_ok-c.ensures c.in-v.is says.vertical_tab

pub returns-in-f : goal.returns-in-f
returns-in-f c = at_letter (λ t. HasEscape t 12 c.next.new.self.rest.now) _ _ _ _ c.in_ok-c.ensures c.in-f.is says.form_feed

pub returns-in-r : goal.returns-in-r
returns-in-r c = at_letter (λ t. HasEscape t 13 c.next.new.self.rest.now) _ _ _ _ c.in_ok-c.ensures c.in-r.is says.return

pub returns-else-begins_digit : goal.returns-else-begins_digit
returns-else-begins_digit c =
    at_letter (λ t. HasEscape t 0 c.next.new.self.rest.now) _ _ _ _ c.in_ok-c.ensures c.in-0.is (says.null (sym c.if-begins_digit.ensures))

pub returns-in-x : goal.returns-in-x
returns-in-x c =
    let now = c.hexadecimal.new.self.rest.now in
    with_some (λ n. HasDigits 16 2 0 c.next.new.self.rest.now n now) (λ n. HasEscape c.args.self.now.rest.now n now)
    (λ n h. at_letter (λ t. HasEscape t n now) _ _ _ _ c.in_ok-c.ensures c.in-x.is (says.two_digits h)) c.hexadecimal.result c.hexadecimal.ensures

pub returns-then-escapes_itself : goal.returns-then-escapes_itself
returns-then-escapes_itself c = rw (c.from.ensures, c.in_ok-c.ensures) (says.itself (sym c.if-escapes_itself.ensures))
