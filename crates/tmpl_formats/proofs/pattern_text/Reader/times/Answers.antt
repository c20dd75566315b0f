use Rattle.std.proofs.Common.{Some, None}
use Rattle.tmpl_formats.specs.PatternText.{HasTimes, star, plus, question}
use Rattle.tmpl_formats.proofs.PatternTextLemmas.{at_letter}
use Rattle.tmpl_formats.proofs.pattern_text.Reader.times.Goals as goal

pub returns-in-42 : goal.returns-in-42
returns-in-42 c = at_letter (λ t. HasTimes t 0 None c.next.new.self.rest.now) _ _ _ _ c.in_ok-c.ensures c.in-42.is star

pub returns-in-43 : goal.returns-in-43
returns-in-43 c = at_letter (λ t. HasTimes t 1 None c.next.new.self.rest.now) _ _ _ _ c.in_ok-c.ensures c.in-43.is plus

pub returns-in-63 : goal.returns-in-63
returns-in-63 c = at_letter (λ t. HasTimes t 0 (Some 1) c.next.new.self.rest.now) _ _ _ _ c.in_ok-c.ensures c.in-63.is question
