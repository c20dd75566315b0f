use Rattle.tmpl_formats.specs.PatternText.{HasDigits}
use Rattle.tmpl_formats.proofs.pattern_text.Reader.hexadecimal.Given as goal

abbrev pub invariant-loop : goal.invariant-loop
invariant-loop l = HasDigits 16 l.counter 0 l.fn.self.rest.now l.number l.self.rest.now
