use Rattle.tmpl_formats.specs.PatternText.{no_more}
use Rattle.tmpl_formats.proofs.PatternTextLemmas.{digit-at}
use Rattle.tmpl_formats.proofs.pattern_text.Reader.hexadecimal.Goals as goal

pub loop-preserved : goal.loop-preserved
loop-preserved c =
    let d = c.in_ok-next.ensures in
    digit-at 16 c.loop.counter c.loop.number c.in_ok-next.next d.0 c.args.self.now.rest.now c.loop.self.rest.now c.digit.new.self.rest.now c.loop.invariant d.1 d.2 d.3

pub loop-init : goal.loop-init
loop-init c = no_more
