use Rattle.std.proofs.Common.{suc, arith}
use Rattle.tmpl_formats.proofs.PatternTextLemmas.{digit-first, digit-next}
use Rattle.tmpl_formats.proofs.pattern_text.Reader.number.Goals as goal

pub loop-next-init : goal.loop-next-init
loop-next-init c =
    let d = c.in_ok-first.ensures in
    (1, omega arith, digit-first c.args.base c.in_ok-first.first d.0 c.args.self.now.rest.now c.digit.new.self.rest.now d.1 d.2 d.3)

pub loop-next-preserved : goal.loop-next-preserved
loop-next-preserved c =
    let d = c.in-Some.ensures in
    let h = c.loop-next.invariant in
    (suc h.0, omega arith, digit-next c.args.base h.0 c.loop-next.number c.in-Some.next d.0 c.args.self.now.rest.now c.loop-next.self.rest.now c.digit-in-loop-next.new.self.rest.now h.2 d.1 d.2 d.3)
