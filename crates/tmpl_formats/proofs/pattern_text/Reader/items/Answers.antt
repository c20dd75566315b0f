use Rattle.std.proofs.Common.{refl}
use Rattle.tmpl_formats.proofs.PatternClassLemmas.{items-end, items-more}
use Rattle.tmpl_formats.proofs.pattern_text.Reader.items.Goals as goal

pub returns-then-takes : goal.returns-then-takes
returns-then-takes c =
    items-end c.args.self.now.rest.now c.loop.self.rest.now c.takes.new.self.rest.now c.loop.spans.items c.loop.invariant (c.if-takes.ensures.taken refl)

pub loop-preserved : goal.loop-preserved
loop-preserved c =
    let i = c.in_ok-item.ensures c.if-not-branch.false in
    items-more c.args.self.now.rest.now c.loop.self.rest.now c.takes.new.self.rest.now c.item.new.self.rest.now c.loop.spans.items c.item.new.spans.items i.0
    c.loop.invariant (c.if-takes.ensures.kept refl) i.1 i.2
