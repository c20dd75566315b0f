use Rattle.tmpl_syntax.specs.View.{set_view, tree_of}
use Rattle.tmpl_syntax.proofs.OutlineLemmas.{outline_more}
use Rattle.tmpl_syntax.proofs.set.outlines.Goals as goal

pub loop-number-preserved : goal.loop-number-preserved
loop-number-preserved c =
    let l = c.loop-number in
    outline_more (set_view c.args.set.now) l.number (c.template.result.0.now, tree_of c.template.result.1.now)
    l.outlines.items c.push.new.self.items c.in_ok-outline_of.field-0
    c.template.ensures.value c.in_ok-outline_of.ensures c.in_ok-push.ensures.items l.invariant
