use Rattle.std.proofs.Common.{[], ◌∷◌, refl, sym}
use Rattle.tmpl_formats.specs.PatternText.{span, single, one, range}
use Rattle.tmpl_formats.proofs.pattern_text.Reader.range.Goals as goal

pub returns-then-not-begins_range : goal.returns-then-not-begins_range
returns-then-not-begins_range c = λ _. (single c.in-Some.first, c.in_ok-push.ensures.items, one c.in-Some.ensures (sym c.if-not-begins_range.ensures))

pub returns : goal.returns
returns c = λ _.
    (let e = c.if-not-takes.ensures.taken refl in (
      span c.in-Some.first c.in-Some-member.last ∷ [],
      c.in_ok-push-2.ensures.items,
      range (rw e at c.in-Some.ensures) (rw e at (sym c.if-not-begins_range.ensures)) c.in-Some-member.ensures c.if-last-first.false,
    ))
