use Rattle.std.proofs.Common.{◌∷◌, refl, ap, sym, ◌∙◌}
use Rattle.tmpl_formats.specs.PatternText.{exactly, at_least, between}
use Rattle.tmpl_formats.proofs.pattern_text.Reader.counts.Goals as goal

pub returns-then-takes : goal.returns-then-takes
returns-then-takes c =
    let n = c.in_ok-least.ensures in exactly n.1 (rw (c.if-takes.ensures.taken refl) at n.2)

pub returns-then-takes-2 : goal.returns-then-takes-2
returns-then-takes-2 c =
    let n = c.in_ok-least.ensures in
    at_least n.1 (rw (sym (c.if-takes.ensures.kept refl) ∙ (c.if-not-takes.ensures.taken refl ∙ ap (λ t. 44 ∷ t) (c.if-takes-2.ensures.taken refl))) at n.2)

pub returns-then-takes-3 : goal.returns-then-takes-3
returns-then-takes-3 c =
    let n = c.in_ok-least.ensures in
    let m = c.in_ok-most.ensures in
    between n.1 (rw (sym (c.if-takes.ensures.kept refl) ∙ c.if-not-takes.ensures.taken refl) at n.2) m.1
    (rw (c.if-takes-2.ensures.kept refl, c.if-takes-3.ensures.taken refl) at m.2) c.if-most-least.false
