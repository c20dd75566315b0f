use Rattle.std.proofs.Common.{◌∷◌, true, false, refl, ap, sym, ◌∙◌, arith}
use Rattle.tmpl_formats.specs.PatternText.{begin, end, term, alternative, group, plain_group}
use Rattle.tmpl_formats.specs.PatternView.{tree_of}
use Rattle.tmpl_formats.proofs.PatternTreeLemmas.{term-of, group-of, row-add, row-start, row-none}
use Rattle.tmpl_formats.proofs.pattern_text.Reader.+pattern.Goals as goal

pub alternatives-loop-init : goal.alternatives-loop-init
alternatives-loop-init t c = row-start true (124 ∷ c.args.self.now.rest.now) c.new-parts.result.items c.new-parts.ensures.items

pub alternatives-returns-then-not-takes : goal.alternatives-returns-then-not-takes
alternatives-returns-then-not-takes t c =
    let part = rw c.in-Some.is at c.in_ok-part.ensures in
    let row = row-add true (124 ∷ c.args.self.now.rest.now) c.loop.self.rest.now c.sequence.new.self.rest.now c.loop.parts.items c.push.new.self.items c.in-Some.part
    c.in_ok-push.ensures.items c.loop.invariant (alternative part) in
    rw (c.if-not-takes.ensures.kept refl) (c.in_ok-whole.ensures c.args.self.now.rest.now c.sequence.new.self.rest.now row)

pub alternatives-loop-preserved : goal.alternatives-loop-preserved
alternatives-loop-preserved t c =
    let part = rw c.in-Some.is at c.in_ok-part.ensures in
    let row = row-add true (124 ∷ c.args.self.now.rest.now) c.loop.self.rest.now c.sequence.new.self.rest.now c.loop.parts.items c.push.new.self.items c.in-Some.part
    c.in_ok-push.ensures.items c.loop.invariant (alternative part) in
    rw (← c.if-not-takes.ensures.taken refl) row

pub closed-returns-then-takes : goal.closed-returns-then-takes
closed-returns-then-takes t c = rw (← c.if-takes.ensures.taken refl) (rw c.in-Some.is at c.in_ok-node.ensures)

pub group-returns-then-not-takes : goal.group-returns-then-not-takes
group-returns-then-not-takes t c =
    let now = c.closed.new.self.rest.now in
    group-of (40 ∷ c.args.self.now.rest.now) c.takes.new.self.rest.now now c.closed.result
    (λ p h. rw (← c.if-not-takes.ensures.kept refl) (group h))
    c.closed.ensures

pub group-returns : goal.group-returns
group-returns t c =
    let now = c.closed-2.new.self.rest.now in
    group-of (40 ∷ c.args.self.now.rest.now) c.takes-2.new.self.rest.now now c.closed-2.result
    (λ p h. rw (c.if-not-takes.ensures.taken refl ∙ ap (λ s. 63 ∷ s) (c.if-not-takes-2.ensures.taken refl)) (plain_group h))
    c.closed-2.ensures

pub sequence-returns-then-len-eq0 : goal.sequence-returns-then-len-eq0
sequence-returns-then-len-eq0 t c =
    row-none c.args.self.now.rest.now c.terms.new.self.rest.now c.spend.new.self.rest.now c.in-Some.parts.items (omega (arith, c.len.ensures, c.in-Some.parts.ok.0)) c.spend.ensures
    (rw c.in-Some.is at c.in_ok-parts.ensures)

pub term-returns-then-takes : goal.term-returns-then-takes
term-returns-then-takes t c = rw (sym c.spend.ensures ∙ c.if-takes.ensures.taken refl) begin

pub term-returns-then-takes-2 : goal.term-returns-then-takes-2
term-returns-then-takes-2 t c = rw (sym (c.if-takes.ensures.kept refl ∙ c.spend.ensures) ∙ c.if-takes-2.ensures.taken refl) end

pub term-returns : goal.term-returns
term-returns t c =
    let same = c.if-takes-2.ensures.kept refl ∙ (c.if-takes.ensures.kept refl ∙ c.spend.ensures) in
    term-of c.args.self.now.rest.now c.atom.new.self.rest.now c.repeated.new.self.rest.now (tree_of c.in-Some.turn) c.repeated.result
    (rw same at (rw c.in-Some.is at c.in_ok-turn.ensures)) c.repeated.ensures

pub terms-loop-init : goal.terms-loop-init
terms-loop-init t c = row-start false c.args.self.now.rest.now c.new-parts.result.items c.new-parts.ensures.items

pub terms-loop-preserved : goal.terms-loop-preserved
terms-loop-preserved t c =
    let part = rw c.in-Some.is at c.in_ok-part.ensures in
    row-add false c.args.self.now.rest.now c.loop.self.rest.now c.term.new.self.rest.now c.loop.parts.items c.push.new.self.items c.in-Some.part
    c.in_ok-push.ensures.items c.loop.invariant (term part)
