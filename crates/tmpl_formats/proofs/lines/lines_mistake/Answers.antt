use Rattle.std.proofs.Common.{◌≡◌, ◌-◌, length, take, drop, Some, None, ap, ◌∙◌, arith, length-drop}
use Rattle.std.proofs.lemmas.List.{length-take-le}
use Rattle.tmpl_formats.proofs.LinesLoopLemmas.{line-goes_on, line-next, line-refused, text-ends, last-line, last-fits, place-fits}
use Rattle.tmpl_formats.specs.PatternView.{marks_of}
use Rattle.tmpl_formats.proofs.lines.lines_mistake.Goals as goal
use Rattle.tmpl_formats.proofs.lines.lines_mistake.Goals.{then-byte-eq10+in_ok-mistake+in_default, else-byte-eq10}

pub moved-requires : goal.moved-requires
moved-requires c =
    let t = marks_of c.args.pattern.now.root in
    let text = c.args.text.now in
    let line = take (c.loop-offset.offset - c.loop-offset.start) (drop c.loop-offset.start text) in
    let fits = place-fits t line c.in-Some.mistake.offset (rw c.in-Some.is at c.in_ok-mistake.ensures) in
    let before = c.loop-offset.invariant.before in
    let long : length line ≡ c.loop-offset.offset - c.loop-offset.start =
    length-take-le (c.loop-offset.offset - c.loop-offset.start) (drop c.loop-offset.start text) (omega (arith, length-drop c.loop-offset.start text)) in
    omega arith

pub returns-in-Some : goal.returns-in-Some
returns-in-Some c =
    ap Some c.moved.ensures ∙ line-refused _ _ _ _ _ (omega arith) c.loop-offset.invariant c.if-byte-eq10.true (rw c.in-Some.is at c.in_ok-mistake.ensures)

pub loop-offset-preserved : goal.loop-offset-preserved
loop-offset-preserved c =
    elim c.if-byte-eq10.branch [
      | then-byte-eq10+in_ok-mistake+in_default w ↦
          (rw w.start-is (line-next _ _ _ _ c.loop-offset-test.true c.loop-offset.invariant w.if-byte-eq10.true (rw w.in_default.is at w.in_ok-mistake.ensures)))
      | else-byte-eq10 w ↦
          (rw w.start-is (line-goes_on _ _ _ _ c.loop-offset-test.true c.loop-offset.invariant w.if-byte-eq10.false))
    ]

pub returns-then-start-text : goal.returns-then-start-text
returns-then-start-text c = text-ends _ _ _ _ (omega arith) c.loop-offset.invariant c.if-start-text.true

pub moved-requires-in-Some-2 : goal.moved-requires-in-Some-2
moved-requires-in-Some-2 c =
    let before = c.loop-offset.invariant.before in
    let fits = last-fits (marks_of c.args.pattern.now.root) c.args.text.now c.loop-offset.start c.in-Some-2.mistake.offset (omega arith) (rw c.in-Some-2.is at c.in_ok-mistake-2.ensures) in
    omega arith

pub returns-in-Some-2 : goal.returns-in-Some-2
returns-in-Some-2 c =
    ap Some c.moved-in-Some-2.ensures
    ∙ last-line _ _ _ _ _ (omega arith) c.loop-offset.invariant c.if-start-text.false (rw c.in-Some-2.is at c.in_ok-mistake-2.ensures)

pub returns-in-None : goal.returns-in-None
returns-in-None c = last-line _ _ _ _ None (omega arith) c.loop-offset.invariant c.if-start-text.false (rw c.in-None.is at c.in_ok-mistake-2.ensures)
