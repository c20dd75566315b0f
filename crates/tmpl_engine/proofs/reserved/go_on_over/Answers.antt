use Rattle.std.proofs.Common.{subst, sym}
use Rattle.tmpl_engine.specs.computed.Came.{IsLeft}
use Rattle.tmpl_engine.specs.computed.Near.{IsNear}
use Rattle.tmpl_engine.specs.computed.Output.{given_of}
use Rattle.tmpl_engine.specs.computed.Paused.{IsPausedPlain, paused_state}
use Rattle.tmpl_engine.specs.computed.Plan.{plan_of}
use Rattle.tmpl_engine.specs.computed.View.{size_of}
use Rattle.tmpl_engine.specs.declared.stack.Stack.{Stack}
use Rattle.tmpl_engine.proofs.ReservedLemmas.{left-as, resumes}
use Rattle.tmpl_engine.proofs.reserved.go_on_over.Goals as goal

pub turns-end-requires : goal.turns-end-requires
turns-end-requires g c κs within =
    let plan = plan_of c.args.options.now c.args.program.now in
    let now = given_of (g.S.Sink.so_far c.args.sink.now) c.args.piece.now in
    let taken = c.swap.ensures.x_after in
    let asked = c.requires.1 in (
      within,
      (
        resumes plan g.aim now c.args.alloc c.args.paused c.args.stack.now c.swap.new.x taken asked.0 asked.1.0,
        (subst (λ (s : Stack). IsNear g.aim.room c.args.high (size_of s)) (sym taken) asked.1.1.0, asked.1.1.1),
      ),
    )

pub returns-clause-left : goal.returns-clause-left
returns-clause-left g c =
    let plan = plan_of c.args.options.now c.args.program.now in
    let now = given_of (g.S.Sink.so_far c.turns-end.new.sink) c.turns-end.new.piece in
    let p = c.pause-paused.result in
    subst (λ (s : Stack). IsLeft plan g.aim (paused_state p s.cells.now) (IsPausedPlain p s.cells.now) now c.turns-end.result)
    (sym c.swap-2.ensures.y_after)
    (left-as plan g.aim now _ _ _ _ c.turns-end.result c.pause-paused.ensures.state c.pause-paused.ensures.plain c.turns-end.ensures.left)
