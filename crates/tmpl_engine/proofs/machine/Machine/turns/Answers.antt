use Rattle.std.proofs.Common.{arith, ap, length, refl, subst, sym, ◌∙◌, ◌≤◌, Ok, Err}
use Rattle.std.specs.Prelude.{slice_get}
use Rattle.std.proofs.lemmas.Option.{slice_get_within}
use Rattle.tmpl_code.specs.View.{instructions_of}
use Rattle.tmpl_code.specs.declared.instruction.Instruction.TheVariants as i
use Rattle.tmpl_syntax.specs.View.{set_view}
use Rattle.tmpl_engine.specs.computed.Came.{IsStopped}
use Rattle.tmpl_engine.specs.computed.Near.{IsNear}
use Rattle.tmpl_engine.specs.computed.Plan.{plan_of}
use Rattle.tmpl_engine.specs.computed.View.{cells_of, size_of}
use Rattle.tmpl_engine.specs.computed.Machines.{no_template, state_of}
use Rattle.tmpl_engine.specs.declared.flow.Flow.TheVariants as flow
use Rattle.tmpl_engine.proofs.GoingLemmas as going
use Rattle.tmpl_engine.proofs.OutputLemmas.{grows-on, grows-same}
use Rattle.tmpl_engine.proofs.ReadyLemmas.{able}
use Rattle.tmpl_engine.proofs.machine.Machine.turns.Goals as goal

pub loop-instructions-init : goal.loop-instructions-init
loop-instructions-init g c = record {
  taken = grows-same (g.S.Sink.so_far c.args.sink.now);
  stands = c.requires.1.0;
  size = (refl, refl);
}

pub bounds-instructions-self : goal.bounds-instructions-self
bounds-instructions-self g c = going.inside c.loop-instructions.self c.loop-instructions.invariant.stands c.args.program.now.tables _ (ap (instructions_of c.args.program.now.tables) (sym c.as_slice-instructions.ensures.value))

pub offset_bounds-instructions-self : goal.offset_bounds-instructions-self
offset_bounds-instructions-self g c = omega (arith, bounds-instructions-self g c, c.as_slice-instructions.type_inv.0, c.as_slice-instructions.type_inv.1)

pub execute-requires : goal.execute-requires
execute-requires g c =
    let inv = c.loop-instructions.invariant.stands in
    let items = c.as_slice-instructions.result.now in
    let tables = c.args.program.now.tables in
    let code = ap (instructions_of tables) (sym c.as_slice-instructions.ensures.value) in
    let inside = going.inside c.loop-instructions.self inv tables items code in
    let fits = c.as_slice-instructions.type_inv.0 in
    let deep = inv.depth in
    let lands = going.lands c.loop-instructions.self inv tables items code (i.Spend 0) (omega (arith, fits)) in
    let count = inv.given.count in
    let few = c.requires.1.1.1.0 in
    let near = subst (λ n. IsNear g.aim.room c.args.high n) (sym c.loop-instructions.invariant.size.0) c.requires.1.1.0 in
    let tall = c.height.ensures in
    let test = c.if-height-high.false in
    let low : length (cells_of c.loop-instructions.self.stack) ≤ c.args.high = omega (arith, tall, test) in
    record {
      place = omega (arith, inside, fits);
      depth = omega (arith, deep);
      ready = going.near-by g.aim.room c.args.high (length (cells_of c.loop-instructions.self.stack)) (size_of c.loop-instructions.self.stack) near low _
          (going.has c.loop-instructions.self inv tables items code (i.Spend 0));
      lands = lands;
      able = able (plan_of c.args.options.now c.args.program.now) no_template (state_of c.loop-instructions.self) _ lands;
      countable = omega (arith, count, few);
    }

pub loop-instructions-smaller : goal.loop-instructions-smaller
loop-instructions-smaller g c = let did = c.in-Ok-On.ensures in
    (going.turned c.loop-instructions.self c.loop-instructions.invariant.stands c.args.program.now.tables _ (ap (instructions_of c.args.program.now.tables) (sym c.as_slice-instructions.ensures.value)) (i.Spend 0)
    c.execute.new.self _ _ (Ok flow.On) (ap Ok c.in-Ok-On.field-0-is) did.step did.given did.steady.0).1

pub loop-instructions-preserved : goal.loop-instructions-preserved
loop-instructions-preserved g c = let did = c.in-Ok-On.ensures in record {
  taken = grows-on _ _ _ c.loop-instructions.invariant.taken did.taken;
  stands = (going.turned c.loop-instructions.self c.loop-instructions.invariant.stands c.args.program.now.tables _ (ap (instructions_of c.args.program.now.tables) (sym c.as_slice-instructions.ensures.value)) (i.Spend 0)
      c.execute.new.self _ _ (Ok flow.On) (ap Ok c.in-Ok-On.field-0-is) did.step did.given did.steady.0).0;
  size = (did.steady.1.0 ∙ c.loop-instructions.invariant.size.0, did.steady.1.1 ∙ c.loop-instructions.invariant.size.1);
}

pub returns-in-Ok-Over-clause-left : goal.returns-in-Ok-Over-clause-left
returns-in-Ok-Over-clause-left g c = let did = c.in-Ok-Over.ensures in
    going.turned c.loop-instructions.self c.loop-instructions.invariant.stands c.args.program.now.tables _ (ap (instructions_of c.args.program.now.tables) (sym c.as_slice-instructions.ensures.value)) (i.Spend 0)
    c.execute.new.self _ _ (Ok flow.Over) (ap Ok c.in-Ok-Over.field-0-is) did.step did.given did.steady.0

pub returns-in-Ok-Over-clause-taken : goal.returns-in-Ok-Over-clause-taken
returns-in-Ok-Over-clause-taken g c = grows-on _ _ _ c.loop-instructions.invariant.taken c.in-Ok-Over.ensures.taken

pub error_for-requires : goal.error_for-requires
error_for-requires g c = record {
  number = slice_get_within _ _ _ (ap (slice_get (set_view c.args.program.now.set.value)) c.in-Err.ensures.steady.2 ∙ (going.runs c.loop-instructions.self c.loop-instructions.invariant.stands).1);
  outline = c.requires.1.1.1.1;
}

pub returns-in-Err-clause-left : goal.returns-in-Err-clause-left
returns-in-Err-clause-left g c = let did = c.in-Err.ensures in
    going.turned c.loop-instructions.self c.loop-instructions.invariant.stands c.args.program.now.tables _ (ap (instructions_of c.args.program.now.tables) (sym c.as_slice-instructions.ensures.value)) (i.Spend 0)
    c.execute.new.self _ _ (Err c.in-Err.stop) refl did.step did.given did.steady.0 c.error_for.result
    (subst (λ number. IsStopped (slice_get (set_view c.args.program.now.set.value) number) c.execute.new.self.line c.in-Err.stop c.error_for.result) did.steady.2
    c.error_for.ensures)

pub returns-in-Err-clause-taken : goal.returns-in-Err-clause-taken
returns-in-Err-clause-taken g c = grows-on _ _ _ c.loop-instructions.invariant.taken c.in-Err.ensures.taken
