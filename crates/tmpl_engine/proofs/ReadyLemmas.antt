-- For `execute`: an instruction that does not get stuck finds the cells below those that it forgets, and the template that it calls.
use Rattle.std.proofs.lemmas.Grind.{common_steps}
use Rattle.std.proofs.Common.{arith, ◌+◌, ◌<◌, ◌≤◌, ℕ, length}
use Rattle.std.proofs.lemmas.List.{length-drop}
use Rattle.std.proofs.lemmas.Option.{slice_get_within}
use Rattle.tmpl_syntax.specs.Set.{Template}
use Rattle.tmpl_code.specs.Instruction as code
use Rattle.tmpl_code.specs.Instruction.{Instruction}
use Rattle.tmpl_engine.specs.Cell.{Cell}
use Rattle.tmpl_engine.specs.State.{Plan, State}
use Rattle.tmpl_engine.specs.Machine.{carry_out}
use Rattle.tmpl_engine.specs.computed.Turned.{IsAble, Lands}

module _ (plan : Plan) (t : Template) (s : State) where
  next-able : (n skip line : ℕ) → Lands (carry_out plan t (code.next n skip line) s) → n + 2 ≤ length s.cells
  next-able n skip line h = grind (arith, common_steps, length-drop {A = Cell})

  leave-able : (n skip : ℕ) → Lands (carry_out plan t (code.leave n skip) s) → n + 2 ≤ length s.cells
  leave-able n skip h = grind (arith, common_steps, length-drop {A = Cell})

  invoke-able : (number : ℕ) → Lands (carry_out plan t (code.invoke number) s) → number < length plan.starts
  invoke-able number h = grind (arith, common_steps, slice_get_within {A = ℕ})

  return-able : (n : ℕ) → Lands (carry_out plan t (code.return_from n) s) → 1 < s.depth → n + 3 ≤ length s.cells
  return-able n h deep = grind (arith, common_steps, length-drop {A = Cell})

  pub able : (i : Instruction) → Lands (carry_out plan t i s) → IsAble plan i s
  able (code.next n skip line) h = next-able n skip line h
  able (code.leave n skip) h = leave-able n skip h
  able (code.invoke number) h = invoke-able number h
  able (code.return_from n) h = return-able n h
  able _ h = tt
