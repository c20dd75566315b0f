use Rattle.std.proofs.Common.{arith, ◌∙◌, ◌+◌, ◌-◌}
use Rattle.tmpl_engine.specs.computed.Plain.{IsPlainStack}
use Rattle.tmpl_engine.proofs.PlainLemmas.{borrowed-popped}
use Rattle.tmpl_engine.proofs.stack.Stack.call.Goals as goal

pub returns-clause-plain : goal.returns-clause-plain
unfolding IsPlainStack
returns-clause-plain c = λ none plain.
    let s = c.args.self.now in
    let from = s.top - (c.args.count + c.piped_count-below.result) in (
      c.call_between-result.ensures.borrowed none plain,
      borrowed-popped from s.top s.cells.now c.clear.new.cells (omega arith)
          (c.clear.ensures.left ∙ c.call_between-result.ensures.left) plain,
    )
