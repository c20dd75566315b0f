use Rattle.std.proofs.Common.{◌∙◌, ◌+◌, ◌-◌, ◌||◌, max, refl, ap, arith}
use Rattle.tmpl_syntax.specs.Need.{need_of_nodes}
use Rattle.tmpl_code.specs.computed.Weights.{nodes_call}
use Rattle.tmpl_code.specs.MakesText.{nodes_make_text}
use Rattle.tmpl_code.proofs.NodeLemmas.{nodes_from, step_called}
use Rattle.tmpl_syntax.specs.View.{node_of, set_view}
use Rattle.tmpl_code.proofs.TailLemmas as tail
use Rattle.tmpl_code.proofs.node.Compiler.put_surveyed.Goals as goal

pub put_node-requires-clause-exit : goal.put_node-requires-clause-exit
put_node-requires-clause-exit c =
    let l = c.loop-i in
    tail.node_open (record { code = l.self.code; scope = c.shrink.new.scope }) c.requires l.invariant.nodes (l.i - 1) c.index-nodes-i.result (omega arith)
    (omega arith) c.index-nodes-i.is refl c.shrink.ensures

pub loop-i-preserved : goal.loop-i-preserved
loop-i-preserved c =
    let l = c.loop-i in
    let ns = c.args.nodes.now in
    let item = c.index-nodes-i.result in
    let here = nodes_from ns l.i (l.i - 1) item (omega arith) (omega arith) c.index-nodes-i.is in
    let found = c.in_ok-survey_node.ensures in
    let above = c.in_ok-above.ensures in
    let after = l.invariant.survey in
    let joined = c.with-survey.ensures in
    record {
      nodes =
          tail.put_more (record { code = l.self.code; scope = c.shrink.new.scope }) c.requires l.invariant.nodes (l.i - 1) item (omega arith) (omega arith)
          c.index-nodes-i.is refl c.shrink.ensures c.in_ok-put_node.ensures
          (step_called (set_view c.args.site.set.now) (node_of item).line (node_of item).what _ _ _ c.number_called-number.ensures c.in_ok-put_step.ensures.code)
          c.in_ok-put_step.ensures.ends refl;
      survey = record {
        need = joined.need ∙ (λ j. max (found.need j) ((above.need ∙ (λ k. c.left_after.ensures k + after.need k)) j)) ∙ ap need_of_nodes here;
        text = joined.text ∙ (λ j. found.text j || (above.text ∙ after.text) j) ∙ ap nodes_make_text here;
        calls = joined.calls ∙ (λ j. found.calls j || (above.calls ∙ after.calls) j) ∙ ap nodes_call here;
      };
    }

-- the loop ends at the first node
pub returns-clause-put : goal.returns-clause-put
returns-clause-put c = tail.put_all (omega arith) c.loop-i.invariant.nodes
