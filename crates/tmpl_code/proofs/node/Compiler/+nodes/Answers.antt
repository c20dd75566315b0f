use Rattle.std.proofs.Common.{◌∙◌, ◌-◌, length, refl, ap, arith}
use Rattle.std.proofs.lemmas.Result.{on_ok_weaker}
use Rattle.tmpl_grammar.specs.View.{binding_of, header_of}
use Rattle.tmpl_syntax.specs.View.{node_of, nodes_in, set_view}
use Rattle.tmpl_code.specs.computed.Held.{code_of}
use Rattle.tmpl_syntax.proofs.WeightLemmas.{item-weight}
use Rattle.tmpl_code.proofs.NodeLemmas.{step_called}
use Rattle.tmpl_code.proofs.TailLemmas as tail
use Rattle.tmpl_code.proofs.node.Compiler.+nodes.Goals as goal

pub put_nodes-put_node-requires : goal.put_nodes-put_node-requires
put_nodes-put_node-requires t c =
    let l = c.loop-i in
    let item = c.index-nodes-i.result in
    let below = item-weight c.args.nodes.now (l.i - 1) item (omega arith) c.index-nodes-i.is in (
      omega (arith, below),
      (
        tail.node_open (record { code = l.self.code; scope = c.shrink.new.scope }) c.requires l.invariant (l.i - 1) item (omega arith)
            (omega arith) c.index-nodes-i.is refl c.shrink.ensures,
        c.number_called-number.ensures,
      ),
    )

pub put_nodes-loop-i-preserved : goal.put_nodes-loop-i-preserved
put_nodes-loop-i-preserved t c =
    let l = c.loop-i in
    let item = c.index-nodes-i.result in
    tail.put_more (record { code = l.self.code; scope = c.shrink.new.scope }) c.requires l.invariant (l.i - 1) item (omega arith) (omega arith)
    c.index-nodes-i.is refl c.shrink.ensures c.in_ok-put_node.ensures
    (step_called (set_view c.args.site.set.now) (node_of item).line (node_of item).what _ _ _ c.number_called-number.ensures c.in_ok-put_step.ensures.code)
    c.in_ok-put_step.ensures.ends refl

pub put_nodes-returns : goal.put_nodes-returns
put_nodes-returns t c = tail.put_all (omega arith) c.loop-i.invariant

pub put_ended-returns : goal.put_ended-returns
put_ended-returns t c =
    let a = c.args in
    on_ok_weaker _ (λ p. tail.put_ended (set_view a.site.set.now) c.requires (binding_of a.binding.now) (nodes_in a.nodes.now) a.skip _ refl
    c.in_ok-declared_by.ensures c.in_ok-put_end.ensures p) c.put_part.ensures

pub put_if-returns : goal.put_if-returns
put_if-returns t c =
    let a = c.args in
    let p = a.parts in
    on_ok_weaker _ (λ headed. tail.put_if (set_view a.site.set.now) c.requires (header_of p.header.now) (nodes_in p.body.now) (nodes_in p.other.now)
    c.in_ok-to.to c.in_ok-skip.skip c.declares-kept.result c.in_ok-put_ended.ensures c.in_ok-put_ended-2.ensures
    (c.in_ok-to.ensures ∙ ap (λ n. length (code_of c.put_ended.new.self.code) - n) c.len-end.ensures)
    (c.in_ok-skip.ensures ∙ ap (λ n. length (code_of c.put_ended-2.new.self.code) - n) c.len-second.ensures) c.declares-kept.ensures
    c.in_ok-push.ensures.code refl headed) c.put_header.ensures

pub put_with-returns : goal.put_with-returns
put_with-returns t c =
    let a = c.args in
    let p = a.parts in
    on_ok_weaker _ (λ headed. tail.put_with (set_view a.site.set.now) c.requires (header_of p.header.now) (nodes_in p.body.now) (nodes_in p.other.now)
    c.in_ok-skip.skip c.in_ok-skip-2.skip _ _ c.declares-kept.result
    c.in_ok-put_ended.ensures refl c.in_ok-push.ensures.code c.in_ok-put_dotted_part.ensures
    (c.in_ok-to_u32.ensures.value ∙ c.in_ok-declared_in.ensures) (c.in_ok-to_u32-2.ensures.value ∙ c.declared_count.ensures)
    (c.in_ok-skip.ensures ∙ ap (λ n. length (code_of c.put_ended.new.self.code) - n) c.len-end.ensures)
    (c.in_ok-skip-2.ensures ∙ ap (λ n. length (code_of c.put_dotted_part.new.self.code) - n) c.len-second.ensures) c.declares-kept.ensures
    c.in_ok-push-2.ensures.code refl headed) c.put_header.ensures

pub put_range-returns : goal.put_range-returns
put_range-returns t c =
    let a = c.args in
    let p = a.parts in
    on_ok_weaker _ (λ piped. tail.put_range (set_view a.site.set.now) c.requires (header_of p.header.now) (nodes_in p.body.now) (nodes_in p.other.now)
    a.line c.in_ok-skip.skip c.in_ok-skip-2.skip _ _ c.declares_key-key.result
    _ refl (c.in_ok-to_u32.ensures.value ∙ c.in_ok-declared_in.ensures)
    c.in_ok-put_end.ensures c.in_ok-put_nodes.ensures refl c.in_ok-push.ensures.code
    c.len-after.ensures refl c.len-below.ensures c.in_ok-put_turns.ensures
    c.in_ok-count.ensures (c.in_ok-skip.ensures ∙ ap (λ n. length (code_of c.put_nodes.new.self.code) - n) c.len-after.ensures)
    (c.in_ok-skip-2.ensures ∙ ap (λ n. length (code_of c.put_turns.new.self.code) - n) c.len-second.ensures) c.declares_key-key.ensures
    c.in_ok-push-2.ensures.code refl piped) c.put_pipeline.ensures
