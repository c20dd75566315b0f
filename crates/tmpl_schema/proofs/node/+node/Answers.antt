use Rattle.std.proofs.Common.{rules, ◌≡◌, ◌∙◌, true, Option, Some, None, IfOk, ap, sym, subst}
use Rattle.tmpl_grammar.specs.View.{commands_in, header_of}
use Rattle.tmpl_grammar.specs.declared.tree.Control.TheVariants as control
use Rattle.tmpl_syntax.specs.Tree.{control_node}
use Rattle.tmpl_syntax.specs.View.{control_of, nodes_in}
use Rattle.tmpl_syntax.specs.declared.tree.ControlNode.{out-ControlNode}
use Rattle.tmpl_syntax.proofs.ViewLemmas.{control_of-fields}
use Rattle.tmpl_shape.specs.View.{shape_of}
use Rattle.tmpl_schema.specs.declared.flow.FallThrough.{FallThrough}
use Rattle.tmpl_schema.specs.computed.Check.{After, Known, State, after_nodes, end_parts, holds_loop, past, past_parts, pipeline_origin, pipeline_shape, settle_known, settle_soon}
use Rattle.tmpl_shape.specs.computed.View.{base_of, visit_seen}
use Rattle.tmpl_schema.specs.computed.View.{after_of, known_of, known_seen, origin_of, state_of, table_of, turn_by}
use Rattle.tmpl_schema.proofs.ControlLemmas.{range-control, range-is}
use Rattle.tmpl_schema.proofs.StepLemmas.{soon-settle_known}
use Rattle.tmpl_schema.proofs.node.+node.Goals as goal

pub settle_soon-returns : goal.settle_soon-returns
settle_soon-returns t c =
    let base = base_of c.args.checker.now.base in
    let turn = turn_by base c.args.checker.now.mode (table_of c.args.checker.now.table.now) (header_of c.args.turns.now.header.now)
    (visit_seen c.args.turns.now.visit.now) (origin_of c.args.turns.now.over.now) (nodes_in c.args.turns.now.body.now) in
    let same : settle_soon base turn (known_of c.args.known.now) ≡ settle_known base 12 turn (known_of c.in_ok-start.start) =
    soon-settle_known base turn (known_of c.args.known.now) ∙ ap (settle_known base 12 turn) (sym c.in_ok-start.ensures) in
    subst (λ (o : Option Known). IfOk c.settle.result (λ ks. o ≡ Some (known_of ks))) (sym same) c.settle.ensures

pub after_range-returns : goal.after_range-returns
after_range-returns t c =
    let base = base_of c.args.checker.now.base in
    let table = table_of c.args.checker.now.table.now in
    let loop = known_seen c.args.head in
    let k = state_of c.args.state.now in
    let body = nodes_in c.args.parts.now.body.now in
    let other = nodes_in c.args.parts.now.other.now in
    let m = c.args.checker.now.mode in
    let h = header_of c.args.parts.now.header.now in
    let two : after_nodes base m table loop None k other ≡ Some (after_of c.in_ok-other.other) =
    subst (λ (i : State). after_nodes base m table loop None i other ≡ Some (after_of c.in_ok-other.other)) c.in_ok-outside.ensures c.in_ok-other.ensures in
    let head = known_of c.in_ok-settled_head.settled_head in
    let from : origin_of c.in_ok-over.over ≡ pipeline_origin k h.pipeline =
    subst (λ cs. origin_of c.in_ok-over.over ≡ pipeline_origin k (commands_in cs)) c.as_slice.ensures.value c.in_ok-over.ensures in
    let settled : after_of c.past-settled.result ≡ past head = c.past-settled.ensures in
    range-is base m table loop h k body other (shape_of c.args.shape.now) (visit_seen c.in_ok-visit.visit) (known_of c.in_ok-start.start) head
    (origin_of c.in_ok-over.over) (after_of c.in_ok-other.other) c.in_ok-visit.ensures c.in_ok-start.ensures from c.in_ok-settled_head.ensures two
    ∙ subst (λ (a : After). end_parts base (past_parts control.Range table body other) k.env a (after_of c.in_ok-other.other)
    ≡ Some (after_of c.in_ok-end_parts.field-0)) settled
    (subst (λ (w : FallThrough). end_parts base w k.env (after_of c.past-settled.result) (after_of c.in_ok-other.other)
    ≡ Some (after_of c.in_ok-end_parts.field-0)) c.past_parts-through.ensures c.in_ok-end_parts.ensures)

pub after_control-returns : goal.after_control-returns
after_control-returns t c =
    let base = base_of c.args.checker.now.base in
    let table = table_of c.args.checker.now.table.now in
    let loop = known_seen c.args.head in
    let k = state_of c.args.state.now in
    let m = c.args.checker.now.mode in
    let h = header_of (out-ControlNode c.args.control.now).header in
    let body = nodes_in c.as_slice.result.now in
    let other = nodes_in c.as_slice-2.result.now in
    let seen : control_of c.args.control.now ≡ control_node control.Range h body other = rw (control_of-fields c.args.control.now) (search rules) in
    let holds : holds_loop loop k.env ≡ true = search rules in
    let shape : pipeline_shape base m k h.pipeline ≡ Some (shape_of c.in_ok-shape.shape) = search rules in
    subst (λ (o : Option After). IfOk c.after_range.result (λ a. o ≡ Some (after_of a)))
    (sym (range-control base m table loop k (control_of c.args.control.now) h body other (shape_of c.in_ok-shape.shape) seen holds shape)) c.after_range.ensures
