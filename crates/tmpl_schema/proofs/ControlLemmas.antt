-- For code on controls: what is known after one, by what is known after its parts.
use Rattle.std.proofs.Common.{◌≡◌, true, false, Option, Some, None, refl, subst}
use Rattle.tmpl_grammar.specs.Tree.{Header}
use Rattle.tmpl_grammar.specs.declared.tree.Control.{Control}
use Rattle.tmpl_grammar.specs.declared.tree.Control.TheVariants as control
use Rattle.tmpl_syntax.specs.Tree.{NodeKind, Nodes, control_node}
use Rattle.tmpl_meaning.specs.declared.missing_key.MissingKey.{MissingKey}
use Rattle.tmpl_shape.specs.Shape.{Shape}
use Rattle.tmpl_shape.specs.computed.Shapes.{Base, Visit, visit_of}
use Rattle.tmpl_schema.specs.computed.Check.{After, Known, Origin, State, Table, end_parts, past, past_parts, after_node, after_nodes, at_head, fall_through, holds_loop, in_body, in_part, settle_soon, pipeline_origin, pipeline_shape}
use Rattle.tmpl_schema.specs.computed.View.{after_choice_by, after_range_by, turn_by}

module _ (base : Base) (m : MissingKey) (table : Table) (loop : Option Known) (h : Header) (k : State) (body other : Nodes) where
  pub choice-after : (c : Control) (s : Shape) (one two a : After) → after_nodes base m table loop None (in_body base c h k s) body ≡ Some one
      → after_nodes base m table loop None (in_part base false h k s) other ≡ Some two
      → end_parts base (fall_through table body other) k.env one two ≡ Some a → after_choice_by base m table loop c h k body other s ≡ Some a
  choice-after c s one two a is_one is_two e = rw (is_one, is_two) e

  pub range-is : (s : Shape) (v : Visit) (start head : Known) (over : Origin) (two : After) → visit_of base h.binding s ≡ Some v → start ≡ at_head base h k
      → over ≡ pipeline_origin k h.pipeline → settle_soon base (turn_by base m table h v over body) start ≡ Some head
      → after_nodes base m table loop None k other ≡ Some two
      → after_range_by base m table loop h k body other s ≡ end_parts base (past_parts control.Range table body other) k.env (past head) two
  range-is s v start head over two visit is from a b =
      let o : Origin = pipeline_origin k h.pipeline in
      let there : settle_soon base (turn_by base m table h v o body) start ≡ Some head =
      subst (λ (i : Origin). settle_soon base (turn_by base m table h v i body) start ≡ Some head) from a in
      let found : settle_soon base (turn_by base m table h v o body) (at_head base h k) ≡ Some head =
      subst (λ (i : Known). settle_soon base (turn_by base m table h v o body) i ≡ Some head) is there in rw visit (rw (found, b) refl)

module _ (base : Base) (m : MissingKey) (table : Table) (loop : Option Known) (k : State) where
  pub range-control : (n : NodeKind) (h : Header) (body other : Nodes) (s : Shape) → n ≡ control_node control.Range h body other
      → holds_loop loop k.env ≡ true → pipeline_shape base m k h.pipeline ≡ Some s
      → after_node base m table loop k n ≡ after_range_by base m table loop h k body other s
  range-control n h body other s is holds shape = rw is (rw (holds, shape) refl)

pub ruleset choices = (choice-after)
