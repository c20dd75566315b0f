use Rattle.std.proofs.Common.{rules, ◌≡◌, true, Option, Some}
use Rattle.tmpl_syntax.specs.Set.{tree_named}
use Rattle.tmpl_syntax.specs.Tree.{Tree}
use Rattle.tmpl_syntax.specs.View.{set_view, tree_of}
use Rattle.tmpl_shape.specs.View.{shape_of}
use Rattle.tmpl_schema.specs.computed.Check.{is_safe}
use Rattle.tmpl_schema.specs.computed.Safe.{EachCallee, mode_for}
use Rattle.tmpl_shape.specs.computed.View.{base_of}
use Rattle.tmpl_schema.specs.computed.View.{entries_of, table_of}
use Rattle.tmpl_schema.proofs.AcceptLemmas.{all-accepted}
use Rattle.tmpl_schema.proofs.check.check_all.Goals as goal

pub returns-in_ok-check_callees-in-Some : goal.returns-in_ok-check_callees-in-Some
returns-in_ok-check_callees-in-Some c =
    let base = base_of c.args.base.now in
    let q = c.args.question.now in
    let asked = q.asked in
    let set = set_view q.set.now in
    let es = c.args.table.now in
    let t = tree_of c.in-Some.tree.now in
    let s = shape_of q.shape.now in
    let named : ◌≡◌ {A = Option Tree} (Some t) (tree_named q.name.now set) = search rules in
    let safe : is_safe base (mode_for asked) (table_of es) s t.nodes ≡ true = search rules in
    let each : EachCallee base (mode_for asked) q.stops.now set (table_of es) (entries_of es) = search rules in
    all-accepted base asked q.stops.now set es q.name.now s t named safe each
