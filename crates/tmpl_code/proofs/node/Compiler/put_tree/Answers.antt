use Rattle.std.proofs.Common.{rules}
use Rattle.std.proofs.lemmas.Result.{IfOk-weaker}
use Rattle.tmpl_syntax.specs.View.{nodes_in, set_view}
use Rattle.tmpl_code.specs.Code.{TreeAt}
use Rattle.tmpl_code.specs.computed.Held.{Placed}
use Rattle.tmpl_code.proofs.TailLemmas.{ends_both}
use Rattle.tmpl_code.proofs.node.Compiler.put_tree.Goals as goal

pub returns-clause-put : goal.returns-clause-put
returns-clause-put c =
    let a = c.args in
    let nodes = c.in_ok-put_surveyed.ensures.put in
    IfOk-weaker _ _ (λ s. Placed (TreeAt (set_view a.set.now) (nodes_in a.nodes.now)) a.self.now.code c.put_surveyed.new.self.code)
    (λ s told. record { code = search rules; ends = ends_both nodes.ends c.in_ok-push_before.ensures.ends }) c.above.ensures
