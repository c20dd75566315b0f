use Rattle.std.proofs.Common.{◌∙◌, ap, map, subst, sym}
use Rattle.tmpl_syntax.specs.Set.{without_nodes}
use Rattle.tmpl_syntax.specs.View.{set_view}
use Rattle.tmpl_syntax.specs.declared.set.Set.{Set}
use Rattle.tmpl_code.specs.Code.{Starts}
use Rattle.tmpl_code.specs.View.{instructions_of}
use Rattle.tmpl_code.proofs.compiler.parts_of.Goals as goal

pub returns-clause-linked : goal.returns-clause-linked
returns-clause-linked c =
    let code = instructions_of c.args.tables c.args.instructions.items in
    subst (λ (s : Set). Starts (set_view s) (set_view s) c.args.starts.items code) (sym c.of.ensures) c.requires

pub returns-clause-outline : goal.returns-clause-outline
returns-clause-outline c =
    c.in_ok-outline.ensures.value ∙ ap (λ (s : Set). map without_nodes (set_view s)) (sym c.of.ensures)

pub returns-clause-set : goal.returns-clause-set
returns-clause-set c = ap set_view c.of.ensures
