use Rattle.std.proofs.Common.{Option, subst}
use Rattle.tmpl_syntax.specs.Parse.{most_bytes}
use Rattle.tmpl_syntax.specs.View.{set_view}
use Rattle.tmpl_meaning.proofs.ToldLemmas.{if_told}
use Rattle.tmpl_tool.specs.Source.{Asked, Files, TellsFront}
use Rattle.tmpl_tool.proofs.LoadLemmas.{file_comes}
use Rattle.tmpl_tool.proofs.files.load.load_file.Goals as goal

pub returns-in-Ok-clause-loads : goal.returns-in-Ok-clause-loads
returns-in-Ok-clause-loads g c =
    let name = c.args.name.now in
    let bytes = c.in-Ok.bytes.items in
    let set = set_view c.args.set.now in
    let new = set_view c.add_file.new.set in
    if_told _ (g.S.Source.contents c.args.source.now) (λ files told.
    file_comes (Asked (g.S.Source.asked c.args.source.now) (g.S.Source.asked c.read_up_to.new.self)) files set name bytes new
    (subst (λ (o : Option Files). TellsFront most_bytes o name bytes) told c.in-Ok.ensures.read.1) c.in-Ok.ensures.asked
    c.add_file.result c.add_file.ensures.adds)
