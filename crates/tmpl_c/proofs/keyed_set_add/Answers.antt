use Rattle.tmpl_tool.specs.Tool.{Parse}
use Rattle.tmpl_tool.proofs.ParseLemmas.{for_each}
use Rattle.tmpl_c.specs.Filled.{buffer_seen, room}
use Rattle.tmpl_c.specs.Held.{Keeps, templates_in}
use Rattle.tmpl_c.specs.Passed.{pair_of, with_passed}
use Rattle.tmpl_c.proofs.keyed_set_add.Goals as goal

pub returns-clause-outcome : goal.returns-clause-outcome
returns-clause-outcome c parse is =
    let old = templates_in c.args.set.now.held in
    let new = templates_in c.add.new.kept.held in
    for_each (λ (p : Parse). Keeps (with_passed p old (pair_of c.args.file.now)) old new (room c.args.err.now) (buffer_seen c.add.new.err) c.add.result)
    c.add.ensures.outcome parse is
