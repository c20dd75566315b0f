use Rattle.tmpl_problems.proofs.PositionLemmas.{start_after}
use Rattle.tmpl_problems.proofs.position.after_space.Goals as goal

pub returns-then-start-bytes-clause-start : goal.returns-then-start-bytes-clause-start
returns-then-start-bytes-clause-start c = start_after c.args.bytes.now c.args.start c.space_len.result c.if-start-bytes.true c.space_len.ensures.value
