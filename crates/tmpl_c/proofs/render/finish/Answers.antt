use Rattle.tmpl_c.proofs.render.finish.Goals as goal

pub returns-clause-filled : goal.returns-clause-filled
returns-clause-filled c a comes =
    let given = c.conclude-status.ensures a comes in
    (given.0, given.1, c.hand_over.ensures.filled given.0 (rw (c.as_slice.ensures.value, c.as_slice-2.ensures.value) given.2))
