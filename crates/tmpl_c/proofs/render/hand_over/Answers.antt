use Rattle.std.proofs.Common.{rules}
use Rattle.tmpl_c.proofs.GatherLemmas.{exact_rendered, full_rendered, refused_rendered}
use Rattle.tmpl_c.proofs.render.hand_over.Goals as goal

pub returns-then-code-eq7-clause-filled : goal.returns-then-code-eq7-clause-filled
returns-then-code-eq7-clause-filled c a holds = refused_rendered a _ _ _ holds _ _ _ _ c.hold.ensures.seen _ c.say_refused.ensures.said

pub returns-then-room-text-clause-filled : goal.returns-then-room-text-clause-filled
returns-then-room-text-clause-filled c a holds =
    full_rendered a _ _ _ holds _ _ _ _ c.hold.ensures.seen c.if-code-eq7.false (search rules) _ c.say_full.ensures.said

pub returns-clause-filled : goal.returns-clause-filled
returns-clause-filled c a holds = exact_rendered a _ _ _ holds _ _ _ _ c.hold.ensures.seen c.if-code-eq7.false (search rules) c.hold-2.ensures.seen
