use Rattle.std.proofs.Common.{◌∙◌, Err, ap, map, refl, rules, sym}
use Rattle.tmpl_syntax.specs.Fault.{open_at_end}
use Rattle.std.specs.Option.{option_map}
use Rattle.tmpl_syntax.specs.computed.View.{item_of, frame_of, frames_in, known_names, scopes_of}
use Rattle.tmpl_syntax.specs.Place.Role.{role_of, roles_of}
use Rattle.tmpl_syntax.proofs.CheckLemmas.{checked-fine, checked-open, checked-refused, checking-past, checking-refused, checking-start, item-at, role-here}
use Rattle.tmpl_syntax.proofs.place.check.check.Goals as goal

pub loop-item-preserved : goal.loop-item-preserved
unfolding scopes_of
loop-item-preserved c =
    checking-past (roles_of (map item_of c.args.items.now)) c.loop-item.item-index (scopes_of c.loop-item.scopes)
    (frames_in c.loop-item.stack.items) (role_of (item_of c.item-item.result))
    (role-here c.args.items.now c.loop-item.item-index c.item-item.result c.loop-item-test.true c.item-item.is) c.loop-item.invariant
    (option_map frame_of c.newest-outside.result) (known_names c.forget.new.names) c.newest-outside.ensures c.forget.ensures
    _ _ c.in_ok-take_in.ensures.names c.in_ok-take_in.ensures.frames (sym c.in_default.ensures)

pub loop-item-init : goal.loop-item-init
unfolding scopes_of
loop-item-init c =
    checking-start (roles_of (map item_of c.args.items.now)) (scopes_of c.new-scopes.result) (frames_in c.new-stack.result.items)
    c.new-scopes.ensures (ap frames_in c.new-stack.ensures.items)

pub returns-in-Some-clause-checked : goal.returns-in-Some-clause-checked
unfolding scopes_of
returns-in-Some-clause-checked c =
    let items = c.args.items.now in
    let i = c.loop-item.item-index in
    let x = c.item-item.result in
    checked-refused c.args.bytes.now (map item_of items) i (item_of x) _ _ _
    (item-at items i x c.loop-item-test.true c.item-item.is)
    (checking-refused (roles_of (map item_of items)) i (scopes_of c.loop-item.scopes)
    (frames_in c.loop-item.stack.items) (role_of (item_of x))
    (role-here items i x c.loop-item-test.true c.item-item.is) c.loop-item.invariant
    (option_map frame_of c.newest-outside.result) (known_names c.forget.new.names) c.newest-outside.ensures c.forget.ensures
    _ (sym c.in-Some.ensures)) refl c.kind.ensures.reason

pub returns-then-is_empty-clause-checked : goal.returns-then-is_empty-clause-checked
unfolding scopes_of
returns-then-is_empty-clause-checked c =
    checked-fine c.args.bytes.now c.args.items.now c.loop-item.item-index (scopes_of c.loop-item.scopes) c.loop-item.stack.items
    c.loop-item-test.false c.loop-item.invariant (let e = c.is_empty.ensures in let f = c.if-is_empty.true in search rules)

pub returns-clause-checked : goal.returns-clause-checked
unfolding scopes_of
returns-clause-checked c =
    checked-open c.args.bytes.now c.args.items.now c.loop-item.item-index (scopes_of c.loop-item.scopes) c.loop-item.stack.items
    c.loop-item-test.false c.loop-item.invariant (let e = c.is_empty.ensures in let f = c.if-is_empty.false in search rules)
    ∙ ap (λ line. Err (line, open_at_end)) (sym c.last_line.ensures)
