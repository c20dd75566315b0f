use Rattle.std.proofs.Common.{rules, ◌≡◌, ◌+◌, ap, false, true, map, subst, drop, Some}
use Rattle.std.specs.Prelude.{Vec}
use Rattle.std.specs.declared.alloc.Global.{Global}
use Rattle.tmpl_syntax.specs.Examine.{IsLocated, is_at, is_unreadable}
use Rattle.tmpl_syntax.specs.Fault.{reason_of}
use Rattle.tmpl_syntax.specs.Refusals.{refused_seen}
use Rattle.tmpl_syntax.specs.declared.refused.Refused.{Refused}
use Rattle.tmpl_syntax.proofs.BegunLemmas.{each-more, started-at}
use Rattle.tmpl_syntax.proofs.ExamineLemmas.{Keeps, keeps-more, keeps-same, seen-more}
use Rattle.tmpl_syntax.proofs.refused.firsts.Goals as goal
use Rattle.tmpl_syntax.proofs.refused.firsts.Goals.{then-not-is_at+in_ok-refused_at+in_ok-push+else-is_unreadable, else-not-is_at}

pub returns-then-is_unreadable-clause-located : goal.returns-then-is_unreadable-clause-located
returns-then-is_unreadable-clause-located c =
    let bytes = c.args.bytes.now in
    each-more (IsLocated bytes) c.loop-found.told.items c.push.new.self.items _ c.in_ok-push.ensures.items c.loop-found.invariant.located
    (c.in_ok-refused_at.ensures.located bytes c.at-place.ensures.place c.at-place.ensures.start
    (started-at bytes c.args.all.now c.loop-found.found-index c.found-item.result c.requires c.loop-found-test.true c.found-item.is))

pub loop-found-preserved : goal.loop-found-preserved
loop-found-preserved c =
    let bytes = c.args.bytes.now in
    let all = c.args.all.now in
    let i = c.loop-found.found-index in
    let found = c.found-item.result in
    let seen = map refused_seen c.loop-found.told.items in
    let rest = drop (i + 1) all in
    elim c.if-not-is_at.branch [
      | then-not-is_at+in_ok-refused_at+in_ok-push+else-is_unreadable w ↦
          let none : is_at c.loop-found.last found.place ≡ false = search rules in
          let read : is_unreadable (reason_of found.kind) ≡ false = search rules in
          let told : c.if-not-is_at.told.items ≡ w.push.new.self.items = ap (λ (t : Vec Refused Global). t.items) w.told-is in record {
            keeps = rw told (subst (λ ss. Keeps all ss (Some found.place) rest)
                (seen-more c.loop-found.told.items w.push.new.self.items _ _ w.in_ok-push.ensures.items w.in_ok-refused_at.ensures.seen)
                (keeps-more all i found c.loop-found-test.true c.found-item.is seen c.loop-found.last c.loop-found.invariant.keeps none read));
            located = rw told (each-more (IsLocated bytes) c.loop-found.told.items w.push.new.self.items _ w.in_ok-push.ensures.items c.loop-found.invariant.located
                (w.in_ok-refused_at.ensures.located bytes w.at-place.ensures.place w.at-place.ensures.start
                (started-at bytes all i found c.requires c.loop-found-test.true c.found-item.is)));
            place = rw w.place-is w.at-place.ensures.place;
          }
      | else-not-is_at w ↦
          let some : is_at c.loop-found.last found.place ≡ true = search rules in
          let told : c.if-not-is_at.told.items ≡ c.loop-found.told.items = ap (λ (t : Vec Refused Global). t.items) w.told-is in record {
            keeps = rw told (keeps-same all i found c.loop-found-test.true c.found-item.is seen c.loop-found.last c.loop-found.invariant.keeps some);
            located = rw told c.loop-found.invariant.located;
            place = rw w.place-is c.loop-found.invariant.place;
          }
    ]
