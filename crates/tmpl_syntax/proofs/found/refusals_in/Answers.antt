use Rattle.std.proofs.Common.{map, ap, arith}
use Rattle.std.proofs.lemmas.List.Elements.{All-nil}
use Rattle.std.specs.Prelude.{reverse}
use Rattle.tmpl_syntax.specs.computed.Begun.{IsStarted}
use Rattle.tmpl_syntax.specs.computed.Parse.{last_line}
use Rattle.tmpl_syntax.specs.computed.Refusals.{refusals_in, site_of, standing}
use Rattle.tmpl_syntax.specs.Refusals.{show}
use Rattle.tmpl_syntax.specs.computed.View.{frame_of}
use Rattle.tmpl_syntax.proofs.BegunLemmas.{sited-at}
use Rattle.tmpl_syntax.proofs.RefusalLemmas.{found-past, found-start, found-end}
use Rattle.tmpl_syntax.proofs.found.refusals_in.Goals as goal

pub loop-place-preserved : goal.loop-place-preserved
loop-place-preserved c =
    let last = last_line c.args.bytes.now in record {
      refused = found-past last c.loop-place.place c.args.sites.now c.index-sites-place.result c.loop-place-test.true c.index-sites-place.is
          (map show (refusals_in last (map site_of c.args.sites.now))) c.loop-place.found.items c.take_in_site.new.found.items
          (standing c.loop-place.stack.items c.loop-place.scopes) (standing c.take_in_site.new.stack.items c.take_in_site.new.scopes)
          c.loop-place.invariant.refused c.in_ok-take_in_site.ensures.found c.in_ok-take_in_site.ensures.frames c.in_ok-take_in_site.ensures.names;
      started = c.in_ok-take_in_site.ensures.started c.args.bytes.now
          (sited-at c.args.bytes.now c.args.sites.now c.loop-place.place c.index-sites-place.result c.requires c.loop-place-test.true c.index-sites-place.is)
          c.loop-place.invariant.started;
    }

pub loop-place-init : goal.loop-place-init
loop-place-init c = record {
  refused = found-start (last_line c.args.bytes.now) c.args.sites.now c.new-found.result.items
      (standing c.new-stack.result.items c.new-scopes.result) c.new-found.ensures.items
      (ap (λ fs. map frame_of (reverse fs)) c.new-stack.ensures.items) c.new-scopes.ensures;
  started = rw c.new-found.ensures.items (All-nil (IsStarted c.args.bytes.now));
}

pub returns-clause-refused : goal.returns-clause-refused
returns-clause-refused c = found-end (last_line c.args.bytes.now) c.loop-place.place c.args.sites.now (omega arith)
    (map show (refusals_in (last_line c.args.bytes.now) (map site_of c.args.sites.now))) c.loop-place.found.items c.add_open.new.found.items
    (standing c.loop-place.stack.items c.loop-place.scopes) c.loop-place.invariant.refused c.in_ok-add_open.ensures.refused
