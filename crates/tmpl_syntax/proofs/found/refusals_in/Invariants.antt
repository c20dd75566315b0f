use Rattle.std.proofs.Common.{◌≡◌, ◌++◌, All, drop, map}
use Rattle.tmpl_syntax.specs.computed.Begun.{IsStarted}
use Rattle.tmpl_syntax.specs.computed.Parse.{last_line}
use Rattle.tmpl_syntax.specs.computed.Refusals.{found_seen, refusals_from, refusals_in, site_of, standing}
use Rattle.tmpl_syntax.specs.Refusals.{show}
use Rattle.tmpl_syntax.proofs.found.refusals_in.Given as goal

abbrev pub invariant-loop-place : goal.invariant-loop-place
invariant-loop-place l = record {
  refused : map show (refusals_in (last_line l.bytes) (map site_of l.sites)) ≡ map found_seen l.found.items
      ++ map show (refusals_from (last_line l.bytes) l.place (standing l.stack.items l.scopes) (map site_of (drop l.place l.sites)));
  started : All (IsStarted l.bytes) l.found.items;
}
