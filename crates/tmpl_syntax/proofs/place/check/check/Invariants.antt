use Rattle.std.proofs.Common.{map}
use Rattle.tmpl_syntax.specs.computed.View.{frames_in, item_of, scopes_of}
use Rattle.tmpl_syntax.specs.Place.Role.{roles_of}
use Rattle.tmpl_syntax.proofs.CheckLemmas.{IsChecking}
use Rattle.tmpl_syntax.proofs.place.check.check.Given as goal

abbrev pub invariant-loop-item : goal.invariant-loop-item
invariant-loop-item l = IsChecking (roles_of (map item_of l.items)) l.item-index (scopes_of l.scopes) (frames_in l.stack.items)
