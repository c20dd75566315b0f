use Rattle.std.proofs.Common.{◌≡◌, drop}
use Rattle.tmpl_syntax.specs.computed.Frames.{with_names}
use Rattle.tmpl_syntax.specs.computed.Refusals.{names_held}
use Rattle.tmpl_syntax.specs.computed.View.{known_names}
use Rattle.tmpl_syntax.proofs.place.mend.declare_all.Given as goal

abbrev pub invariant-loop-name : goal.invariant-loop-name
invariant-loop-name l = with_names (known_names l.fn.names) (names_held l.declared).declares
    ≡ with_names (known_names l.names) (names_held (drop l.name-index l.declared)).declares
