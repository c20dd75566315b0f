-- What the code that looks for copy loops holds.
use Rattle.std.specs.Prelude.{Bool}
use Rattle.tmpl_grammar.specs.Tree.{Header, Pipeline}
use Rattle.tmpl_syntax.specs.Tree as tree
use Rattle.tmpl_syntax.specs.Tree.{NodeKind, Nodes}
use Rattle.tmpl_syntax.specs.View.{set_view}
use Rattle.tmpl_shape.specs.computed.View.{base_of}
use Rattle.tmpl_loops.specs.computed.Find.{names_of}
use Rattle.tmpl_loops.specs.computed.View.{parts_seen}
use Rattle.tmpl_schema.specs.computed.Loops.{Acts, EndsWell, HasValue}
use Rattle.tmpl_schema.specs.computed.View.{state_of}
use Rattle.tmpl_schema.specs.declared.loops.Judge.{Judge}

abbrev pub EndsIn : Judge → Nodes → Bool → Bool → Type 0
EndsIn j ns kept anew =
    let p = parts_seen j.parts.now in
    EndsWell (base_of j.base.now) (set_view j.set.now) j.stops.now (names_of p) p.byte (state_of j.state.now) ns kept anew

abbrev pub HasValueIn : Judge → Pipeline → Type 0
HasValueIn j p =
    let q = parts_seen j.parts.now in
    HasValue (base_of j.base.now) (set_view j.set.now) j.stops.now (names_of q) q.byte (state_of j.state.now) p

abbrev pub ActsIn : Judge → Header → Nodes → Bool → Bool → Type 0
ActsIn j h rest kept anew =
    let p = parts_seen j.parts.now in
    Acts (base_of j.base.now) (set_view j.set.now) j.stops.now (names_of p) p.byte (state_of j.state.now)
    h.binding h.pipeline kept anew (EndsIn j rest)

-- a control before other nodes
abbrev pub ChoosesIn : Judge → NodeKind → Nodes → Bool → Bool → Type 0
ChoosesIn j x rest kept anew = EndsIn j (tree.then 0 x rest) kept anew
