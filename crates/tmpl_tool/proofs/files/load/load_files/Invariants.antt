use Rattle.std.proofs.Common.{◌≡◌, IfSome, map, drop}
use Rattle.tmpl_syntax.specs.View.{hash_view, set_view}
use Rattle.tmpl_tool.specs.Source.{Asked}
use Rattle.tmpl_tool.proofs.LoadLemmas.{ComesTo}
use Rattle.tmpl_tool.proofs.files.load.load_files.Given as goal

abbrev pub invariant-loop-name : goal.invariant-loop-name
invariant-loop-name g l = record {
  contents : g.S.Source.contents l.source ≡ g.S.Source.contents l.initial.source;
  failures : g.S.Source.failures l.source ≡ g.S.Source.failures l.initial.source;
  hash : hash_view l.set ≡ hash_view l.initial.set;
  comes : IfSome (g.S.Source.contents l.initial.source) (λ files.
      ComesTo (Asked (g.S.Source.asked l.initial.source) (g.S.Source.asked l.source)) files (set_view l.initial.set)
      (map (λ s. s.now) l.names) l.name-index (set_view l.set) (map (λ s. s.now) (drop l.name-index l.names)));
}
