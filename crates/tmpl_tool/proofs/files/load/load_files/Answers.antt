use Rattle.std.proofs.Common.{◌+◌, map, drop, subst, List, Bor, ◌∙◌}
use Rattle.std.proofs.lemmas.List.{drop_more}
use Rattle.tmpl_syntax.specs.View.{set_view}
use Rattle.tmpl_syntax.specs.computed.Parse.{parsed}
use Rattle.tmpl_meaning.proofs.ToldLemmas.{err_up, if_told, of_told}
use Rattle.tmpl_tool.specs.Source.{Asked, Bytes}
use Rattle.tmpl_tool.specs.Tool.{file_reads, load_each}
use Rattle.tmpl_tool.specs.Inputs.{ComesOf, stop_seen}
use Rattle.tmpl_tool.proofs.LoadLemmas.{ComesTo, all_come, one_more, stops_there}
use Rattle.tmpl_tool.proofs.files.load.load_files.Goals as goal

pub returns-in_err-load_file-clause-loads : goal.returns-in_err-load_file-clause-loads
returns-in_err-load_file-clause-loads g c =
    let names = c.args.names.now in
    let i = c.loop-name.name-index in
    let start = set_view c.args.set.now in
    let set = set_view c.loop-name.set in
    let inv = c.loop-name.invariant in
    let stop = c.in_err-load_file.field-0.0 in
    let before = g.S.Source.asked c.args.source.now in
    let between = g.S.Source.asked c.loop-name.source in
    let after = g.S.Source.asked c.load_file.new.source in
    if_told _ (g.S.Source.contents c.args.source.now) (λ files is.
    err_up (ComesOf (Asked before after) (λ fails. load_each parsed files fails 0 start (map (λ s. s.now) names))
    (λ fails. file_reads parsed files fails 0 start (map (λ s. s.now) names)) _) c.from_residual.result _ c.from_residual.ensures.1
    (stops_there before between after files start (map (λ s. s.now) names) i set _ (map (λ s. s.now) (drop (i + 1) names))
    (subst (λ (ns : List (Bor Bytes)). ComesTo (Asked before between) files start (map (λ s. s.now) names) i set (map (λ s. s.now) ns))
    (drop_more names i _ c.loop-name-test.true) (of_told _ _ files is inv.comes))
    (stop_seen stop) (of_told _ _ files (inv.contents ∙ is) c.in_err-load_file.ensures.loads)))

pub loop-name-preserved : goal.loop-name-preserved
loop-name-preserved g c =
    let names = c.args.names.now in
    let i = c.loop-name.name-index in
    let start = set_view c.args.set.now in
    let set = set_view c.loop-name.set in
    let inv = c.loop-name.invariant in
    let told = c.in_ok-load_file.ensures in
    let before = g.S.Source.asked c.args.source.now in
    let between = g.S.Source.asked c.loop-name.source in
    let after = g.S.Source.asked c.load_file.new.source in
    record {
      contents = told.contents ∙ inv.contents;
      failures = told.failed_reads ∙ inv.failures;
      hash = told.hash ∙ inv.hash;
      comes = if_told _ (g.S.Source.contents c.args.source.now) (λ files is.
          let loads = of_told _ _ files (inv.contents ∙ is) told.loads in
          one_more before between after files start (map (λ s. s.now) names) i set _ (map (λ s. s.now) (drop (i + 1) names))
          (subst (λ (ns : List (Bor Bytes)). ComesTo (Asked before between) files start (map (λ s. s.now) names) i set (map (λ s. s.now) ns))
          (drop_more names i _ c.loop-name-test.true) (of_told _ _ files is inv.comes))
          (set_view c.load_file.new.set) loads.0 loads.1);
    }

pub returns-clause-loads : goal.returns-clause-loads
returns-clause-loads g c =
    if_told _ (g.S.Source.contents c.args.source.now) (λ files is.
    all_come (g.S.Source.asked c.args.source.now) (g.S.Source.asked c.loop-name.source) files (set_view c.args.set.now) c.args.names.now
    c.loop-name.name-index (set_view c.loop-name.set) c.loop-name-test.false (of_told _ _ files is c.loop-name.invariant.comes))
