use Rattle.std.proofs.Common.{◌≡◌, ◌∙◌, map, rules, [], List, Bor, None, Result, Ok, Err, IfSome}
use Rattle.std.specs.Option.{option_map}
use Rattle.tmpl_values.specs.View.{value_of}
use Rattle.tmpl_syntax.specs.Set.{Template}
use Rattle.tmpl_syntax.specs.View.{set_view}
use Rattle.tmpl_syntax.specs.computed.Parse.{parsed}
use Rattle.tmpl_meaning.proofs.ToldLemmas.{err_up, if_told, of_told}
use Rattle.tmpl_tool.specs.Source.{Asked, Bytes, Files}
use Rattle.tmpl_tool.specs.declared.stop.Stop.{Stop}
use Rattle.tmpl_tool.specs.Tool.{Parse, file_reads, load_each, no_read}
use Rattle.tmpl_tool.specs.View.{request_seen}
use Rattle.tmpl_tool.specs.Inputs.{ComesOf, inputs_of, inputs_reads, inputs_seen, stop_seen}
use Rattle.tmpl_tool.proofs.LoadLemmas.{asked-nothing}
use Rattle.tmpl_tool.proofs.ParseLemmas.{for_each}
use Rattle.tmpl_tool.proofs.StopLemmas.{data_stops, load_stops, nothing_stops, printed_next}
use Rattle.tmpl_tool.proofs.files.inputs.read_inputs.Goals as goal

-- the templates of FILEs, which are given as a slice, and what is read for them
loads_as : (Made : List Bytes → Type 0) (files : Files) (old : List Template) (given names : List (Bor Bytes)) (set : List Template)
    (r : Result (Unit {0}) Stop) → old ≡ [] → given ≡ names
    → ComesOf Made (λ fails. load_each parsed files fails 0 old (map (λ s. s.now) given)) (λ fails. file_reads parsed files fails 0 old (map (λ s. s.now) given))
    (λ u. set) r
    → ComesOf Made (λ fails. load_each parsed files fails 0 [] (map (λ s. s.now) names)) (λ fails. file_reads parsed files fails 0 [] (map (λ s. s.now) names))
    (λ u. set) r
loads_as Made files old given names set r none same h = rw (none, same) at h

pub returns-in_err-load_files-clause-follows_files : goal.returns-in_err-load_files-clause-follows_files
returns-in_err-load_files-clause-follows_files g c =
    let w = request_seen c.args.request.now in
    let Made = Asked (g.S.Source.asked c.args.source.now) (g.S.Source.asked c.load_files.new.source) in
    for_each (λ parse. IfSome (g.S.Source.contents c.args.source.now) (λ files. ComesOf Made (inputs_of parse files w) (inputs_reads parse files w) inputs_seen
    _)) (
    let stop = c.in_err-load_files.field-0.0 in
    if_told _ (g.S.Source.contents c.args.source.now) (λ files told.
    let stops = loads_as Made files _ _ _ [] (Err stop) c.with_hash-set.ensures.empty c.as_slice.ensures.value
    (of_told _ _ files told c.in_err-load_files.ensures.loads) in
    err_up (ComesOf Made (inputs_of parsed files w) (inputs_reads parsed files w) inputs_seen) c.from_residual.result _ c.from_residual.ensures.1
    (load_stops files w Made (stop_seen stop) stops)))

pub returns-in_err-data-clause-follows_files : goal.returns-in_err-data-clause-follows_files
returns-in_err-data-clause-follows_files g c =
    let w = request_seen c.args.request.now in
    let before = g.S.Source.asked c.args.source.now in
    let between = g.S.Source.asked c.load_files.new.source in
    let after = g.S.Source.asked c.read_data.new.source in
    for_each (λ parse. IfSome (g.S.Source.contents c.args.source.now) (λ files.
    ComesOf (Asked before after) (inputs_of parse files w) (inputs_reads parse files w) inputs_seen _)) (
    let set = set_view c.load_files.new.set in
    let stop = c.in_err-data.field-0.0 in
    if_told _ (g.S.Source.contents c.args.source.now) (λ files told.
    let loads = loads_as (Asked before between) files _ _ _ set (Ok tt) c.with_hash-set.ensures.empty c.as_slice.ensures.value
    (of_told _ _ files told c.in_ok-load_files.ensures.loads) in
    let stops = of_told _ _ files (c.in_ok-load_files.ensures.contents ∙ told) c.in_err-data.ensures.follows_files in
    err_up (ComesOf (Asked before after) (inputs_of parsed files w) (inputs_reads parsed files w) inputs_seen) c.from_residual-in_err-data.result _
    c.from_residual-in_err-data.ensures.1
    (data_stops files w before between after set loads.0 loads.1 (search rules) (stop_seen stop) stops)))

pub returns-clause-follows_files : goal.returns-clause-follows_files
returns-clause-follows_files g c parse is =
    let w = request_seen c.args.request.now in
    let set = set_view c.load_files.new.set in
    let input = option_map value_of c.in_ok-data.data in
    let before = g.S.Source.asked c.args.source.now in
    let between = g.S.Source.asked c.load_files.new.source in
    let after = g.S.Source.asked c.read_data.new.source in
    if_told _ (g.S.Source.contents c.args.source.now) (λ files told.
    let loads = loads_as (Asked before between) files _ _ _ set (Ok tt) c.with_hash-set.ensures.empty c.as_slice.ensures.value
    (of_told _ _ files told c.in_ok-load_files.ensures.loads) in
    let found = of_told _ _ files (c.in_ok-load_files.ensures.contents ∙ told) c.in_ok-data.ensures.follows_files in
    for_each (λ (p : Parse). (inputs_of p files w no_read ≡ Ok (set, input)) × Asked before after (inputs_reads p files w no_read))
    (nothing_stops files w before between after set loads.0 loads.1 (search rules) input found.0 found.1)
    parse is)

pub returns-then-request-clause-follows_files : goal.returns-then-request-clause-follows_files
returns-then-request-clause-follows_files g c parse is =
    let w = request_seen c.args.request.now in
    let set = set_view c.load_files.new.set in
    let before = g.S.Source.asked c.args.source.now in
    let between = g.S.Source.asked c.load_files.new.source in
    if_told _ (g.S.Source.contents c.args.source.now) (λ files told.
    let loads = loads_as (Asked before between) files _ _ _ set (Ok tt) c.with_hash-set.ensures.empty c.as_slice.ensures.value
    (of_told _ _ files told c.in_ok-load_files.ensures.loads) in
    for_each (λ (p : Parse). (inputs_of p files w no_read ≡ Ok (set, None)) × Asked before between (inputs_reads p files w no_read))
    (printed_next files w before between between set loads.0 loads.1 (search rules) (asked-nothing between))
    parse is)
