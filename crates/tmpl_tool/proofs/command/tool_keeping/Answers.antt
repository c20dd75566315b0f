use Rattle.std.proofs.Common.{◌≡◌, ◌∙◌, [], ap, refl, sym, subst, map, rules, false, true, inl, inr, IfSome, Ok}
use Rattle.std.specs.Result.{result_ok}
use Rattle.std.specs.String.{string_bytes}
use Rattle.std.specs.Option.{option_map}
use Rattle.tmpl_values.specs.View.{value_of}
use Rattle.tmpl_meaning.specs.Sink.{sunk}
use Rattle.tmpl_meaning.proofs.ToldLemmas.{if_told, of_told}
use Rattle.tmpl_tool.specs.Help.{asks_help}
use Rattle.tmpl_tool.specs.Inputs.{inputs_of, inputs_seen, stop_seen}
use Rattle.tmpl_tool.specs.Tool.{no_read, tool_answer, tool_reads}
use Rattle.tmpl_tool.specs.declared.status.Status.{Status}
use Rattle.tmpl_tool.specs.View.{request_seen}
use Rattle.tmpl_tool.proofs.LoadLemmas.{asked-nothing}
use Rattle.tmpl_tool.proofs.MessageLemmas.{nothing_out}
use Rattle.tmpl_tool.proofs.StageLemmas.{gives_help}
use Rattle.tmpl_tool.proofs.StopLemmas.{accepted, after_inputs, asks, stops, stops_after}
use Rattle.tmpl_tool.proofs.command.tool_keeping.Goals as goal

pub returns-then-asks_help-clause-matches_spec : goal.returns-then-asks_help-clause-matches_spec
returns-then-asks_help-clause-matches_spec g c parse is =
    let words = map (λ word. string_bytes word) c.args.words.now in
    let helps : asks_help words ≡ true = search rules in
    let asked = g.S.Source.asked c.args.source.now in
    if_told _ (g.S.Source.contents c.args.source.now) (λ files told.
    inl (refl, inl (rw helps (asked-nothing asked)), rw (c.end_with.ensures.status, gives_help parse words files no_read helps) c.put_out.ensures.gives.outcome))

pub returns-in-Ok-read_inputs-clause-matches_spec : goal.returns-in-Ok-read_inputs-clause-matches_spec
returns-in-Ok-read_inputs-clause-matches_spec g c parse is =
    let words = map (λ word. string_bytes word) c.args.words.now in
    let helps : asks_help words ≡ false = search rules in
    let w = request_seen c.in-Ok.request in
    let inputs = c.in-Ok-read_inputs.inputs in
    let same : option_map (λ d. value_of d.now) c.as_ref.result ≡ option_map value_of inputs.data = search rules in
    if_told _ (g.S.Source.contents c.args.source.now) (λ files told.
    let reads = of_told _ _ files told (c.in-Ok-read_inputs.ensures.follows_files parse is) in
    let source = g.S.Source.failures in
    let asked = g.S.Source.asked in
    let out = sunk (g.O.Sink.so_far c.args.out.now) (g.O.Sink.so_far c.answer.new.out) in
    let err = sunk (g.E.Sink.so_far c.args.err.now) (g.E.Sink.so_far c.answer.new.err) in
    accepted err c.answer.result.code parse out (source c.args.source.now) (source c.read_inputs.new.source) (asked c.args.source.now)
    (asked c.read_inputs.new.source) w files words (asks words w c.in-Ok.ensures helps)
    (inl (
      c.in-Ok-read_inputs.ensures.failed_reads,
      inl reads.1,
      rw (after_inputs parse files w no_read, reads.0, sym same) c.answer.ensures.outcome,
    )))

pub returns-in-Ok-read_inputs-clause-inputs : goal.returns-in-Ok-read_inputs-clause-inputs
returns-in-Ok-read_inputs-clause-inputs g c =
    let words = map (λ word. string_bytes word) c.args.words.now in
    let helps : asks_help words ≡ false = search rules in
    let w = request_seen c.in-Ok.request in
    let inputs = c.in-Ok-read_inputs.inputs in (
      c.in-Ok-read_inputs.ensures.hash,
      λ parse is. if_told _ (g.S.Source.contents c.args.source.now) (λ files told.
          let reads = of_told _ _ files told (c.in-Ok-read_inputs.ensures.follows_files parse is) in
          subst (λ r. IfSome (result_ok r) (λ v. inputs_of parse files v no_read ≡ Ok (inputs_seen inputs))) (sym (asks words w c.in-Ok.ensures helps)) reads.0),
    )

pub returns-in-Ok-clause-matches_spec : goal.returns-in-Ok-clause-matches_spec
returns-in-Ok-clause-matches_spec g c parse is =
    let words = map (λ word. string_bytes word) c.args.words.now in
    let helps : asks_help words ≡ false = search rules in
    let w = request_seen c.in-Ok.request in
    if_told _ (g.S.Source.contents c.args.source.now) (λ files told.
    let source = g.S.Source.failures in
    let asked = g.S.Source.asked in
    let out = g.O.Sink.so_far c.args.out.now in
    let err = sunk (g.E.Sink.so_far c.args.err.now) (g.E.Sink.so_far c.refuse.new.err) in
    let code = c.end_with-in-Err.result.status.code in
    accepted err code parse (sunk out out) (source c.args.source.now) (source c.read_inputs.new.source) (asked c.args.source.now)
    (asked c.read_inputs.new.source) w files words (asks words w c.in-Ok.ensures helps)
    (stops err code parse out (source c.args.source.now) (source c.read_inputs.new.source) (asked c.args.source.now)
    (asked c.read_inputs.new.source) w files c.in-Err.stop c.in-Err.ensures.failed_reads
    (stops_after parse files w _ (stop_seen c.in-Err.stop) (of_told _ _ files told (c.in-Err.ensures.follows_files parse is)))
    (ap (λ (s : Status). s.code) c.end_with-in-Err.ensures.status ∙ c.refuse.ensures.code) c.refuse.ensures.line))

pub returns-clause-matches_spec : goal.returns-clause-matches_spec
returns-clause-matches_spec g c parse is =
    let words = map (λ word. string_bytes word) c.args.words.now in
    let err = sunk (g.E.Sink.so_far c.args.err.now) (g.E.Sink.so_far c.out_of_memory.new.err) in
    let asked = g.S.Source.asked c.args.source.now in
    if_told _ (g.S.Source.contents c.args.source.now) (λ files told.
    let status : c.end_with-in-Err-OutOfMemory.result.status.code ≡ 7 =
    ap (λ (s : Status). s.code) c.end_with-in-Err-OutOfMemory.ensures.status ∙ c.out_of_memory.ensures.code in
    inl (
      refl,
      inr (status, ([], tool_reads parse words files no_read, refl, asked-nothing asked)),
      nothing_out (tool_answer parse words files no_read) (g.O.Sink.so_far c.args.out.now) err c.end_with-in-Err-OutOfMemory.result.status.code status
          c.out_of_memory.ensures.line,
    ))
