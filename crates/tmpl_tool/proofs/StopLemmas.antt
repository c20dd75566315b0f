-- For `tool` and `read_inputs`: the program stops, or goes on, as the definition does.
use Rattle.std.proofs.Common.{◌≡◌, ◌∙◌, ◌+◌, ◌++◌, ◌<◌, ℕ, Bool, true, false, List, [], length, Option, Some, None, Result, Ok, Err, ap}
use Rattle.std.proofs.Common.{append_assoc, refl, sym, subst, inl, inr, zero-add}
use Rattle.std.proofs.lemmas.List.{append-nil}
use Rattle.std.specs.Prelude.{nat_eq, option_map, option_to_list, if◌then◌else◌}
use Rattle.std.specs.Option.{option_map_or}
use Rattle.std.specs.Result.{result_map_both, result_ok}
use Rattle.tmpl_values.specs.Value.{Value}
use Rattle.tmpl_values.specs.Json.{not_json, not_whole}
use Rattle.tmpl_syntax.specs.Fault.{Reason, reason_of}
use Rattle.tmpl_syntax.specs.Set.{Template}
use Rattle.tmpl_syntax.specs.computed.Parse.{parsed}
use Rattle.tmpl_syntax.specs.declared.fault.ParseFault.{ParseFault}
use Rattle.tmpl_meaning.specs.Sink.{Told, Sunk, sunk}
use Rattle.tmpl_tool.specs.Words.{Wanted, words_request}
use Rattle.tmpl_tool.specs.Help.{asks_help}
use Rattle.tmpl_tool.specs.Source.{Asked, Bytes, Files}
use Rattle.tmpl_tool.specs.Outcome.{Says}
use Rattle.tmpl_tool.specs.Tool as tool
use Rattle.tmpl_tool.specs.Tool.{Failing, Follows, MadeOf, Observed, Parse, Early, answer_of, asked_by, data_found, data_wanted, file_reads}
use Rattle.tmpl_tool.specs.Tool.{load_each, no_read, stop_answer, stop_if, tool_answer, tool_reads}
use Rattle.tmpl_values.specs.Stage.{and_then}
use Rattle.tmpl_tool.specs.Inputs.{Counts, StopsAt, inputs_of, inputs_reads, said_of, stop_seen}
use Rattle.tmpl_tool.specs.computed.Load.{after_set, after_words, finish_wanted, render_wanted}
use Rattle.tmpl_tool.specs.declared.stop.Stop as held
use Rattle.tmpl_tool.specs.declared.stop.Stop.TheVariants as stop
use Rattle.tmpl_tool.proofs.LoadLemmas.{all_succeed, asked-append, nat_eq-add, other-above}
use Rattle.tmpl_tool.proofs.MessageLemmas.{nothing_out, nothing_put}

-- the data after a set
abbrev with_data : List Template → Result (Option Value) Early → Result (List Template × Option Value) Early
with_data set r = result_map_both (λ input. (set, input)) (λ s. s) r

-- what is read for the templates, and after them
abbrev template_reads : Files → Wanted → Failing → List Bytes
template_reads files w fails = file_reads parsed files fails 0 [] w.files

abbrev after_templates : Wanted → Result (List Template) Early → List Bytes
after_templates w r = option_map_or (λ set. option_to_list (data_wanted w)) (result_ok r) []

module _ (files : Files) (w : Wanted) where
  module _ (Made : List Bytes → Type 0) where
    -- where a template file stops the program nothing is read after it
    no_more : (fails : Failing) (s : Early) → load_each parsed files fails 0 [] w.files ≡ Err s → Made (template_reads files w fails)
        → Made (inputs_reads parsed files w fails)
    no_more fails s h made = rw (h, append-nil (template_reads files w fails)) made

    -- a template file stops the program
    pub load_stops : (s : Option Early) → StopsAt Made (λ fails. load_each parsed files fails 0 [] w.files) (template_reads files w) s
        → StopsAt Made (inputs_of parsed files w) (inputs_reads parsed files w) s
    load_stops None (front, rest, e, made) =
        let more = after_templates w (load_each parsed files no_read 0 [] w.files) in
        (front, rest ++ more, sym (append_assoc front rest more) ∙ ap (λ (names : List Bytes). names ++ more) e, made)
    load_stops (Some (tool.unread n)) (k, h, made) = (k, rw h refl, no_more (nat_eq k) (tool.unread n) h made)
    load_stops (Some s) h = (rw h.0 refl, no_more no_read s h.0 h.1)

  module _ (before between after : Option (List Bytes)) (set : List Template) (loads : load_each parsed files no_read 0 [] w.files ≡ Ok set)
      (asked : Asked before between (template_reads files w no_read)) where
    -- the set is to be printed, whatever the data is, and nothing more is read
    pub printed_next : w.print ≡ true → Asked between after []
        → (inputs_of parsed files w no_read ≡ Ok (set, None)) × Asked before after (inputs_reads parsed files w no_read)
    printed_next is more = (rw (loads, is) refl, rw (loads, is) (asked-append before between after (template_reads files w no_read) [] asked more))

    module _ (runs : w.print ≡ false) where
      -- the templates are read, and then what is read for the data
      after_files : Asked between after (option_to_list w.data_file) → Asked before after (template_reads files w no_read ++ option_to_list w.data_file)
      after_files more = asked-append before between after (template_reads files w no_read) (option_to_list w.data_file) asked more

      -- the data stops the program
      pub data_stops : (s : Option Early)
          → StopsAt (Asked between after) (λ fails. data_found files (fails 0) w.data_file) (λ fails. option_to_list w.data_file) s
          → StopsAt (Asked before after) (inputs_of parsed files w) (inputs_reads parsed files w) s
      data_stops None (front, rest, e, more) =
          let first = template_reads files w no_read in (
            first ++ front,
            rest,
            rw (loads, runs, append_assoc first front rest, e) refl,
            asked-append before between after first front asked more,
          )
      data_stops (Some (tool.unread n)) (k, h, more) =
          let size = length w.files in
          let fails : Failing = nat_eq (k + size) in
          let succeed : (j : ℕ) → j < size → fails (0 + j) ≡ false = λ j lt. other-above (0 + j) k size (subst (λ i. i < size) (sym (zero-add j)) lt) in
          let same = all_succeed files fails 0 [] w.files succeed in
          (k + size, rw (same.0, loads, runs, nat_eq-add k size, h) refl, rw (same.0, same.1, loads, runs) (after_files more))
      data_stops (Some s) h = (rw (loads, runs, h.0) refl, rw (loads, runs) (after_files h.1))

      -- nothing stops it
      pub nothing_stops : (input : Option Value) → data_found files false w.data_file ≡ Ok input → Asked between after (option_to_list w.data_file)
          → (inputs_of parsed files w no_read ≡ Ok (set, input)) × Asked before after (inputs_reads parsed files w no_read)
      nothing_stops input found more = (rw (loads, runs, found) refl, rw (loads, runs) (after_files more))

module _ (parse : Parse) (files : Files) (w : Wanted) where
  -- after the inputs stands what is done with them
  beyond : (b p : Bool) (set : List Template) (d : Option Bytes)
      → and_then (stop_if p (tool.printed set)) (λ u. and_then (data_found files b d) (render_wanted w set))
      ≡ and_then (with_data set (data_found files b (if p then None else d))) (λ i. and_then (stop_if p (tool.printed i.0)) (λ u. render_wanted w i.0 i.1))
  beyond b true set d = refl
  beyond b false set d = found (data_found files b d)
    where
      found : (r : Result (Option Value) Early) → and_then r (render_wanted w set) ≡ and_then (with_data set r) (λ i. render_wanted w i.0 i.1)
      found (Ok input) = refl
      found (Err s) = refl

  pub after_inputs : (fails : Failing) → after_words parse files w fails ≡ and_then (inputs_of parse files w fails) (λ i. finish_wanted w i.0 i.1)
  after_inputs fails = from (load_each parse files fails 0 [] w.files)
    where
      from : (r : Result (List Template) Early)
          → and_then r (after_set files fails w)
          ≡ and_then (and_then r (λ set. with_data set (data_found files (fails (length w.files)) (data_wanted w)))) (λ i. finish_wanted w i.0 i.1)
      from (Ok set) = beyond (fails (length w.files)) w.print set w.data_file
      from (Err s) = refl

  -- a stop at the inputs is the command's
  pub stops_after : (Made : List Bytes → Type 0) (s : Option Early) → StopsAt Made (inputs_of parse files w) (inputs_reads parse files w) s
      → StopsAt Made (after_words parse files w) (inputs_reads parse files w) s
  stops_after Made None h = h
  stops_after Made (Some (tool.unread n)) (k, h, made) = (k, rw (after_inputs (nat_eq k), h) refl, made)
  stops_after Made (Some s) h = (rw (after_inputs no_read, h.0) refl, h.1)

-- what is observed, one by one
abbrev observed : ℕ → ℕ → Option (List Bytes) → Option (List Bytes) → Sunk → Sunk → ℕ → Observed
observed was is before after out err code =
    record { failed_before = was; failed_after = is; asked_before = before; asked_after = after; out = out; err = err; code = code }

module _ (err : Sunk) (code : ℕ) where
  module _ (parse : Parse) (t : Told) (was is : ℕ) (before after : Option (List Bytes)) (w : Wanted) (files : Files) where
    abbrev Made : List Bytes → Type 0
    Made = Asked before after

    -- what is read, and what comes of it
    abbrev Comes : Type 0
    Comes = Follows (inputs_reads parse files w) (λ fails. answer_of (after_words parse files w fails)) (observed was is before after (sunk t t) err code)

    stops_at : (s : Early) → is ≡ was → (after_words parse files w no_read ≡ Err s) × Made (inputs_reads parse files w no_read)
        → code ≡ (stop_answer s).status → Says (stop_answer s).line err → (stop_answer s).text ≡ [] → Comes
    stops_at s counts (h, made) status says empty =
        inl (counts, inl made, rw (h, empty) (inl (nothing_put t, status, says)))

    refused_memory : is ≡ was → MadeOf Made (inputs_reads parse files w no_read) → code ≡ 7 → Says (said_of None).line err → Comes
    refused_memory counts made status says =
        inl (counts, inr (status, made), nothing_out (answer_of (after_words parse files w no_read)) t err code status says)

    refusal : (f : ParseFault) (why : Option Reason) → let o = option_map (λ r. tool.refused f.file.now (f.line, r)) why in is ≡ was
        → StopsAt Made (after_words parse files w) (inputs_reads parse files w) o → code ≡ (said_of o).status → Says (said_of o).line err → Comes
    refusal f None counts h status says = refused_memory counts h status says
    refusal f (Some r) counts h status says = stops_at (tool.refused f.file.now (f.line, r)) counts h status says refl

    -- the program stops, and says why
    pub stops : (s : held.Stop) → Counts {T = ℕ} was is (Err s) → StopsAt Made (after_words parse files w) (inputs_reads parse files w) (stop_seen s)
        → code ≡ (said_of (stop_seen s)).status → Says (said_of (stop_seen s)).line err → Comes
    stops (stop.NotFound m) counts h status says = stops_at (tool.not_found m.now) counts h status says refl
    stops (stop.Failed m) counts (k, h, made) status says =
        inr (k, (counts, rw h refl, made, rw h (inl (nothing_put t, status, says))))
    stops (stop.Template f) counts h status says = refusal f (reason_of f.kind) counts h status says
    stops (stop.NotJson m) counts h status says = stops_at (tool.flawed m.now not_json) counts h status says refl
    stops (stop.NotWhole m) counts h status says = stops_at (tool.flawed m.now not_whole) counts h status says refl
    stops stop.OutOfMemory counts h status says = refused_memory counts h status says

  module _ (parse : Parse) (out : Sunk) (was is : ℕ) (before after : Option (List Bytes)) (w : Wanted) (files : Files) where
    -- the words are accepted, and the program goes on
    pub accepted : (words : List Bytes) → asked_by words ≡ Ok w
        → Follows (inputs_reads parse files w) (λ fails. answer_of (after_words parse files w fails)) (observed was is before after out err code)
        → Follows (tool_reads parse words files) (tool_answer parse words files) (observed was is before after out err code)
    accepted words asked h =
        subst (λ r. Follows (λ fails. option_map_or (λ w. inputs_reads parse files w fails) (result_ok r) [])
        (λ fails. answer_of (and_then r (λ w. after_words parse files w fails))) (observed was is before after out err code)) (sym asked) h

-- words that are taken
pub asks : (words : List Bytes) (w : Wanted) → words_request words ≡ Some w → asks_help words ≡ false → asked_by words ≡ Ok w
asks words w asked helps = rw (helps, asked) refl
