-- What the command needs of the files, and what is answered of it.
use Rattle.std.specs.Prelude.{◌≡◌, ◌+◌, ◌++◌, ℕ, nat_eq, List, [], Option, Some, None, Result, Ok, Err, length}
use Rattle.std.specs.Prelude.{option_map, option_to_list, IfSome}
use Rattle.std.specs.Option.{option_map_or}
use Rattle.std.specs.Result.{result_map_both, result_ok}
use Rattle.tmpl_values.specs.Json.{not_json, not_whole}
use Rattle.tmpl_values.specs.Value.{Value}
use Rattle.tmpl_values.specs.View.{value_of}
use Rattle.tmpl_syntax.specs.Set.{Template}
use Rattle.tmpl_syntax.specs.Parse.{Refusal}
use Rattle.tmpl_syntax.specs.View.{set_view}
use Rattle.tmpl_syntax.specs.Fault.{reason_of}
use Rattle.tmpl_syntax.specs.declared.fault.ParseFault.{ParseFault}
use Rattle.tmpl_tool.specs.Outcome.{Answer, memory_line}
use Rattle.tmpl_tool.specs.Source.{Asked, Bytes, Files}
use Rattle.tmpl_tool.specs.Tool.{Failing, MadeOf, Parse, Early, data_found, data_wanted, file_reads, flawed, load_each}
use Rattle.tmpl_tool.specs.Tool.{no_read}
use Rattle.tmpl_tool.specs.Tool.{not_found, only_line, refused, stop_answer, unread}
use Rattle.tmpl_values.specs.Stage.{and_then}
use Rattle.tmpl_tool.specs.Words.{Wanted}
use Rattle.tmpl_tool.specs.declared.files.inputs.Inputs.{Inputs}
use Rattle.tmpl_tool.specs.declared.stop.Stop as held
use Rattle.tmpl_tool.specs.declared.stop.Stop.TheVariants as stop

-- the set of all FILEs, and then the data of a run
abbrev pub inputs_of : Parse → Files → Wanted → Failing → Result (List Template × Option Value) Early
inputs_of parse files w fails = and_then (load_each parse files fails 0 [] w.files) (λ set.
    result_map_both (λ input. (set, input)) (λ s. s) (data_found files (fails (length w.files)) (data_wanted w)))

-- .. and the files that are read for that
abbrev pub inputs_reads : Parse → Files → Wanted → Failing → List Bytes
inputs_reads parse files w fails = file_reads parse files fails 0 [] w.files
    ++ option_map_or (λ set. option_to_list (data_wanted w)) (result_ok (load_each parse files fails 0 [] w.files)) []

-- ---- what is held

abbrev pub inputs_seen : Inputs → List Template × Option Value
inputs_seen inputs = (set_view inputs.set, option_map value_of inputs.data)

-- the refusal of a template file; one for out of memory is none
abbrev pub refusal_seen : ParseFault → Option Early
refusal_seen f = option_map (λ why. refused f.file.now (f.line, why)) (reason_of f.kind)

abbrev pub stop_seen : held.Stop → Option Early
stop_seen (stop.NotFound name) = Some (not_found name.now)
stop_seen (stop.Failed name) = Some (unread name.now)
stop_seen (stop.Template f) = refusal_seen f
stop_seen (stop.NotJson name) = Some (flawed name.now not_json)
stop_seen (stop.NotWhole name) = Some (flawed name.now not_whole)
stop_seen stop.OutOfMemory = None

-- the message of a stop, or of out of memory
abbrev pub said_of : Option Early → Answer
said_of None = record (only_line 7 []) { line = memory_line }
said_of (Some s) = stop_answer s

-- ---- what is answered

-- a stage stops so, with such reads made: where just one read fails, if the stop is at that, and else where none does
abbrev pub StopsAt : {T : Type 0} → (List Bytes → Type 0) → (Failing → Result T Early) → (Failing → List Bytes)
    → Option Early → Type 0
StopsAt Made stage reads None = MadeOf Made (reads no_read)
StopsAt Made stage reads (Some (unread name)) =
    (k : ℕ) × (stage (nat_eq k) ≡ Err (unread name)) × Made (reads (nat_eq k))
StopsAt Made stage reads (Some s) = (stage no_read ≡ Err s) × Made (reads no_read)

-- the answer is the result of a stage, or it is a stop of the stage, or memory ran out
abbrev pub ComesOf : {T U : Type 0} → (List Bytes → Type 0) → (Failing → Result U Early) → (Failing → List Bytes)
    → (T → U) → Result T held.Stop → Type 0
ComesOf Made stage reads seen (Ok t) = (stage no_read ≡ Ok (seen t)) × Made (reads no_read)
ComesOf Made stage reads seen (Err s) = StopsAt Made stage reads (stop_seen s)

-- .. of the files that a source states, which stated before and states after what it was asked for
abbrev pub ComesOfFiles : {T U : Type 0} → Option Files → Option (List Bytes) → Option (List Bytes)
    → (Files → Failing → Result U Early) → (Files → Failing → List Bytes) → (T → U) → Result T held.Stop → Type 0
ComesOfFiles told before after stage reads seen r =
    IfSome told (λ files. ComesOf (Asked before after) (stage files) (reads files) seen r)

-- a file is added to the set, or refused, or memory was
abbrev pub Adds : Result (List Template) Refusal → Bytes → List Template → Result (Unit {0}) held.Stop → Type 0
Adds parsed name new (Ok u) = parsed ≡ Ok new
Adds parsed name new (Err (stop.Template f)) =
    IfSome (refusal_seen f) (λ s. result_map_both (λ t. t) (refused name) parsed ≡ Err s)
Adds parsed name new (Err s) = ⊥

-- the count of failures rose exactly where a read failed
abbrev pub Counts : {T : Type 0} → ℕ → ℕ → Result T held.Stop → Type 0
Counts was is (Err (stop.Failed name)) = is ≡ was + 1
Counts was is r = is ≡ was
