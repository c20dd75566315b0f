-- The command as one function of the arguments and of the contents of files.
use Rattle.std.specs.Prelude.{◌≡◌, ◌⊎◌, ◌+◌, ℕ, suc, nat_eq, Bool, true, false, List, [], ◌∷◌, ◌++◌, length, Option}
use Rattle.std.specs.Prelude.{Some, None, Result, Ok, Err, codes, decimal, option_map, option_to_list, slice_get}
use Rattle.std.specs.Prelude.{IfSome, unwrap_or, if◌then◌else◌}
use Rattle.std.specs.Option.{ok_or, option_map_or}
use Rattle.std.specs.Result.{result_err, result_map_both, result_ok}
use Rattle.tmpl_values.specs.Value.{Value}
use Rattle.tmpl_values.specs.Json.{Flaw, not_json, not_whole, data_of}
use Rattle.tmpl_values.specs.Quote.{quote}
use Rattle.tmpl_values.specs.Stage.{and_then}
use Rattle.tmpl_syntax.specs.Fault as reason
use Rattle.tmpl_syntax.specs.Fault.{Reason}
use Rattle.tmpl_syntax.specs.Set.{Template, tree_named}
use Rattle.tmpl_syntax.specs.Parse.{Parses, Refusal, base_name}
use Rattle.tmpl_syntax.specs.Print.Printed.{printed_set}
use Rattle.tmpl_meaning.specs.Sink.{Sunk}
use Rattle.tmpl_meaning.specs.Meaning.{Fault, Ran, Rules, ran}
use Rattle.tmpl_engine.specs.Reason.{cause_text}
use Rattle.tmpl_tool.specs.Help.{asks_help}
use Rattle.tmpl_tool.specs.Words.{Wanted, words_request}
use Rattle.tmpl_tool.specs.Source.{Asked, Bytes, Files}
use Rattle.tmpl_tool.specs.Outcome.{Answer, Outcome, line}

-- ---- template files

-- the set with the templates of a file of this path and these bytes, or the line and the reason of its refusal
abbrev pub Parse : Type 0
Parse = List Template → Bytes → Bytes → Result (List Template) Refusal

-- it accepts and refuses files by the rules; there is just one that does, which is a law
abbrev pub IsParse : Parse → Type 0
IsParse parse = (old : List Template) (file bytes : Bytes) → Parses old file bytes (parse old file bytes)

-- ---- why nothing is run

pub data Early : Type 0 where
  -- help is asked for, or the words are refused
  help bad_words : Early
  -- there is no file of this name, the read of it failed, or there is no template of this name
  not_found unread unnamed : Bytes → Early
  -- a template file is refused at this line, or the data are
  refused : Bytes → Refusal → Early
  flawed : Bytes → Flaw → Early
  -- the set is to be printed
  printed : List Template → Early

abbrev pub reason_text : Reason → Bytes
reason_text reason.unreadable = codes "unclosed or unreadable action"
reason_text reason.not_an_action = codes "action not understood"
reason_text reason.out_of_place = codes "out of place"
reason_text reason.undeclared_variable = codes "undeclared variable"
reason_text reason.open_at_end = codes "file ends inside a control"
reason_text reason.nested_too_deeply = codes "nested too deeply"
reason_text reason.too_long = codes "file longer than 16777216 bytes"
reason_text reason.second_definition = codes "second definition"

abbrev pub usage : Bytes
usage = codes "usage: tmpl [--data FILE] [--missingkey default|invalid|zero|error] [--name NAME] "
    ++ codes "[--depth N] [--steps N] [--print] FILE...\n"

-- a text is written, and nothing went wrong
abbrev pub only_text : Bytes → Answer
only_text text = record { text = text; line = []; status = 0; unread = false; made_text = false }

-- nothing is written, and a line is said
abbrev pub only_line : ℕ → Bytes → Answer
only_line status said = record { text = []; line = line said; status = status; unread = false; made_text = false }

abbrev pub stop_answer : Early → Answer
stop_answer help = only_text usage
stop_answer (printed set) = only_text (printed_set set)
stop_answer bad_words = only_line 2 (codes "arguments refused; see tmpl --help")
stop_answer (not_found file) = only_line 3 (file ++ codes ": no such file")
stop_answer (unread file) = record (only_line 3 (file ++ codes ": read failed")) { unread = true }
stop_answer (refused file r) = only_line 4 (file ++ (codes ":" ++ (decimal r.0 ++ (codes ": " ++ reason_text r.1))))
stop_answer (unnamed name) = only_line 4 (codes "no template " ++ quote name)
stop_answer (flawed file not_json) = only_line 5 (file ++ codes ": not JSON")
stop_answer (flawed file not_whole) = only_line 5 (file ++ codes ": number not whole or out of range")

-- ---- a run

-- a line that says where a run stopped, and why
abbrev pub fault_line : Fault → Bytes
fault_line f = line (f.file ++ (codes ":" ++ (decimal f.line ++ (codes ": in " ++ (quote f.template
    ++ (codes ": " ++ cause_text f.cause))))))

-- the whole text, or that before the fault
abbrev pub run_answer : Ran → Answer
run_answer r = record (only_text r.text) {
  line = option_map_or fault_line r.fault [];
  status = option_map_or (λ f. 1) r.fault 0;
  made_text = r.made_text;
}

abbrev pub answer_of : Result Ran Early → Answer
answer_of (Ok r) = run_answer r
answer_of (Err s) = stop_answer s

-- ---- stages

-- stops where that is so
abbrev pub stop_if : Bool → Early → Result (Unit {0}) Early
stop_if stops s = if stops then Err s else Ok tt

-- what arguments ask for
abbrev pub asked_by : List Bytes → Result Wanted Early
asked_by words = and_then (stop_if (asks_help words) help) (λ u. ok_or (words_request words) bad_words)

-- which reads fail, by how many go before them
abbrev pub Failing : Type 0
Failing = ℕ → Bool

abbrev pub no_read : Failing
no_read k = false

-- the bytes of a file, if the read of it does not fail
abbrev pub read_file : Files → Bool → Bytes → Result Bytes Early
read_file files fails name = if fails then Err (unread name) else ok_or (files name) (not_found name)

-- the set with the templates of a file of this name and these bytes
abbrev pub add_file : Parse → List Template → Bytes → Bytes → Result (List Template) Early
add_file parse set name bytes = result_map_both (λ s. s) (refused name) (parse set name bytes)

-- the set with the templates of one more FILE
abbrev pub with_file : Parse → Files → Bool → List Template → Bytes → Result (List Template) Early
with_file parse files fails set name = and_then (read_file files fails name) (add_file parse set name)

-- each FILE in turn, read and then parsed, after this many
abbrev pub load_each : Parse → Files → Failing → ℕ → List Template → List Bytes → Result (List Template) Early
load_each parse files fails k set [] = Ok set
load_each parse files fails k set (name ∷ names) =
    and_then (with_file parse files (fails k) set name) (λ s. load_each parse files fails (suc k) s names)

-- the data that the bytes of a file of this name are
abbrev pub data_in : Bytes → Bytes → Result (Option Value) Early
data_in name bytes = result_map_both Some (flawed name) (data_of bytes)

-- the data, read and parsed, if the words name a file of it
abbrev pub data_found : Files → Bool → Option Bytes → Result (Option Value) Early
data_found files fails None = Ok None
data_found files fails (Some name) = and_then (read_file files fails name) (data_in name)

-- the file of the data, where something is to be run
abbrev pub data_wanted : Wanted → Option Bytes
data_wanted w = if w.print then None else w.data_file

-- the name of the template that arguments ask for, or else of the first FILE's own
abbrev pub asked_name : Wanted → Bytes
asked_name w = unwrap_or w.name (option_map_or base_name (slice_get w.files 0) [])

-- the name looked up, and the run
abbrev pub named_run : Rules → Bytes → List Template → Option Value → Result Ran Early
named_run rules name set d = ok_or (option_map (λ t. ran rules set name t d) (tree_named name set)) (unnamed name)

-- ---- the command

-- its answer: the words, each FILE, the printed set or else the data, the name, and the run
abbrev pub tool_answer : Parse → List Bytes → Files → Failing → Answer
tool_answer parse words files fails = answer_of (and_then (asked_by words) (λ w.
    and_then (load_each parse files fails 0 [] w.files) (λ set.
    and_then (stop_if w.print (printed set)) (λ u.
    and_then (data_found files (fails (length w.files)) w.data_file) (λ input.
    named_run w.rules (asked_name w) set input)))))

-- ---- the reads

-- each FILE in turn, up to the first that stops the command
abbrev pub file_reads : Parse → Files → Failing → ℕ → List Template → List Bytes → List Bytes
file_reads parse files fails k set [] = []
file_reads parse files fails k set (name ∷ names) = name ∷ option_map_or
    (λ s. file_reads parse files fails (suc k) s names) (result_ok (with_file parse files (fails k) set name)) []

-- the files that are read, in order: the FILEs, and then the data of a run
abbrev pub tool_reads : Parse → List Bytes → Files → Failing → List Bytes
tool_reads parse words files fails = option_map_or (λ w. file_reads parse files fails 0 [] w.files ++ option_map_or
    (λ set. option_to_list (data_wanted w)) (result_ok (load_each parse files fails 0 [] w.files)) [])
    (result_ok (asked_by words)) []

-- ---- what is observed

-- of the source how many reads failed before the call and after it, and what was asked for till then, where that is
-- stated; the sinks, and the status
pub record Observed : Type 0 where
  pub failed_before : ℕ
  pub failed_after : ℕ
  pub asked_before : Option (List Bytes)
  pub asked_after : Option (List Bytes)
  pub out : Sunk
  pub err : Sunk
  pub code : ℕ

-- the reads that were made are a prefix of these
abbrev pub MadeOf : (List Bytes → Type 0) → List Bytes → Type 0
MadeOf Made names = (front : List Bytes) × (rest : List Bytes) × (front ++ rest ≡ names) × Made front

-- no read failed: these reads were made, or memory ran out, and a prefix of them was; and this comes of it
abbrev pub NoneFailed : List Bytes → Answer → Observed → Type 0
NoneFailed reads answer o = (o.failed_after ≡ o.failed_before)
    × (Asked o.asked_before o.asked_after reads ⊎ ((o.code ≡ 7) × MadeOf (Asked o.asked_before o.asked_after) reads))
    × Outcome answer o.out o.err o.code

-- a read failed, at which the command stops: these reads were made, and this comes of it
abbrev pub OneFailed : List Bytes → Answer → Observed → Type 0
OneFailed reads answer o = (o.failed_after ≡ o.failed_before + 1) × (answer.unread ≡ true)
    × Asked o.asked_before o.asked_after reads × Outcome answer o.out o.err o.code

-- one of the two
abbrev pub Follows : (Failing → List Bytes) → (Failing → Answer) → Observed → Type 0
Follows reads answers o = NoneFailed (reads no_read) (answers no_read) o
    ⊎ ((k : ℕ) × OneFailed (reads (nat_eq k)) (answers (nat_eq k)) o)

-- the answer to words that are refused, or that ask for help, depends on them alone, and this holds
abbrev pub EndsAtWords : List Bytes → Type 0 → Sunk → Sunk → ℕ → Type 0
EndsAtWords ws Kept out err code = IfSome (result_err (asked_by ws)) (λ s. Kept × Outcome (stop_answer s) out err code)

-- where the contents of the files are stated, the arguments and the files are
abbrev pub FollowsFiles : List Bytes → Option Files → Observed → Type 0
FollowsFiles words contents o = (parse : Parse) → IsParse parse
    → IfSome contents (λ files. Follows (tool_reads parse words files) (tool_answer parse words files) o)
