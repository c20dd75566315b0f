-- Laws of the command: its stages, and its ends.
use Rattle.std.specs.Prelude.{◌≡◌, ◌≢◌, ◌+◌, ℕ, true, false, List, [], ◌∷◌, ◌++◌, length, Option, Some, None}
use Rattle.std.specs.Prelude.{Ok, Err, if◌then◌else◌}
use Rattle.clap.specs.Words.{Text, fault_of, matches_of}
use Rattle.tmpl_values.specs.Value.{Value}
use Rattle.tmpl_syntax.specs.Tree.{Tree}
use Rattle.tmpl_syntax.specs.Set.{Template, tree_named}
use Rattle.tmpl_meaning.specs.Meaning.{ran}
use Rattle.tmpl_meaning.specs.Sink.{Begun, Cut, Sunk}
use Rattle.tmpl_tool.specs.Help.{asks_help}
use Rattle.tmpl_tool.specs.Words.{HasModeNames, Modes, Wanted, tool_app, words_request, words_fault, words_rows}
use Rattle.tmpl_tool.specs.Source.{Asked, Bytes, Files}
use Rattle.tmpl_tool.specs.Outcome.{Answer, Outcome, Says, memory_line, write_line}
use Rattle.tmpl_tool.specs.Tool.{Failing, Follows, IsParse, Observed, Parse, Early, asked_by, asked_name, bad_words, data_found, help}
use Rattle.tmpl_tool.specs.Tool.{load_each, no_read, printed, run_answer, stop_answer, tool_answer, unnamed, unread, with_file}

-- a function accepts and refuses each file by the rules
abbrev pub HasParse : Type 0
HasParse = (parse : Parse) × IsParse parse

-- .. and no other does
abbrev pub HasOneParse : Type 0
HasOneParse = (parse other : Parse) → IsParse parse → IsParse other → parse ≡ other

-- wherever the four words of `--missingkey` lie, clap's definition has the same faults for words, and the same matches
abbrev pub LiesAnywhere : Type 0
LiesAnywhere = (modes : Modes) → HasModeNames modes → (words : List Text)
    → (fault_of (tool_app modes) words ≡ words_fault words) × (matches_of (tool_app modes) words ≡ words_rows words)

-- arguments that ask for help get the usage, with exit status 0
abbrev pub GivesHelp : Type 0
GivesHelp = (parse : Parse) (words : List Bytes) (files : Files) (fails : Failing)
    → asks_help words ≡ true → tool_answer parse words files fails ≡ stop_answer help

-- all other arguments are taken, or get the line on arguments, with exit status 2
abbrev pub RefusesWords : Type 0
RefusesWords = (parse : Parse) (words : List Bytes) (files : Files) (fails : Failing)
    → asks_help words ≡ false → words_request words ≡ None → tool_answer parse words files fails ≡ stop_answer bad_words

-- the first FILE that is missing or refused, or whose read fails, is the end, whatever stands after it
abbrev pub StopsAtFile : Type 0
StopsAtFile = (parse : Parse) (words : List Bytes) (files : Files) (fails : Failing) (w : Wanted)
    → asked_by words ≡ Ok w
    → (before : List Bytes) (name : Bytes) (beyond : List Bytes) → w.files ≡ before ++ name ∷ beyond
    → (set : List Template) → load_each parse files fails 0 [] before ≡ Ok set
    → (stop : Early) → with_file parse files (fails (length before)) set name ≡ Err stop
    → tool_answer parse words files fails ≡ stop_answer stop

-- a read of a FILE that fails is so
abbrev pub StopsAtRead : Type 0
StopsAtRead = (parse : Parse) (files : Files) (set : List Template) (name : Bytes)
    → with_file parse files true set name ≡ Err (unread name)

-- the words are taken, and every FILE is read and accepted
abbrev pub Load : Parse → List Bytes → Files → Failing → Wanted → List Template → Type 0
Load parse words files fails w set = (asked_by words ≡ Ok w) × (load_each parse files fails 0 [] w.files ≡ Ok set)

-- then a set that is to be printed is written, whatever the data, the name and the options of the run are
abbrev pub Prints : Type 0
Prints = (parse : Parse) (words : List Bytes) (files : Files) (fails : Failing) (w : Wanted) (set : List Template)
    → Load parse words files fails w set → w.print ≡ true
    → tool_answer parse words files fails ≡ stop_answer (printed set)

-- the words are taken, every FILE is read and accepted, and a template is to be run
abbrev pub GoOn : Parse → List Bytes → Files → Failing → Wanted → List Template → Type 0
GoOn parse words files fails w set = Load parse words files fails w set × (w.print ≡ false)

-- then data that is missing or refused, or whose read fails, is the end
abbrev pub StopsAtData : Type 0
StopsAtData = (parse : Parse) (words : List Bytes) (files : Files) (fails : Failing) (w : Wanted) (set : List Template)
    → GoOn parse words files fails w set
    → (stop : Early) → data_found files (fails (length w.files)) w.data_file ≡ Err stop
    → tool_answer parse words files fails ≡ stop_answer stop

-- .. and a read of the data that fails is so
abbrev pub StopsAtDataRead : Type 0
StopsAtDataRead = (files : Files) (name : Bytes) → data_found files true (Some name) ≡ Err (unread name)

-- then a name that no template has is the end
abbrev pub StopsAtName : Type 0
StopsAtName = (parse : Parse) (words : List Bytes) (files : Files) (fails : Failing) (w : Wanted) (set : List Template)
    → GoOn parse words files fails w set
    → (input : Option Value) → data_found files (fails (length w.files)) w.data_file ≡ Ok input
    → tree_named (asked_name w) set ≡ None
    → tool_answer parse words files fails ≡ stop_answer (unnamed (asked_name w))

-- and else it is the run of the template of that name
abbrev pub Runs : Type 0
Runs = (parse : Parse) (words : List Bytes) (files : Files) (fails : Failing) (w : Wanted) (set : List Template)
    → GoOn parse words files fails w set
    → (input : Option Value) → data_found files (fails (length w.files)) w.data_file ≡ Ok input
    → (tree : Tree) → tree_named (asked_name w) set ≡ Some tree
    → tool_answer parse words files fails ≡ run_answer (ran w.rules set (asked_name w) tree input)

-- where the output fails, it took a prefix of the text, and the exit status is 6 with its line, whatever else went
-- wrong
abbrev pub TellsFailedWrite : Type 0
TellsFailedWrite = (a : Answer) (out err : Sunk) (code : ℕ) → Outcome a out err code
    → out.after.failures ≢ out.before.failures
    → (out.after.failures ≡ out.before.failures + 1) × Cut a.text out × (code ≡ 6) × Says write_line err

-- where the exit status is 7, memory ran out: the output took a prefix of the text, and nothing unless a text is made
abbrev pub TellsRefusedMemory : Type 0
TellsRefusedMemory =
    (parse : Parse) (words : List Bytes) (files : Files) (fails : Failing) (out err : Sunk) (code : ℕ)
    → Outcome (tool_answer parse words files fails) out err code → code ≡ 7
    → let a = tool_answer parse words files fails in
    Begun (if a.made_text then a.text else []) out × Says memory_line err

-- where memory is not refused and no read fails, all the reads are made
abbrev pub TellsReads : Type 0
TellsReads = (reads : Failing → List Bytes) (answers : Failing → Answer) (o : Observed) → Follows reads answers o
    → o.code ≢ 7 → o.failed_after ≡ o.failed_before → Asked o.asked_before o.asked_after (reads no_read)
