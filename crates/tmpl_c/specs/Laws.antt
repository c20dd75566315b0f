-- Laws of the library: its stages, and that it answers as the command does.
use Rattle.std.specs.Prelude.{◌≡◌, ◌≢◌, ◌⊎◌, ℕ, Bool, true, false, List, [], ◌∷◌, ◌++◌, Option, Some, None, Result, Ok, Err}
use Rattle.std.specs.Prelude.{◌<◌, ◌≤◌, codes, length, take}
use Rattle.std.specs.Str.{is_utf8}
use Rattle.tmpl_values.specs.Json.{Flaw}
use Rattle.tmpl_values.specs.Value.{Value}
use Rattle.tmpl_syntax.specs.Parse.{Refusal}
use Rattle.tmpl_syntax.specs.Tree.{Tree}
use Rattle.tmpl_syntax.specs.Set.{Template, tree_named}
use Rattle.tmpl_meaning.specs.Meaning.{Rules, ran}
use Rattle.tmpl_tool.specs.Outcome.{Answer}
use Rattle.tmpl_tool.specs.Source.{Bytes, Files}
use Rattle.tmpl_tool.specs.Tool.{Parse, Early, asked_by, asked_name, bad_words, flawed, no_read, printed, refused}
use Rattle.tmpl_tool.specs.Tool.{run_answer, stop_answer, tool_answer, unnamed}
use Rattle.tmpl_tool.specs.Words.{Wanted, wanted_in}
use Rattle.tmpl_c.specs.Filled.{Rendered, Seen, limit_text}
use Rattle.tmpl_c.specs.Given.{HoldsBy, IsOfNamed, RenderedBy}
use Rattle.tmpl_c.specs.Held.{Keeps, Replaces, held_answer}
use Rattle.tmpl_c.specs.Passed.{data_passed, each_added, passed_answer, render_answer, rules_in, with_passed}
use Rattle.tmpl_c.specs.Texts.{Holds}
use Rattle.tmpl_c.specs.declared.settings.Settings.{Settings}

-- ---- the stages

-- the first file whose name is no text, after files that are accepted, is the end, with status 2, whatever follows it
abbrev pub RefusesName : Type 0
RefusesName = (parse : Parse) (rules : Rules) (print : Bool) (name input : Bytes)
    → (before : List (Bytes × Bytes)) (f : Bytes × Bytes) (after : List (Bytes × Bytes))
    → (set : List Template) → each_added parse [] before ≡ Ok set
    → is_utf8 f.0 ≡ false
    → render_answer parse rules print (before ++ f ∷ after) name input ≡ stop_answer bad_words

-- .. and so is the first file that is refused, with status 4
abbrev pub StopsAtFile : Type 0
StopsAtFile = (parse : Parse) (rules : Rules) (print : Bool) (name input : Bytes)
    → (before : List (Bytes × Bytes)) (f : Bytes × Bytes) (after : List (Bytes × Bytes))
    → (set : List Template) → each_added parse [] before ≡ Ok set
    → is_utf8 f.0 ≡ true → (r : Refusal) → parse set f.0 f.1 ≡ Err r
    → render_answer parse rules print (before ++ f ∷ after) name input ≡ stop_answer (refused f.0 r)

-- where every file is accepted, a set that is to be printed is written, with status 0, whatever name and data are
abbrev pub Prints : Type 0
Prints = (parse : Parse) (rules : Rules) (files : List (Bytes × Bytes)) (name input : Bytes)
    → (set : List Template) → each_added parse [] files ≡ Ok set
    → render_answer parse rules true files name input ≡ stop_answer (printed set)

-- else data that is refused is the end, with status 5
abbrev pub StopsAtData : Type 0
StopsAtData = (parse : Parse) (rules : Rules) (files : List (Bytes × Bytes)) (name input : Bytes)
    → (set : List Template) → each_added parse [] files ≡ Ok set
    → (stop : Early) → data_passed (codes "data") input ≡ Err stop
    → render_answer parse rules false files name input ≡ stop_answer stop

-- then a name that no template has is, with status 4
abbrev pub StopsAtTemplate : Type 0
StopsAtTemplate = (parse : Parse) (rules : Rules) (files : List (Bytes × Bytes)) (name input : Bytes)
    → (set : List Template) → each_added parse [] files ≡ Ok set
    → (value : Option Value) → data_passed (codes "data") input ≡ Ok value
    → tree_named name set ≡ None
    → render_answer parse rules false files name input ≡ stop_answer (unnamed name)

-- and else it is the run of the template of that name, with status 0, or 1 where the run has a fault
abbrev pub Runs : Type 0
Runs = (parse : Parse) (rules : Rules) (files : List (Bytes × Bytes)) (name input : Bytes)
    → (set : List Template) → each_added parse [] files ≡ Ok set
    → (value : Option Value) → data_passed (codes "data") input ≡ Ok value
    → (tree : Tree) → tree_named name set ≡ Some tree
    → render_answer parse rules false files name input ≡ run_answer (ran rules set name tree value)

-- ---- as the command

-- the files of these names, which are texts, are passed as they stand
abbrev pub PassesFiles : Files → List Bytes → List (Bytes × Bytes) → Type 0
PassesFiles files [] [] = Unit {0}
PassesFiles files (name ∷ names) (f ∷ fs) =
    (f.0 ≡ name) × (is_utf8 f.0 ≡ true) × (files name ≡ Some f.1) × PassesFiles files names fs
PassesFiles files [] (f ∷ fs) = ⊥
PassesFiles files (name ∷ names) [] = ⊥

-- .. and so is the data, if a file of it is named, which may not be empty
abbrev pub PassesData : Files → Option Bytes → Bytes → Bytes → Type 0
PassesData files None called input = input ≡ []
PassesData files (Some name) called input = (called ≡ name) × (files name ≡ Some input) × (input ≢ [])

-- over the same files, data, options and name it is the answer of the command, where its lines call the data as the
-- words do
abbrev pub AnswersAsCommand : Type 0
AnswersAsCommand = (parse : Parse) (words : List Bytes) (files : Files) (w : Wanted) → asked_by words ≡ Ok w
    → (lent : List (Bytes × Bytes)) → PassesFiles files w.files lent
    → (called input : Bytes) → PassesData files w.data_file called input
    → passed_answer called parse w.rules w.print lent (asked_name w) input ≡ tool_answer parse words files no_read

-- the lines are the same, or data is refused, and they call it so and so
abbrev pub SameBut : Bytes → Bytes → Answer → Answer → Type 0
SameBut one other a b = (a ≡ b)
    ⊎ ((flaw : Flaw) × (a ≡ stop_answer (flawed one flaw)) × (b ≡ stop_answer (flawed other flaw)))

-- text and status do not depend on what lines call the data, and no line does but that of data that is refused
abbrev pub AnswersButForName : Type 0
AnswersButForName = (one other : Bytes) (parse : Parse) (rules : Rules) (print : Bool) (files : List (Bytes × Bytes))
    (name input : Bytes) → let a = passed_answer one parse rules print files name input in
    let b = passed_answer other parse rules print files name input in
    (a.text ≡ b.text) × (a.status ≡ b.status) × SameBut one other a b

-- ---- what is kept

-- where every file and the data are accepted, a render of the set and the value that they make is a render of them
abbrev pub RendersAsKept : Type 0
RendersAsKept = (parse : Parse) (rules : Rules) (print : Bool) (files : List (Bytes × Bytes)) (name input : Bytes)
    → (set : List Template) → each_added parse [] files ≡ Ok set
    → (value : Option Value) → data_passed (codes "data") input ≡ Ok value
    → render_answer parse rules print files name input ≡ held_answer rules print set name value

-- a file after files that are accepted gives the answer that it gives when it is added to the set of their templates
abbrev pub AddsInTurn : Type 0
AddsInTurn = (parse : Parse) (before : List (Bytes × Bytes)) (f : Bytes × Bytes)
    → (set : List Template) → each_added parse [] before ≡ Ok set
    → each_added parse [] (before ++ f ∷ []) ≡ with_passed parse set f

-- with status 0 what was offered is what is kept
abbrev pub IsKeptAsOffered : (T : Type 0) → Type 0
IsKeptAsOffered T = (offered old new : T) (room : ℕ) (err : Seen) → Keeps (Ok offered) old new room err 0 → new ≡ offered

-- .. templates as data
abbrev pub KeepsOffered : Type 0
KeepsOffered = IsKeptAsOffered (List Template) × IsKeptAsOffered (Option Value)

-- with any other what was kept is kept
abbrev pub IsKeptAsBefore : (T : Type 0) → Type 0
IsKeptAsBefore T = (offered : Result T Early) (old new : T) (room : ℕ) (err : Seen) (code : ℕ)
    → Keeps offered old new room err code → code ≢ 0 → new ≡ old

-- .. templates as data
abbrev pub KeepsAsBefore : Type 0
KeepsAsBefore = IsKeptAsBefore (List Template) × IsKeptAsBefore (Option Value)

-- ---- what a caller sees

-- with status 0 the memory holds the whole text, and that is the answer's status
abbrev pub HoldsWhole : Type 0
HoldsWhole = (a : Answer) (room line_room : ℕ) (out err : Seen) → Rendered a room out line_room err 0
    → (take out.taken out.memory ≡ a.text) × (a.status ≡ 0)

-- with any status it holds a prefix of it
abbrev pub HoldsPrefix : Type 0
HoldsPrefix = (a : Answer) (room line_room : ℕ) (out err : Seen) (code : ℕ) → Rendered a room out line_room err code
    → (rest : Bytes) × (a.text ≡ take out.taken out.memory ++ rest)

-- settings of all zeros are the options of a command whose words name none, and a limit of 0 is none
abbrev pub HasDefaults : Type 0
HasDefaults = ((s : Settings) → s.steps ≡ 0 → s.depth ≡ 0 → s.missing_key ≡ 0 → rules_in s ≡ (wanted_in []).rules)
    × ((a : Answer) → limit_text 0 a ≡ a)

-- under any other limit the text is the bytes up to it; the answer is as without it where the text is within it, and else
-- its status is that of a text that does not fit
abbrev pub KeepsLimit : Type 0
KeepsLimit = (most : ℕ) (a : Answer) → most ≢ 0 → ((limit_text most a).text ≡ take most a.text)
    × (length a.text ≤ most → limit_text most a ≡ a) × (most < length a.text → (limit_text most a).status ≡ 6)

-- with status 0 text and line are the whole ones of the answer, and that is its status
abbrev pub TextHoldsWhole : Type 0
TextHoldsWhole = (a : Answer) (text line : Bytes) → Holds a text line 0
    → (text ≡ a.text) × (line ≡ a.line) × (a.status ≡ 0)

-- with any status it is a prefix of it
abbrev pub TextHoldsPrefix : Type 0
TextHoldsPrefix = (a : Answer) (text line : Bytes) (code : ℕ) → Holds a text line code
    → (rest : Bytes) × (a.text ≡ text ++ rest)

-- where a format is asked for, with status 0 the text is of it: that in a text
abbrev pub TextOfFormat : Type 0
TextOfFormat = (b : ℕ) (bs : Bytes) (a : Answer) (text line : Bytes) → HoldsBy (b ∷ bs) a text line 0
    → IsOfNamed (b ∷ bs) text

-- .. and that in the caller's memory
abbrev pub RendersOfFormat : Type 0
RendersOfFormat = (b : ℕ) (bs : Bytes) (a : Answer) (room line_room : ℕ) (out err : Seen)
    → RenderedBy (b ∷ bs) a room out line_room err 0 → IsOfNamed (b ∷ bs) (take out.taken out.memory)

-- the status of a render into a text is 0, 1, 4 or 7, or 6 where it has a limit: without one none says that the text does
-- not fit
abbrev pub IsTextStatus : ℕ → ℕ → Type 0
IsTextStatus most code = (code ≡ 0) ⊎ ((code ≡ 1) ⊎ ((code ≡ 4) ⊎ ((code ≡ 7) ⊎ ((code ≡ 6) × (most ≢ 0)))))

abbrev pub TextHasStatus : Type 0
TextHasStatus = (most : ℕ) (rules : Rules) (set : List Template) (name : Bytes) (value : Option Value)
    → (text line : Bytes) (code : ℕ)
    → Holds (limit_text most (held_answer rules false set name value)) text line code → IsTextStatus most code

-- with status 0 a handle has what was offered, and else what it had
abbrev pub ReplacesAsOffered : Type 0
ReplacesAsOffered = ((offered old new : List Template) → Replaces offered old new 0 → new ≡ offered)
    × ((offered old new : List Template) (code : ℕ) → Replaces offered old new code → code ≢ 0 → new ≡ old)
