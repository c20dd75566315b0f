-- Which errors are reported of template files and of data.
use Rattle.std.specs.Prelude.{◌≡◌, ◌==◌, ℕ, true, List, [], ◌∷◌, ◌++◌, All, Option, Some, None, codes, filter, map, if◌then◌else◌}
use Rattle.std.specs.List.{AllByRecursion}
use Rattle.tmpl_syntax.specs.Set.{Template}
use Rattle.tmpl_syntax.specs.declared.fault.ParseKind.{ParseKind}
use Rattle.tmpl_syntax.specs.declared.fault.ParseKind.TheVariants as kind
use Rattle.tmpl_syntax.specs.Examine.{Examined, IsLocated}
use Rattle.tmpl_syntax.specs.declared.refused.Refused.{Refused}
use Rattle.tmpl_problems.specs.Checked.{Reports}
use Rattle.tmpl_problems.specs.Finding.{Finding, has_error}
use Rattle.tmpl_problems.specs.Judged.{IsJudgedData, words_for}
use Rattle.tmpl_problems.specs.Level.{is_error}
use Rattle.tmpl_problems.specs.Line.{left_words, reason_with, text_of}
use Rattle.tmpl_problems.specs.declared.data_check.DataReason.{DataReason}
use Rattle.tmpl_problems.specs.declared.data_check.DataReason.TheVariants as reason
use Rattle.tmpl_problems.specs.declared.finding.Level.TheVariants.{Error}
use Rattle.tmpl_problems.specs.declared.source.Source.{Source}
use Rattle.tmpl_problems.specs.declared.problem.Problem.{Problem}
use Rattle.tmpl_problems.specs.declared.problem.Problems.{Problems}

-- the errors among these
abbrev pub errors_in : List Finding → List Finding
errors_in found = filter (λ f. is_error f.level) found

-- the rule that a file breaks which is refused for this reason; out of memory is an error of its own
abbrev pub rule_for : ParseKind → List ℕ
rule_for kind.Unreadable = codes "unreadable"
rule_for kind.NotAnAction = codes "not-understood"
rule_for kind.OutOfPlace = codes "out-of-place"
rule_for kind.UndeclaredVariable = codes "undeclared-variable"
rule_for kind.OpenAtEnd = codes "open-at-end"
rule_for kind.NestedTooDeeply = codes "nested-too-deeply"
rule_for kind.TooLong = codes "too-long"
rule_for kind.SecondDefinition = codes "second-definition"
rule_for kind.OutOfMemory = codes "unreadable"

-- an error at a line and a column of a file, which breaks a rule and has no note
abbrev pub error_at : List ℕ → ℕ × ℕ → List ℕ → List ℕ → Finding
error_at file place rule text =
    record { file = file; line = place.0; column = place.1; level = Error; rule = rule; text = text; note = None }

-- what is wrong in a file, as it is found
abbrev pub error_of : List ℕ → Problem → Finding
error_of file p = error_at file (p.refused.line, p.refused.column) (rule_for p.refused.kind) (text_of p)

-- that there are at least so many more, where some are left out
abbrev pub left_in : List ℕ → ℕ → List Finding
left_in file left = if left == 0 then [] else error_at file (1, 1) (codes "too-many-errors") (left_words left) ∷ []

-- all that is reported of it: first what is refused
abbrev pub errors_of : List ℕ → Problems → List Finding
errors_of file all = map (error_of file) all.refused.items ++ (map (error_of file) all.beyond.items ++ left_in file all.left)

-- these are the errors of a file, which makes the new set of the old one or is refused: the first 1,000 of all that is
-- refused of it, in order and at their places; then, only where one of these is of an action that can't be read, what is
-- found beyond, of which nothing else is said; and how many more there are
abbrev pub AreOfFile : List Template → Source → List Template → List Finding → Type 0
AreOfFile old file new errors = (all : List Refused) × (reported : Problems) × (errors ≡ errors_of file.name.now reported)
    × Examined old file.name.now file.bytes.items new all × All (IsLocated file.bytes.items) all × Reports all reported

-- these are the errors of files, one file after the other
abbrev pub AreOfFiles : List Template → List Source → List Template → List Finding → Type 0
AreOfFiles old [] new errors = (new ≡ old) × (errors ≡ [])
AreOfFiles old (file ∷ files) new errors = (next : List Template) × (here more : List Finding) × (errors ≡ here ++ more)
    × AreOfFile old file next here × AreOfFiles next files new more

-- the rule that data breaks which is refused for this reason
abbrev pub data_rule_for : DataReason → List ℕ
data_rule_for reason.NotJson = codes "not-json"
data_rule_for reason.NotWhole = codes "number-not-whole"

-- an error of data of this file, which is refused for this reason; at which places, and what more is said, is left open
abbrev pub IsOfReason : List ℕ → DataReason → Finding → Type 0
IsOfReason file why f = (f.file ≡ file) × (f.level ≡ Error) × (f.rule ≡ data_rule_for why)
    × ((detail : List ℕ) × (f.text ≡ reason_with (words_for why) detail))

-- these are the errors of data that is refused for this reason, or for none
abbrev pub AreOfReason : List ℕ → Option DataReason → List Finding → Type 0
AreOfReason file None errors = errors ≡ []
AreOfReason file (Some why) errors = (has_error errors ≡ true) × AllByRecursion (IsOfReason file why) errors

-- these are the errors of the data, if there is some: none exactly where it has a value
abbrev pub AreOfData : Option Source → List Finding → Type 0
AreOfData None errors = errors ≡ []
AreOfData (Some file) errors =
    (why : Option DataReason) × IsJudgedData file.bytes.items why × AreOfReason file.name.now why errors
