-- Which errors are reported of all that is checked.
use Rattle.std.specs.Prelude.{◌≡◌, true, List, [], ◌++◌, Option, Some, None, codes}
use Rattle.std.specs.List.{AllByRecursion}
use Rattle.tmpl_syntax.specs.Set.{Template}
use Rattle.tmpl_problems.specs.Errors.{AreOfData, AreOfFiles}
use Rattle.tmpl_problems.specs.Finding.{Finding, has_error}
use Rattle.tmpl_problems.specs.declared.finding.Level.TheVariants.{Error}
use Rattle.tmpl_problems.specs.declared.source.Source.{Source}
use Rattle.tmpl_report.specs.Rendered.{AreOfValues}
use Rattle.tmpl_report.specs.declared.source.Question.{Question}
use Rattle.tmpl_report.specs.declared.source.Sources.{Sources}

-- of a schema there are errors only where one is given and no template file has one
abbrev pub MayBeOfSchema : Option Source → List Finding → List Finding → Type 0
MayBeOfSchema None before errors = errors ≡ []
MayBeOfSchema (Some file) before errors = has_error before ≡ true → errors ≡ []

-- these are the errors of the sources: those of the template files, those of the schema, those of the data, and those of
-- the data beside the files
abbrev pub AreOfSources : Question → Sources → List Finding → Type 0
AreOfSources question sources errors = (set : List Template) × (of_files of_schema of_data of_values : List Finding)
    × (errors ≡ of_files ++ of_schema ++ of_data ++ of_values) × AreOfFiles [] sources.templates.items set of_files
    × MayBeOfSchema sources.schema of_files of_schema × AreOfData sources.data of_data
    × AreOfValues question sources set of_values

-- an error that an output is not of the format; of which output, and where, is left open
abbrev pub IsNotOfFormat : Finding → Type 0
IsNotOfFormat f = (f.level ≡ Error) × (f.rule ≡ codes "not-of-format")

-- of an output there are errors only where a format is asked for and nothing else is wrong
abbrev pub AreOfOutput : Question → List Finding → List Finding → Type 0
AreOfOutput question before errors =
    (question.writes ≡ None → errors ≡ []) × (has_error before ≡ true → errors ≡ []) × AllByRecursion IsNotOfFormat errors

-- these are all errors: those of the sources, and those of an output
abbrev pub AreErrors : Question → Sources → List Finding → Type 0
AreErrors question sources errors = (of_sources of_output : List Finding) × (errors ≡ of_sources ++ of_output)
    × AreOfSources question sources of_sources × AreOfOutput question of_sources of_output
