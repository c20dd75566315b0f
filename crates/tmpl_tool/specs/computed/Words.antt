-- The command with its first options, and what clap makes of the words.
use Rattle.std.specs.Prelude.{◌≡◌, ◌≢◌, true, List, [], ◌∷◌, Result, Ok, Err, codes, fold}
use Rattle.clap.specs.Simple.{on_top}
use Rattle.clap.specs.Words.{App, Text, found_of, new_app, rows_of, with_rule}
use Rattle.clap.specs.declared.builder.ValueParser.TheVariants as vp
use Rattle.clap.specs.declared.parser.ArgMatches.{ArgMatches}
use Rattle.tmpl_tool.specs.Words.{Modes, option_rule, parsed_rule, words_fault, words_rows}
use Rattle.tmpl_tool.specs.declared.words.request.WordsFault.{WordsFault}
use Rattle.tmpl_tool.specs.declared.words.request.WordsFault.TheVariants.{NotAccepted, OutOfMemory}

-- the command with the first three of its options
abbrev pub first_options : Modes → App
first_options modes = fold with_rule (on_top (λ s. record s { disable_help_flag = true }) (new_app (codes "tmpl")))
    (option_rule (codes "data") ∷ parsed_rule (codes "missingkey") (vp.Names modes) ∷ option_rule (codes "name") ∷ [])

abbrev pub Parses : List Text → Result ArgMatches WordsFault → Type 0
Parses words (Ok matches) =
    (words_fault words ≡ []) × (rows_of (found_of matches) ≡ words_rows words)
Parses words (Err NotAccepted) = words_fault words ≢ []
Parses words (Err OutOfMemory) = Unit {0}
