-- What the arguments of a command line ask for, by clap's definition of a simple command.
use Rattle.std.specs.Prelude.{◌≡◌, ℕ, Bool, true, false, List, [], ◌∷◌, Option, Some, None, pos, map, codes}
use Rattle.std.specs.Prelude.{fold, if◌then◌else◌, unwrap_or}
use Rattle.std.specs.Borrow.{Bor}
use Rattle.std.specs.Option.{option_map_or}
use Rattle.std.specs.Str.{bytes_eq}
use Rattle.std.specs.Str.Parse.{digits_value, without_leading_plus}
use Rattle.clap.specs.Words.{App, Row, Rule, Text, all_of, fault_of, first_of, matches_of, new_app, new_rule, with_rule}
use Rattle.clap.specs.Simple.{on_top}
use Rattle.clap.specs.Walk.{is_empty}
use Rattle.clap.specs.Words.{Kinds}
use Rattle.clap.specs.Lexer.{usize_max}
use Rattle.clap.specs.ValueTests.{is_unsigned_in}
use Rattle.clap.specs.declared.builder.ArgAction.TheVariants.{Set, SetTrue}
use Rattle.clap.specs.declared.builder.ValueParser.{ValueParser}
use Rattle.clap.specs.declared.builder.ValueParser.TheVariants as vp
use Rattle.tmpl_meaning.specs.Meaning.{Rules}
use Rattle.tmpl_meaning.specs.declared.missing_key.MissingKey.{MissingKey}
use Rattle.tmpl_meaning.specs.declared.missing_key.MissingKey.TheVariants.{Default, Invalid, Zero, Error}

-- ---- the command

-- where the four words of `--missingkey` lie
abbrev pub Modes : Type 0
Modes = Bor (List (Bor Text))

abbrev pub mode_names : List Text
mode_names = codes "default" ∷ codes "invalid" ∷ codes "zero" ∷ codes "error" ∷ []

abbrev pub HasModeNames : Modes → Type 0
HasModeNames modes = map (λ word. word.now) modes.now ≡ mode_names

-- one place where they may lie; it does not matter which
abbrev pub here : Modes
here = record { ref_ptr = (0, 0); now = map (λ text. record { ref_ptr = (0, 0); now = text }) mode_names }

-- an option with one value
abbrev pub option_rule : Text → Rule
option_rule id = record (new_rule id) { long = Some id; action = Some Set }

-- .. that has to be one of these
abbrev pub parsed_rule : Text → ValueParser → Rule
parsed_rule id parser = record (option_rule id) { parser = Some parser }

-- an option without a value
abbrev pub print_rule : Rule
print_rule = record (new_rule (codes "print")) { long = Some (codes "print"); action = Some SetTrue }

abbrev pub file_rule : Rule
file_rule = record (new_rule (codes "file")) {
  required = true;
  range = Some (record { start_inclusive = 1; end_inclusive = usize_max });
}

-- the command, with no help of clap's own, and its arguments
abbrev pub tool_app : Modes → App
tool_app modes = fold with_rule (on_top (λ s. record s { disable_help_flag = true }) (new_app (codes "tmpl")))
    (option_rule (codes "data") ∷ parsed_rule (codes "missingkey") (vp.Names modes) ∷ option_rule (codes "name")
    ∷ parsed_rule (codes "depth") (vp.Signed (pos 1) (pos 100000))
    ∷ parsed_rule (codes "steps") (vp.Unsigned 1 4611686018427387904) ∷ print_rule ∷ file_rule ∷ [])

-- ---- the options that the words name

abbrev pub mode_named : Text → MissingKey
mode_named word = if bytes_eq word (codes "invalid") then Invalid else (if bytes_eq word (codes "zero") then Zero
    else (if bytes_eq word (codes "error") then Error else Default))

-- the number that a text spells, where it is in the range, and another where it spells none or there is no text
abbrev pub number_in : ℕ → ℕ → ℕ → Option Text → ℕ
number_in none low high None = none
number_in none low high (Some t) = if is_unsigned_in low high t then digits_value 10 (without_leading_plus t) else none

-- what words that are accepted ask for
pub record Wanted : Type 0 where
  pub data_file : Option Text
  pub name : Option Text
  pub rules : Rules
  -- the set is to be printed, and nothing run
  pub print : Bool
  pub files : List Text

-- what clap's matches ask for
abbrev pub wanted_in : List Row → Wanted
wanted_in rows = record {
  data_file = first_of (codes "data") rows;
  name = first_of (codes "name") rows;
  rules = record {
    missing_key = option_map_or mode_named (first_of (codes "missingkey") rows) Default;
    step_limit = number_in 1000000000 1 4611686018427387904 (first_of (codes "steps") rows);
    depth_limit = number_in 1000 1 100000 (first_of (codes "depth") rows);
  };
  print = option_map_or (λ text. bytes_eq text (codes "true")) (first_of (codes "print") rows) false;
  files = unwrap_or (all_of (codes "file") rows) [];
}

-- the kinds of the first fault that clap's definition finds in the words, and none where it takes them
unfoldable pub words_fault : List Text → Kinds
words_fault words = fault_of (tool_app here) words

-- clap's matches of the words
unfoldable pub words_rows : List Text → List Row
words_rows words = matches_of (tool_app here) words

-- what the arguments ask for, and nothing where they are refused
abbrev pub words_request : List Text → Option Wanted
words_request words = if is_empty (words_fault words) then Some (wanted_in (words_rows words)) else None
