-- The actions of a file with a command that fails at each run that gets to it. What an action is read as is computed.
use Rattle.std.specs.Prelude.{ℕ, Bool, false, List, Some, None, if◌then◌else◌}
use Rattle.std.specs.List.{enumerate_from, filter_map}
use Rattle.tmpl_lex.specs.Begin.{BeginsAt}
use Rattle.tmpl_lex.specs.Piece.{Token, Piece}
use Rattle.tmpl_grammar.specs.computed.Depth.{Reading, read}
use Rattle.tmpl_grammar.specs.computed.Reading.{reading_in}
use Rattle.tmpl_syntax.specs.Column.{IsPlace}
use Rattle.tmpl_problems.specs.Failing.{action_fails}
use Rattle.tmpl_problems.specs.Survey.{Tells, tokens_in, warned_place}
use Rattle.tmpl_problems.specs.declared.survey.Warning.{Warning}

abbrev pub reading_fails : Reading → Bool
reading_fails (read a) = action_fails a
reading_fails other = false

-- the action of these tokens has such a command
abbrev pub has_failing : List Token → Bool
has_failing ts = reading_fails (reading_in ts)

-- those of pieces, each by the number of its piece, where the first has this one
abbrev pub failing_from : ℕ → List Piece → List ℕ
failing_from first pieces =
    filter_map (λ p. if has_failing (tokens_in p.1) then Some p.0 else None) (enumerate_from first pieces)

-- the action is reported where it begins
pub record IsFailing (file : List ℕ) (piece : ℕ) (w : Warning) : Type 0 where
  pub begins : BeginsAt file piece w.start
  pub place : IsPlace file (warned_place w)

-- just these actions of the file have such commands
abbrev pub Fails : List ℕ → List Warning → Type 0
Fails file found = Tells (failing_from 0) (IsFailing file) warned_place file found
