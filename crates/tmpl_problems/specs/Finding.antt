-- Something that is found.
use Rattle.std.specs.Prelude.{ℕ, Bool, List, Option}
use Rattle.std.specs.List.{list_any}
use Rattle.tmpl_problems.specs.declared.finding.Level.{Level}
use Rattle.tmpl_problems.specs.Level.{is_error}

-- what is found at a place of a file, the rule that it breaks, and a note, if there is one
pub record Finding : Type 0 where
  pub file : List ℕ
  pub line : ℕ
  pub column : ℕ
  pub level : Level
  pub rule : List ℕ
  pub text : List ℕ
  pub note : Option (List ℕ)

-- one of these is an error
abbrev pub has_error : List Finding → Bool
has_error found = list_any (λ f. is_error f.level) found
