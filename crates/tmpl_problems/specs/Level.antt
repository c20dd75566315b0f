-- How grave something is that is found.
use Rattle.std.specs.Prelude.{ℕ, List, Bool, true, false, codes}
use Rattle.tmpl_problems.specs.declared.finding.Level.{Level}
use Rattle.tmpl_problems.specs.declared.finding.Level.TheVariants.{Error, Warning}

-- it is an error, and no warning
abbrev pub is_error : Level → Bool
is_error Error = true
is_error Warning = false

-- its word, as it is printed
abbrev pub word_of : Level → List ℕ
word_of Error = codes "error"
word_of Warning = codes "warning"
