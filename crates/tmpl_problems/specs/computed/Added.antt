-- For contracts of one addition: what two findings have in common, a warning, and what is added.
use Rattle.std.specs.Prelude.{◌≡◌, ℕ, ◌==◌, ◌&&◌, ◌++◌, Bool, List, Some, None}
use Rattle.std.specs.Str.{bytes_eq}
use Rattle.tmpl_problems.specs.Errors.{AreOfReason, errors_in}
use Rattle.tmpl_problems.specs.Finding.{Finding}
use Rattle.tmpl_problems.specs.declared.data_check.DataReason.{DataReason}
use Rattle.tmpl_problems.specs.declared.finding.Level.TheVariants.{Warning}

-- they say the same of the same place
abbrev pub is_same : Finding → Finding → Bool
is_same f g = (bytes_eq f.file g.file && (f.line == g.line && f.column == g.column)) && bytes_eq f.text g.text

abbrev pub warning_of : List ℕ → ℕ × ℕ → List ℕ → List ℕ → Finding
warning_of file place rule text =
    record { file = file; line = place.0; column = place.1; level = Warning; rule = rule; text = text; note = None }

-- errors may have been added
abbrev pub HasMore : List Finding → List Finding → Type 0
HasMore old new = (more : List Finding) × (errors_in new ≡ errors_in old ++ more)

-- errors of data are added, which is refused for this reason
abbrev pub AddsOfReason : List ℕ → DataReason → List Finding → List Finding → Type 0
AddsOfReason file why old new = (errors : List Finding) × AreOfReason file (Some why) errors × (new ≡ old ++ errors)
