-- The line and the column after a byte more.
use Rattle.std.specs.Prelude.{ℕ, ◌+◌, ◌==◌, if◌then◌else◌}
use Rattle.std.specs.Str.{byte}
use Rattle.tmpl_syntax.specs.Column.{continues}

abbrev pub line_past : ℕ → ℕ → ℕ
line_past line b = if b == byte "\n" then line + 1 else line

abbrev pub column_past : ℕ → ℕ → ℕ
column_past column b = if b == byte "\n" then 1 else if continues b then column else column + 1
