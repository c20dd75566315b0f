-- Stretches that lie in a block.
use Rattle.std.specs.Prelude.{ℕ, ◌+◌, Bool, nat_le}
use Rattle.tmpl_code.specs.declared.tables.Span.{Span}

-- a stretch ends within this many letters
abbrev pub ends_within : ℕ → Span → Bool
ends_within size s = nat_le (s.start + s.count) size
