-- What the bytes of a made text are, whoever owns them.
use Rattle.std.specs.Prelude.{ℕ, Bool, true, false, List}
use Rattle.tmpl_values.specs.declared.owned_bytes.OwnedBytes.{OwnedBytes}
use Rattle.tmpl_values.specs.declared.owned_bytes.OwnedBytes.TheVariants.{Sole, Shared}

-- the bytes
abbrev pub owned_bytes : OwnedBytes → List ℕ
owned_bytes (Sole v) = v.items
owned_bytes (Shared r) = r.value.items

-- whether its owners are counted
abbrev pub is_counted : OwnedBytes → Bool
is_counted (Sole v) = false
is_counted (Shared r) = true
