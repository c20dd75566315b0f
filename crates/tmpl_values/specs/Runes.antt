-- The runes of a text as the one list that `HasRunes` admits.
use Rattle.std.specs.Prelude.{ℕ, List}
use Rattle.tmpl_values.specs.Rune.{Rune}
use Rattle.tmpl_values.specs.computed.Runes.{one_list}

-- the runes of these bytes
unfoldable pub runes : List ℕ → List Rune
runes bs = (one_list bs).it
