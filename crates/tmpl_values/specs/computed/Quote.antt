-- Parts of a quote.
use Rattle.std.specs.Prelude.{ℕ, ◌||◌, ◌==◌, nat_lt, Bool, List, [], ◌∷◌, ◌++◌, Option, codes, if◌then◌else◌}
use Rattle.std.specs.Char.{encode_utf8}
use Rattle.std.specs.List.{flat_map}
use Rattle.std.specs.Option.{option_map_or}
use Rattle.tmpl_values.specs.Quote.{hexes, spelling}
use Rattle.tmpl_values.specs.Runes.{runes}

-- a character by this letter, if it has one
abbrev pub rune_spelling : (ℕ → Bool) → ℕ → Option ℕ → List ℕ
rune_spelling prints c letter = option_map_or (λ e. codes "\\" ++ e ∷ []) letter
    (if prints c then encode_utf8 c
    else (if nat_lt c 32 || c == 127 then codes "\\x" ++ hexes 2 c
    else (if nat_lt c 65536 then codes "\\u" ++ hexes 4 c else codes "\\U" ++ hexes 8 c)))

-- what stands between the quotation marks
abbrev pub inside : (ℕ → Bool) → List ℕ → List ℕ
inside prints bs = flat_map (spelling prints) (runes bs)
