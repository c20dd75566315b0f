-- The runes of a text as they are read from left to right, and how far a rune goes.
use Rattle.std.specs.Prelude.{ℕ, zero, suc, ◌-◌, ◌&&◌, List, [], ◌∷◌, length, take, slice_index}
use Rattle.std.specs.Prelude.{bytes_eq, if◌then◌else◌}
use Rattle.std.specs.Char.{encode_utf8, len_utf8}
use Rattle.std.specs.Str.{chars}
use lib.Utf8.{scalar}
use Rattle.tmpl_values.specs.Rune.{Rune, char, byte, bytes_in}

-- the first rune of bytes that are not empty: a character, where they begin with its encoding, else their first byte
unfoldable pub first_rune : List ℕ → Rune
first_rune bs =
    let c = slice_index (chars bs) 0 in
    if scalar c && bytes_eq (take (len_utf8 c) bs) (encode_utf8 c) then char c else byte (slice_index bs 0)

-- the runes after this many bytes that belong to the rune before
abbrev pub runes_after : ℕ → List ℕ → List Rune
runes_after n [] = []
runes_after (suc n) (b ∷ bs) = runes_after n bs
runes_after zero (b ∷ bs) = let r = first_rune (b ∷ bs) in r ∷ runes_after (length (bytes_in r) - 1) bs

-- the runes from left to right
unfoldable pub runes_read : List ℕ → List Rune
runes_read bs = runes_after 0 bs

-- how many bytes of a rune follow its first
abbrev pub tail_len : Rune → ℕ
tail_len r = length (bytes_in r) - 1
