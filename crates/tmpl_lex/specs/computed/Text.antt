-- What the trim markers beside a text take of it, computed: the twin of `Texts`.
use Rattle.std.specs.Prelude.{ℕ, ◌+◌, ◌-◌, Bool, true, false, List, length, take, drop}
use Rattle.std.specs.List.{prefix_len, suffix_len}
use Rattle.tmpl_lex.specs.Bytes.{is_space}
use Rattle.tmpl_lex.specs.Piece.{Piece}
use Rattle.tmpl_lex.specs.Text.{newlines, text_piece}

-- how many bytes of white space a right trim marker before the text takes, if there is one
abbrev pub leading : Bool → List ℕ → ℕ
leading true bs = prefix_len is_space bs
leading false bs = 0

-- how many bytes of white space there are at the end
abbrev pub trailing_len : List ℕ → ℕ
trailing_len bs = suffix_len is_space bs

-- how many a left trim marker after the text takes, if there is one
abbrev pub trailing : Bool → List ℕ → ℕ
trailing true bs = trailing_len bs
trailing false bs = 0

-- the text without what a right trim marker before it takes
abbrev pub without_leading : Bool → List ℕ → List ℕ
without_leading trims bs = drop (leading trims bs) bs

-- the text without what a left trim marker after it takes
abbrev pub without_trailing : Bool → List ℕ → List ℕ
without_trailing trims bs = take (length bs - trailing trims bs) bs

-- the bytes between two actions or comments, of which the first stands on this line, with a right trim marker before
-- them or none and a left one after them or none; the text's line is that of its first byte which is kept
abbrev pub texts : Bool → Bool → ℕ → List ℕ → List Piece
texts right left line bs =
    text_piece (line + newlines (take (leading right bs) bs)) (without_trailing left (without_leading right bs))
