-- The trim markers, and where an action or comment ends, computed: the twin of `Opens` and `Closes`.
use Rattle.std.specs.Prelude.{ℕ, Bool, true, false, ◌&&◌, ◌==◌, List, [], ◌∷◌, drop, Option, Some, None}
use Rattle.tmpl_lex.specs.Bytes.{is_space}

-- a left trim marker stands directly after the `{{`: `-` and a byte of white space
abbrev pub left_marked : List ℕ → Bool
left_marked (a ∷ b ∷ bs) = a == 45 && is_space b
left_marked _ = false

-- the bytes after a left trim marker, where one stands there
abbrev pub after_marker : Bool → List ℕ → List ℕ
after_marker true bs = drop 2 bs
after_marker false bs = bs

-- the bytes after the left trim marker, if they begin with one
abbrev pub past_left : List ℕ → List ℕ
past_left bs = after_marker (left_marked bs) bs

-- the bytes begin with `}}`
abbrev pub has_right_delimiter : List ℕ → Bool
has_right_delimiter (a ∷ b ∷ bs) = a == 125 && b == 125
has_right_delimiter _ = false

-- the bytes begin with `-}}`
abbrev pub has_dashed_delimiter : List ℕ → Bool
has_dashed_delimiter [] = false
has_dashed_delimiter (a ∷ bs) = a == 45 && has_right_delimiter bs

-- the bytes begin with a right trim marker: a byte of white space, and `-}}`
abbrev pub right_marked : List ℕ → Bool
right_marked [] = false
right_marked (a ∷ bs) = is_space a && has_dashed_delimiter bs

-- the end of an action or comment: whether a right trim marker ends it, and the bytes after it
pub record End : Type 0 where
  pub trims : Bool
  pub rest : List ℕ

-- the end, by whether `}}` and whether a right trim marker stands at the front
abbrev pub ended_by : Bool → Bool → List ℕ → Option End
ended_by true marked bs = Some (record { trims = false; rest = drop 2 bs })
ended_by false true bs = Some (record { trims = true; rest = drop 4 bs })
ended_by false false bs = None

-- the right delimiter that the bytes begin with, its trim marker included, if they do: the end of an action
abbrev pub right_delimiter : List ℕ → Option End
right_delimiter bs = ended_by (has_right_delimiter bs) (right_marked bs) bs
