-- What an action may begin with, directly after its `{{`.
use Rattle.std.specs.Prelude.{ℕ, nat_eq, Bool, false, ◌&&◌, List, drop, slice_get, codes, if◌then◌else◌}
use Rattle.std.specs.List.{starts_with}
use Rattle.std.specs.Option.{option_map_or}
use Rattle.tmpl_lex.specs.Bytes.{is_space}

-- how many bytes the left trim marker has, `-` and a byte of white space, if one stands there
abbrev pub marker_len : List ℕ → ℕ
marker_len after =
    if starts_with nat_eq after (codes "-") && option_map_or is_space (slice_get after 1) false then 2 else 0

-- a comment begins there, or after the marker
abbrev pub opens_comment : List ℕ → Bool
opens_comment after = starts_with nat_eq (drop (marker_len after) after) (codes "/*")
