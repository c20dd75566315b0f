-- What looks like an end of an action in a text, and the mark that some editors put at the front of a file: our own rule.
use Rattle.std.specs.Prelude.{ℕ, nat_eq, List, [], ◌∷◌, length, drop, find, slice_get, codes, Option, option_map}
use Rattle.std.specs.List.{filter_map, range_with_len, starts_with}

-- what is found in a text, with the message about it
abbrev pub signs : List (List ℕ × List ℕ)
signs =
    (codes "}}", codes "\"}}\" closes no action: it is text")
    ∷ (codes "{ {", codes "\"{ {\" begins no action: it is text")
    ∷ (codes "{%", codes "\"{%\" begins no action: write {{")
    ∷ (239 ∷ 187 ∷ 191 ∷ [], codes "a byte order mark is text: save the file without it") ∷ []

-- the message about the sign that stands in a text after this many bytes, if one does
abbrev pub sign_at : List ℕ → ℕ → Option (List ℕ)
sign_at bytes at = option_map (λ row. row.1) (find (λ row. starts_with nat_eq (drop at bytes) row.0) signs)

-- the signs that stand in a text at these places: how many bytes of it stand before each, and its message
abbrev pub signs_in : List ℕ → List ℕ → List (ℕ × List ℕ)
signs_in bytes places = filter_map (λ at. option_map (λ words. (at, words)) (sign_at bytes at)) places

-- the first sign of all
abbrev pub first_sign : List ℕ → Option (ℕ × List ℕ)
first_sign bytes = slice_get (signs_in bytes (range_with_len 0 (length bytes))) 0
