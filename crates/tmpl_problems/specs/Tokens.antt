-- The names in the tokens of an action, of templates and of variables: our own rules.
use Rattle.std.specs.Prelude.{ℕ, ◌-◌, ◌==◌, nat_eq, nat_le, nat_lt, Bool, true, false, not, ◌&&◌}
use Rattle.std.specs.Prelude.{List, ◌++◌, length, take, drop, filter, position, slice_get, codes}
use Rattle.std.specs.Prelude.{Option, Some, None, option_and_then, unwrap_or, if◌then◌else◌}
use Rattle.std.specs.List.{filter_map, list_any, starts_with}
use Rattle.std.specs.Str.{byte}
use Rattle.tmpl_lex.specs.Piece.{Token}
use Rattle.tmpl_lex.specs.declared.piece.TokenKind.{TokenKind}
use Rattle.tmpl_lex.specs.declared.piece.TokenKind.TheVariants as kind
use Rattle.tmpl_hints.specs.Action.{is_among, is_blank}
use Rattle.tmpl_hints.specs.Sentence.{shown}

-- ---- names in quotes

-- the name in a token in quotes, of either kind, if no backslash stands in it
abbrev pub is_quoted : TokenKind → Bool
is_quoted kind.String = true
is_quoted kind.RawString = true
is_quoted other = false

abbrev pub quoted_name : Token → Option (List ℕ)
quoted_name t =
    let name = take (length t.bytes - 2) (drop 1 t.bytes) in
    if is_quoted t.kind && nat_le 2 (length t.bytes) && not (list_any (λ b. b == byte "\\") name) then Some name
    else None

-- the name that stands second in an action which begins with one of these words; white space does not count
abbrev pub name_after : List (List ℕ) → List Token → Option (List ℕ)
name_after words ts =
    let tokens = filter (λ (t : Token). not (is_blank t.kind)) ts in
    option_and_then
    (λ first. if is_among words first.bytes then option_and_then quoted_name (slice_get tokens 1) else None)
    (slice_get tokens 0)

-- ---- variables

-- the name in a variable, after its `$`, which alone is none
abbrev pub is_variable : TokenKind → Bool
is_variable kind.Variable = true
is_variable other = false

abbrev pub variable_name : Token → Option (List ℕ)
variable_name t =
    if is_variable t.kind && starts_with nat_eq t.bytes (codes "$") && nat_lt 1 (length t.bytes)
    then Some (drop 1 t.bytes) else None

abbrev pub names_of : List Token → List (List ℕ)
names_of ts = filter_map variable_name ts

-- how many tokens stand before the first `:=`; none where there is none
abbrev pub is_declare : TokenKind → Bool
is_declare kind.Declare = true
is_declare other = false

abbrev pub declaration_len : List Token → ℕ
declaration_len ts = unwrap_or (position (λ (t : Token). is_declare t.kind) ts) 0

-- the names of the variables that an action declares, and of those that it uses or assigns
abbrev pub declared_names : List Token → List (List ℕ)
declared_names ts = names_of (take (declaration_len ts) ts)

abbrev pub used_names : List Token → List (List ℕ)
used_names ts = names_of (drop (declaration_len ts) ts)

abbrev pub unused_words : List ℕ → List ℕ
unused_words name = codes "variable \"$" ++ shown name ++ codes "\" is never used"
