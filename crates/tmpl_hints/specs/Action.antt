-- What an action is by its first words.
use Rattle.std.specs.Prelude.{ℕ, nat_eq, Bool, true, false, not, List, [], ◌∷◌, filter, find, slice_get, codes}
use Rattle.std.specs.Prelude.{Option, option_map, unwrap_or, if◌then◌else◌}
use Rattle.std.specs.List.{list_any, starts_with}
use Rattle.std.specs.Option.{option_map_or}
use Rattle.std.specs.Str.{bytes_eq}
use Rattle.tmpl_lex.specs.declared.piece.Token.{Token}
use Rattle.tmpl_lex.specs.declared.piece.TokenKind.{TokenKind}
use Rattle.tmpl_lex.specs.declared.piece.TokenKind.TheVariants as kind
use Rattle.tmpl_grammar.specs.declared.action.Branch.{Branch}
use Rattle.tmpl_grammar.specs.declared.action.Branch.TheVariants as branch
use Rattle.tmpl_hints.specs.declared.action.Opening.{Opening}
use Rattle.tmpl_hints.specs.declared.action.Opening.TheVariants.{If, With, Range, Define, Block}
use Rattle.tmpl_hints.specs.declared.action.Role.{Role}
use Rattle.tmpl_hints.specs.declared.action.Role.TheVariants.{Plain, Open, Else, End, Jump}

-- the words that open a part: its own in templates, and then those of other languages
abbrev pub words_of : Opening → List (List ℕ)
words_of If = codes "if" ∷ codes "unless" ∷ []
words_of With = codes "with" ∷ []
words_of Range = codes "range" ∷ codes "for" ∷ codes "foreach" ∷ codes "each" ∷ []
words_of Define = codes "define" ∷ []
words_of Block = codes "block" ∷ []

-- the word of templates: the first of these
abbrev pub own_word : Opening → List ℕ
own_word opening = unwrap_or (slice_get (words_of opening) 0) []

-- what begins a part, and of these what begins a template of its own
abbrev pub openings : List Opening
openings = If ∷ With ∷ Range ∷ Define ∷ Block ∷ []

abbrev pub template_openings : List Opening
template_openings = Define ∷ Block ∷ []

-- the word is among these
abbrev pub is_among : List (List ℕ) → List ℕ → Bool
is_among words word = list_any (λ other. bytes_eq other word) words

-- what an action opens that begins with this word
abbrev pub opening_named : List ℕ → Option Opening
opening_named word = find (λ o. is_among (words_of o) word) openings

-- what leaves a turn of a range
abbrev pub jumps : List (List ℕ)
jumps = codes "break" ∷ codes "continue" ∷ []

-- what an action does that begins with this word: an end is each that begins with `end`
abbrev pub role_named : List ℕ → Role
role_named word =
    option_map_or Open (opening_named word)
    (if is_among jumps word then Jump else (if starts_with nat_eq word (codes "end") then End else Plain))

-- the tokens that are no white space
abbrev pub is_blank : TokenKind → Bool
is_blank kind.Space = true
is_blank other = false

abbrev pub significant : List Token → List Token
significant tokens = filter (λ t. not (is_blank t.kind)) tokens

-- the bytes of the significant token of this number, if it is a word
abbrev pub bytes_in : TokenKind → List ℕ → List ℕ
bytes_in kind.Word bytes = bytes
bytes_in other bytes = []

abbrev pub word_at : List Token → ℕ → List ℕ
word_at tokens n = option_map_or (λ t. bytes_in t.kind t.bytes.now) (slice_get (significant tokens) n) []

-- the control that this word names after an `else`
abbrev pub branches : List (List ℕ × Branch)
branches = (codes "if", branch.If) ∷ (codes "with", branch.With) ∷ []

abbrev pub branch_named : List ℕ → Option Branch
branch_named word = option_map (λ row. row.1) (find (λ row. bytes_eq row.0 word) branches)

-- what an action of these tokens does
abbrev pub role_of : List Token → Role
role_of tokens =
    let first = word_at tokens 0 in
    if bytes_eq first (codes "else") then Else (branch_named (word_at tokens 1)) else role_named first

-- and one that has no reading: it leaves no turn, and no `else` counts
abbrev pub without_jump : Role → Role
without_jump Jump = Plain
without_jump role = role

abbrev pub role_unread : List Token → Role
role_unread tokens = without_jump (role_named (word_at tokens 0))
