-- What begins after a `{{`, computed: the twin of `Closed`.
use Rattle.std.specs.Prelude.{ℕ, zero, suc, ◌-◌, Bool, true, false, ◌&&◌, ◌==◌, List, [], ◌∷◌, length, drop}
use Rattle.std.specs.Prelude.{Option, Some, None}
use Rattle.tmpl_lex.specs.Piece.{Token}
use Rattle.tmpl_lex.specs.computed.Bytes.{split_pair}
use Rattle.tmpl_lex.specs.computed.Token.{front_token}
use Rattle.tmpl_lex.specs.computed.Trim.{End, right_delimiter}

-- the bytes begin with `/*`
abbrev pub opens_comment : List ℕ → Bool
opens_comment (a ∷ b ∷ bs) = a == 47 && b == 42
opens_comment _ = false

-- the end directly after a `*/`, by what stands before and after that, where a comment began
abbrev pub comment_closed : Bool → Option (List ℕ × List ℕ) → Option End
comment_closed true (Some p) = right_delimiter p.1
comment_closed _ _ = None

-- the end of the comment that the bytes begin with: directly after the first `*/` after `/*`
unfoldable pub comment_end : List ℕ → Option End
comment_end bs = comment_closed (opens_comment bs) (split_pair 42 47 (drop 2 bs))

-- the tokens of an action, and its end
abbrev pub Inside : Type 0
Inside = List Token × End

-- what is inside, after one token more
abbrev pub with_token : Token → Option Inside → Option Inside
with_token t None = None
with_token t (Some i) = Some (t ∷ i.0, i.1)

-- what is inside from a place on: nothing more where the action ends there, and else what follows the token there
abbrev pub inside_from : Option End → Option Token → (Token → Option Inside) → Option Inside
inside_from (Some end) t further = Some ([], end)
inside_from None None further = None
inside_from None (Some t) further = with_token t (further t)

-- what is inside after this many bytes that belong to the token before
abbrev pub inside_after : ℕ → List ℕ → Option Inside
inside_after n [] = None
inside_after (suc n) (b ∷ bs) = inside_after n bs
inside_after zero (b ∷ bs) =
    inside_from (right_delimiter (b ∷ bs)) (front_token (b ∷ bs)) (λ t. inside_after (length t.bytes - 1) bs)

-- the tokens that the bytes spell and their end, if they have one
unfoldable pub inside : List ℕ → Option Inside
inside bs = inside_after 0 bs

-- what begins after a `{{` or its left trim marker: a closed comment, the tokens of a closed action, or neither
pub data Opened : Type 0 where
  comment : End → Opened
  tokens : List Token → End → Opened
  neither : Opened

-- the same, by where a comment ends and what is inside an action, if there is one
abbrev pub opened_by : Option End → Option Inside → Opened
opened_by (Some end) o = comment end
opened_by None (Some i) = tokens i.0 i.1
opened_by None None = neither

-- the same of these bytes
unfoldable pub opened : List ℕ → Opened
opened bs = opened_by (comment_end bs) (inside bs)
