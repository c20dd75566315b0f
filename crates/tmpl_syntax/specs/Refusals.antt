-- All that is refused of a file: its first refused action, and then what is refused of the list in which that is mended.
-- These are our own rules; which action is the first, and why, is told by `Place`.
use Rattle.std.specs.Prelude.{◌≡◌, ℕ, zero, suc, ◌+◌, Bool, true, false, List, [], ◌∷◌, ◌++◌, Option, Some, None, length, map, find, not, codes}
use Rattle.std.specs.Prelude.{if◌then◌else◌, nat_eq, ◌||◌}
use Rattle.std.specs.List.{AllZip, filter_map, starts_with}
use Rattle.std.specs.Str.{bytes_eq}
use Rattle.tmpl_lex.specs.Piece.{Token, Piece, action}
use Rattle.tmpl_lex.specs.Text.{newlines}
use Rattle.tmpl_lex.specs.Cut.{Cuts}
use Rattle.tmpl_lex.specs.declared.piece.TokenKind.{TokenKind}
use Rattle.tmpl_lex.specs.declared.piece.TokenKind.TheVariants as token
use Rattle.tmpl_grammar.specs.Action.{Action, opening, else_branch, define_action, block_action}
use Rattle.tmpl_grammar.specs.declared.tree.Control.TheVariants.{If, With, Range}
use Rattle.tmpl_syntax.specs.Fault as reason
use Rattle.tmpl_syntax.specs.Fault.{Reason, reason_of}
use Rattle.tmpl_syntax.specs.Item.{ItemKind, item, action_item, IsItem}
use Rattle.tmpl_syntax.specs.Language.{every_action}
use Rattle.tmpl_syntax.specs.declared.refused.Refused.{Refused}
use Rattle.tmpl_syntax.specs.Place.Opening as opened
use Rattle.tmpl_syntax.specs.Place.Role.{Name, Names, Role, plain, opener, else_part, closer, names_given, role_of}
use Rattle.tmpl_syntax.specs.Place.Body.{IsFine, IsFirstRefused, IsLeftOpen}

-- an item of a file: its line, its role, and the role that it has once it is mended
pub record Site : Type 0 where
  pub line : ℕ
  pub role : Role
  pub mended : Role

abbrev pub roles_in : List Site → List Role
roles_in xs = map (λ (x : Site). x.role) xs

-- what is not there
abbrev pub absent : Role
absent = plain (names_given None)

-- an item that was refused is mended, and counts as not there where it is refused again
abbrev pub mend : Site → Site
mend x = record { line = x.line; role = x.mended; mended = absent }

-- the place in the list, the line and the reason of a refusal
abbrev pub Found : Type 0
Found = ℕ × ℕ × Reason

-- in a file of this last line just this is refused of these items: nothing; that something is open at their end; or the
-- first item that is refused, and what is refused of the items once it is mended
pub data AreRefusals (last : ℕ) : List Site → List Found → Type 0 where
  none : {xs : List Site} → IsFine (roles_in xs) → AreRefusals last xs []
  left_open : {xs : List Site} → IsLeftOpen (roles_in xs)
      → AreRefusals last xs ((length xs, last, reason.open_at_end) ∷ [])
  refused : (before : List Site) (x : Site) (after : List Site) {why : Reason} {rs : List Found}
      → IsFirstRefused (roles_in (before ++ x ∷ after)) (length before) why
      → AreRefusals last (before ++ mend x ∷ after) rs
      → AreRefusals last (before ++ x ∷ after) ((length before, x.line, why) ∷ rs)

-- the items with that at a place mended
abbrev pub mended_at : ℕ → List Site → List Site
mended_at zero (x ∷ xs) = mend x ∷ xs
mended_at (suc n) (x ∷ xs) = x ∷ mended_at n xs
mended_at n [] = []

-- .. with each of those that were refused, one by one
abbrev pub mended_each : List Found → List Site → List Site
mended_each [] xs = xs
mended_each (r ∷ rs) xs = mended_each rs (mended_at r.0 xs)

-- the name in a token, if it is a variable that has one
abbrev pub variable_by : TokenKind → List ℕ → Option Name
variable_by token.Variable (dollar ∷ b ∷ bs) = Some (b ∷ bs)
variable_by kind bs = None

abbrev pub variable_in : Token → Option Name
variable_in t = variable_by t.kind t.bytes

-- each variable that stands in a refused action counts as declared by it
abbrev pub declared_in : List Token → Names
declared_in ts = record { declares = filter_map variable_in ts; uses = [] }

-- a word, and of no other token anything
abbrev pub word_by : TokenKind → List ℕ → List ℕ
word_by token.Word bs = bs
word_by kind bs = []

abbrev pub word_of : Option Token → List ℕ
word_of None = []
word_of (Some t) = word_by t.kind t.bytes

-- the word that comes first in an action, but for white space
abbrev pub is_white : TokenKind → Bool
is_white token.Space = true
is_white kind = false

abbrev pub first_word : List Token → List ℕ
first_word ts = word_of (find (λ t. not (is_white t.kind)) ts)

-- the words that open a part, with those of other languages that do
abbrev pub opens_if : List ℕ → Bool
opens_if word = bytes_eq word (codes "if") || bytes_eq word (codes "unless")

abbrev pub opens_range : List ℕ → Bool
opens_range word = bytes_eq word (codes "range") || bytes_eq word (codes "for") || bytes_eq word (codes "foreach") || bytes_eq word (codes "each")

-- an action that is not read counts as a bare opening or end by its first word, and else as not there; what begins with
-- `end` ends a part
abbrev pub by_word : List ℕ → Names → Role
by_word word names =
    if opens_if word then opener (opened.control If) names
    else if bytes_eq word (codes "with") then opener (opened.control With) names
    else if opens_range word then opener (opened.control Range) names
    else if bytes_eq word (codes "define") then opener opened.block names
    else if bytes_eq word (codes "block") then opener opened.block names
    else if starts_with nat_eq word (codes "end") then closer
    else plain names

-- one that is read counts as a bare opening or else branch if it is one, a `define` as a `block`, and else as not there
abbrev pub by_action : Action → Names → Role
by_action (opening c h) names = opener (opened.control c) names
by_action (else_branch b h) names = else_part (Some (b, names))
by_action (define_action name) names = opener opened.block names
by_action (block_action name p) names = opener opened.block names
by_action a names = plain names

abbrev pub mended_by : ItemKind → List Token → Names → Role
mended_by (action_item a) ts names = by_action a names
mended_by x ts names = by_word (first_word ts) names

abbrev pub mended_in : ItemKind → Piece → Role
mended_in what (action line ts) = mended_by what ts (declared_in ts)
mended_in what p = absent

-- a piece is read as an item with this line and these roles
abbrev pub IsSite : Piece → Site → Type 0
IsSite p x = (what : ItemKind) × IsItem every_action p (item x.line what)
    × (x.role ≡ role_of (item x.line what)) × (x.mended ≡ mended_in what p)

-- a file of these bytes is cut into pieces that are read so, one by one
abbrev pub HasSites : List ℕ → List Site → Type 0
HasSites bytes xs = (ps : List Piece) × Cuts false 1 bytes ps × AllZip IsSite ps xs

-- just this is refused of a file of these bytes
abbrev pub HasRefusals : List ℕ → List Found → Type 0
HasRefusals bytes rs = (xs : List Site) × HasSites bytes xs × AreRefusals (newlines bytes + 1) xs rs

-- what is told of a refusal: its place, its line and its reason; want of memory is none
abbrev pub Shown : Type 0
Shown = ℕ × ℕ × Option Reason

abbrev pub refused_seen : Refused → Shown
refused_seen r = (r.place, r.line, reason_of r.kind)

abbrev pub show : Found → Shown
show f = (f.0, f.1, Some f.2)
