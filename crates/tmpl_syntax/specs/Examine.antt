-- What a file adds to the set, or all that is refused of it, and where.
use Rattle.std.specs.Prelude.{◌≡◌, ℕ, ◌+◌, ◌==◌, Bool, true, false, List, [], ◌∷◌, ◌++◌, Option, Some, None, Ok, Err, length, map, if◌then◌else◌}
use Rattle.std.specs.List.{AllZip}
use Rattle.tmpl_lex.specs.Begin.{BeginsAt}
use Rattle.tmpl_grammar.specs.Action.{define_action, block_action}
use Rattle.tmpl_syntax.specs.Column.{column_at}
use Rattle.tmpl_syntax.specs.Fault.{Reason, too_long, second_definition, unreadable, reason_of}
use Rattle.tmpl_syntax.specs.Item.{Item, ItemKind, item, action_item, HasItems}
use Rattle.tmpl_syntax.specs.Language.{every_action}
use Rattle.tmpl_syntax.specs.Parse.{Parses, HasSecond}
use Rattle.tmpl_syntax.specs.Spelling.{definition, Spells}
use Rattle.tmpl_syntax.specs.Tree.{Definition, Nodes}
use Rattle.tmpl_syntax.specs.Refusals.{Found, HasRefusals, Shown, show, refused_seen}
use Rattle.tmpl_syntax.specs.Set.{Template}
use Rattle.tmpl_syntax.specs.declared.fault.ParseKind.{ParseKind}
use Rattle.tmpl_syntax.specs.declared.fault.ParseKind.TheVariants as kind
use Rattle.tmpl_syntax.specs.declared.refused.Refused.{Refused}

abbrev pub is_at : Option ℕ → ℕ → Bool
is_at None place = false
is_at (Some other) place = other == place

abbrev pub is_unreadable : Option Reason → Bool
is_unreadable (Some unreadable) = true
is_unreadable why = false

-- the refusals without those of the place of the one before: an action is told of once, for the first reason. Nothing is told
-- after one that can't be read, since where it ends is not known: neither is what is open there
abbrev pub firsts_after : Option ℕ → List Shown → List Shown
firsts_after last [] = []
firsts_after last (r ∷ rs) =
    if is_at last r.0 then firsts_after (Some r.0) rs
    else r ∷ (if is_unreadable r.2 then [] else firsts_after (Some r.0) rs)

abbrev pub firsts : List Shown → List Shown
firsts rs = firsts_after None rs

-- these are the refusals of a file that is refused for this reason: it alone where it is too long or defines a template
-- twice, and else all that is refused of its items
abbrev pub AreOf : List ℕ → Reason → List Shown → Type 0
AreOf bytes too_long ss = (s : Shown) × (ss ≡ s ∷ [])
AreOf bytes second_definition ss = (s : Shown) × (ss ≡ s ∷ [])
AreOf bytes why ss = (rs : List Found) × HasRefusals bytes rs × (ss ≡ firsts (map show rs))

-- a file is accepted, and makes the new set of the old one, where nothing is refused; else the set stays, and the first
-- refusal is the one for which the file is refused
abbrev pub Examined : List Template → List ℕ → List ℕ → List Template → List Refused → Type 0
Examined old file bytes new [] = Parses old file bytes (Ok new)
Examined old file bytes new (r ∷ rs) =
    (new ≡ old) × (why : Reason) × (reason_of r.kind ≡ Some why) × Parses old file bytes (Err (r.line, why))
    × AreOf bytes why (map refused_seen (r ∷ rs))

-- an action that defines a template
abbrev pub is_header : ItemKind → Bool
is_header (action_item (define_action name)) = true
is_header (action_item (block_action name p)) = true
is_header what = false

-- the places of these among items, of which the first has this place
abbrev pub headers_from : ℕ → List Item → List ℕ
headers_from n [] = []
headers_from n (item line what ∷ xs) = if is_header what then n ∷ headers_from (n + 1) xs else headers_from (n + 1) xs

-- definitions, each with one of these numbers in place of its line
abbrev pub renumbered : List ℕ → List Definition → List Definition
renumbered [] ds = []
renumbered (n ∷ ns) [] = []
renumbered (n ∷ ns) (d ∷ ds) = definition n d.name d.nodes ∷ renumbered ns ds

-- of the templates that the items of a file define, which stand in the order of their headers, and after them its own, each with
-- the byte at which its header begins in place of its line, the first second one has this number; the own one begins at the start
abbrev pub StartsSecond : List ℕ → ℕ → Type 0
StartsSecond bytes start =
    (items : List Item) × HasItems every_action bytes items × (ds : List Definition) × (own : Nodes) × Spells items ds own
    × (name : List ℕ) × (starts : List ℕ) × AllZip (BeginsAt bytes) (headers_from 0 items) starts
    × HasSecond (renumbered (starts ++ 0 ∷ []) (ds ++ definition 1 name own ∷ [])) start

-- a refusal for this is told after this many bytes: where its action begins; at the end, where something is open there; and at
-- the start where the file is too long; and where the header of a second definition begins. Want of memory is told of nothing
abbrev pub StartsAt : List ℕ → ParseKind → ℕ → ℕ → Type 0
StartsAt bytes kind.Unreadable place start = BeginsAt bytes place start
StartsAt bytes kind.NotAnAction place start = BeginsAt bytes place start
StartsAt bytes kind.OutOfPlace place start = BeginsAt bytes place start
StartsAt bytes kind.NestedTooDeeply place start = BeginsAt bytes place start
StartsAt bytes kind.UndeclaredVariable place start = BeginsAt bytes place start
StartsAt bytes kind.OpenAtEnd place start = start ≡ length bytes
StartsAt bytes kind.TooLong place start = start ≡ 0
StartsAt bytes kind.SecondDefinition place start = StartsSecond bytes start
StartsAt bytes kind.OutOfMemory place start = ⊥

-- the refusal is told there, with the column of that place
pub record IsLocated (bytes : List ℕ) (r : Refused) : Type 0 where
  pub starts : StartsAt bytes r.kind r.place r.start
  pub column : r.column ≡ column_at bytes r.start
