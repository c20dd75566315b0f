-- What a file adds to the set, or why it is refused. What stands outside its definitions is a template too, named by
-- the file's base name as by Go's `ParseFiles`; the limit on its length, and the kinds and lines of refusals, are our
-- own rules.
use Rattle.std.specs.Prelude.{◌≡◌, ◌==◌, ◌||◌, ◌+◌, ◌≤◌, ◌<◌, ℕ, true, List, [], ◌∷◌, ◌++◌, Option, Some, None}
use Rattle.std.specs.Prelude.{Result, Ok, Err, length, map, slice_get, AllPairs}
use Rattle.std.specs.List.{after_last, fold}
use Rattle.std.specs.Borrow.{Bor}
use Rattle.std.specs.Str.{byte}
use Rattle.tmpl_lex.specs.Text.{newlines}
use Rattle.tmpl_syntax.specs.Tree.{Nodes, Definition}
use Rattle.tmpl_syntax.specs.Language.{Language, every_action, go_1_22}
use Rattle.tmpl_syntax.specs.Item.{ItemKind, Item, item, HasItems}
use Rattle.tmpl_syntax.specs.Place.Role.{role_of}
use Rattle.tmpl_syntax.specs.Place.Body.{IsFine, IsFirstRefused, IsLeftOpen}
use Rattle.tmpl_syntax.specs.Spelling.{definition, Spells}
use Rattle.tmpl_syntax.specs.Fault.{Reason, open_at_end, too_long, second_definition, reason_of}
use Rattle.tmpl_syntax.specs.Set.{Template, is_blank, add_definition}
use Rattle.tmpl_syntax.specs.declared.fault.ParseFault.{ParseFault}

-- the part of a path after its last `/`
abbrev pub base_name : List ℕ → List ℕ
base_name path = after_last (λ b. b == byte "/") path

-- the most bytes that a file may have
abbrev pub most_bytes : ℕ
most_bytes = 16777216

-- the templates of a file whose items spell these definitions and nodes: its own is the last one, at line 1
abbrev pub all_defined : List ℕ → List Definition → Nodes → List Definition
all_defined file ds own = ds ++ definition 1 (base_name file) own ∷ []

-- a template in this file
abbrev pub template_in : List ℕ → Definition → Template
template_in file d = (d.name, record { file = file; nodes = d.nodes })

-- of two of these definitions that have one name, one at least is blank
abbrev pub NoneSecond : List Definition → Type 0
NoneSecond ds = AllPairs (λ (c d : Definition). c.name ≡ d.name → (is_blank c.nodes || is_blank d.nodes) ≡ true) ds

-- the first definition with which that is no longer so stands at this line
abbrev pub HasSecond : List Definition → ℕ → Type 0
HasSecond ds line = (before : List Definition) × (d : Definition) × (rest : List Definition) × (ds ≡ before ++ d ∷ rest)
    × NoneSecond before × (NoneSecond (before ++ d ∷ []) → ⊥) × (line ≡ d.line)

-- a file is cut into pieces, and these are read as items by the grammar; it is accepted if no item of it is refused,
-- nothing is open at its end, and none of the templates that the items spell is a second one, and these are then
-- added to the set, one by one
pub record IsAccepted (by : Language) (old : List Template) (file bytes : List ℕ) (new : List Template) : Type 0 where
  pub short : length bytes ≤ most_bytes
  pub items : List Item
  pub has : HasItems by bytes items
  pub judged : IsFine (map role_of items)
  pub definitions : List Definition
  pub own : Nodes
  pub spells : Spells items definitions own
  pub once : NoneSecond (all_defined file definitions own)
  pub set : new ≡ fold (λ ts (d : Definition). add_definition ts d.name (record { file = file; nodes = d.nodes }))
      old (all_defined file definitions own)

-- these items of a file are refused at this line, for this reason: something is open at their end, on the last line;
-- they spell a second definition; or the item at a place is the first that is refused, for this reason, and this is its
-- line
abbrev pub AreRefused : List ℕ → List ℕ → List Item → ℕ → Reason → Type 0
AreRefused file bytes items line open_at_end = IsLeftOpen (map role_of items) × (line ≡ newlines bytes + 1)
AreRefused file bytes items line second_definition =
    IsFine (map role_of items) × (ds : List Definition) × (own : Nodes) × Spells items ds own
    × HasSecond (all_defined file ds own) line
AreRefused file bytes items line why =
    (i : ℕ) × (what : ItemKind) × IsFirstRefused (map role_of items) i why × (slice_get items i ≡ Some (item line what))

-- a file of this path and these bytes is refused at this line, for this reason
abbrev pub IsRefusedBy : Language → List ℕ → List ℕ → ℕ → Reason → Type 0
IsRefusedBy by file bytes line too_long = (most_bytes < length bytes) × (line ≡ 1)
IsRefusedBy by file bytes line why = (length bytes ≤ most_bytes) × (items : List Item) × HasItems by bytes items
    × AreRefused file bytes items line why

-- the line and the reason of a refusal
abbrev pub Refusal : Type 0
Refusal = ℕ × Reason

-- what comes of a file of this path and these bytes: it is accepted, and makes a new set of the old one, or it is
-- refused
abbrev pub Parses : List Template → List ℕ → List ℕ → Result (List Template) Refusal → Type 0
Parses old file bytes (Ok new) = IsAccepted every_action old file bytes new
Parses old file bytes (Err refusal) = IsRefusedBy every_action file bytes refusal.0 refusal.1

-- .. where a refusal may be for none of the reasons, which is want of memory
abbrev pub ParsesUnless : List Template → List ℕ → List ℕ → ℕ → Option Reason → Type 0
ParsesUnless old file bytes line None = line ≡ 1
ParsesUnless old file bytes line (Some reason) = Parses old file bytes (Err (line, reason))

-- what the parser answers: the file is accepted, or the set stays and the file is named, with its line and reason
abbrev pub IsReading : List Template → Bor (List ℕ) → List ℕ → List Template → Result (Unit {0}) ParseFault → Type 0
IsReading old file bytes new (Ok u) = Parses old file.now bytes (Ok new)
IsReading old file bytes new (Err fault) =
    (fault.file ≡ file) × (new ≡ old) × ParsesUnless old file.now bytes fault.line (reason_of fault.kind)

-- what Go 1.22 accepts is accepted, want of memory aside, and the set is then what it is there
abbrev pub IsAsBefore : List Template → Bor (List ℕ) → List ℕ → List Template → Result (Unit {0}) ParseFault → Type 0
IsAsBefore old file bytes new (Ok u) =
    (set : List Template) → IsAccepted go_1_22 old file.now bytes set → new ≡ set
IsAsBefore old file bytes new (Err fault) =
    (set : List Template) → IsAccepted go_1_22 old file.now bytes set → reason_of fault.kind ≡ None
