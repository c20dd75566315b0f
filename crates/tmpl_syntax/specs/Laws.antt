-- Laws of the definitions.
use Rattle.std.specs.Prelude.{◌≡◌, ◌↔◌, ◌≤◌, ◌⊎◌, ◌+◌, ℕ, true, List, ◌∷◌, Result, Ok, Err, length, map}
use Rattle.tmpl_grammar.specs.Action.{Action}
use Rattle.tmpl_syntax.specs.Tree.{Nodes, Definition}
use Rattle.tmpl_syntax.specs.Language.{Language, every_action}
use Rattle.tmpl_syntax.specs.Item.{Item, HasItems}
use Rattle.tmpl_syntax.specs.Place.Role.{Role, roles_of}
use Rattle.tmpl_syntax.specs.computed.Frames.{Verdict, fine, Judged}
use Rattle.tmpl_syntax.specs.computed.Frames.{verdict_of}
use Rattle.tmpl_syntax.specs.Spelling.{Spells}
use Rattle.tmpl_syntax.specs.Formed.{IsFormed, AreFormed}
use Rattle.tmpl_syntax.specs.Need.{NeedAtMost, most_need}
use Rattle.tmpl_syntax.specs.Parse.{most_bytes, all_defined, template_in}
use Rattle.tmpl_syntax.specs.computed.Build.{nodes_from, definitions_from}
use Rattle.tmpl_syntax.specs.Fault.{Reason, too_long, second_definition}
use Rattle.tmpl_syntax.specs.Place.Body.{IsFine, IsLeftOpen}
use Rattle.tmpl_syntax.specs.Refusals.{AreRefusals, Found, HasRefusals, Site, mended_each, roles_in}
use Rattle.tmpl_syntax.specs.Set.{Template}
use Rattle.tmpl_syntax.specs.Parse.{Refusal, IsAccepted, IsRefusedBy, Parses}
use Rattle.tmpl_syntax.specs.computed.Parse.{items_of, parsed}

-- in each language a file has items, and no others
abbrev pub HasSomeItems : Type 0
HasSomeItems = (language : Language) (bytes : List ℕ) → (items : List Item) × HasItems language bytes items

abbrev pub HasOneList : Type 0
HasOneList =
    (language : Language) (bytes : List ℕ) (xs ys : List Item) → HasItems language bytes xs → HasItems language bytes ys
    → xs ≡ ys

-- in this language they are those that are computed
abbrev pub HasItemsOf : Type 0
HasItemsOf = (bytes : List ℕ) → HasItems every_action bytes (items_of bytes)

-- each list has a verdict, and no other
abbrev pub HasVerdict : Type 0
HasVerdict = (xs : List Role) → Judged xs (verdict_of xs)

abbrev pub HasOneVerdict : Type 0
HasOneVerdict = (xs : List Role) (v w : Verdict) → Judged xs v → Judged xs w → v ≡ w

-- a list on which the verdict is fine spells definitions and nodes
abbrev pub SpellsWhereFine : Type 0
SpellsWhereFine =
    (items : List Item) → Judged (roles_of items) fine → Spells items (definitions_from items) (nodes_from items)

-- each list spells these at most once
abbrev pub SpellsAtMostOne : Type 0
SpellsAtMostOne =
    (items : List Item) (ds es : List Definition) (ns ms : Nodes) → Spells items ds ns → Spells items es ms
    → (ds ≡ es) × (ns ≡ ms)

-- what an accepted list spells is formed
abbrev pub SpellsFormed : Type 0
SpellsFormed =
    (items : List Item) (ds : List Definition) (own : Nodes) → Judged (roles_of items) fine → Spells items ds own
    → AreFormed ds × IsFormed own

-- something comes of each file, and nothing else
abbrev pub HasOutcome : Type 0
HasOutcome = (old : List Template) (file bytes : List ℕ) → Parses old file bytes (parsed old file bytes)

abbrev pub HasOneOutcome : Type 0
HasOneOutcome =
    (old : List Template) (file bytes : List ℕ) (r s : Result (List Template) Refusal)
    → Parses old file bytes r → Parses old file bytes s → r ≡ s

-- a file is accepted just where the function gives a set, and the set is then that one
abbrev pub AcceptsAsParsed : Type 0
AcceptsAsParsed =
    (old : List Template) (file bytes : List ℕ) (new : List Template)
    → (parsed old file bytes ≡ Ok new) ↔ IsAccepted every_action old file bytes new

-- it is refused just where the function gives a refusal, and line and reason are then those
abbrev pub RefusesAsParsed : Type 0
RefusesAsParsed =
    (old : List Template) (file bytes : List ℕ) (line : ℕ) (reason : Reason)
    → (parsed old file bytes ≡ Err (line, reason)) ↔ IsRefusedBy every_action file bytes line reason

-- one language has each action of another
abbrev pub IsLarger : Language → Language → Type 0
IsLarger large small = (a : Action) → small a ≡ true → large a ≡ true

-- .. and accepts each file that the other accepts, which makes the same set
abbrev pub AcceptsInLarger : Type 0
AcceptsInLarger =
    (large small : Language) → IsLarger large small → (old : List Template) (file bytes : List ℕ) (new : List Template)
    → IsAccepted small old file bytes new → IsAccepted large old file bytes new

-- each template of a file needs at most three cells and one for each byte of the file
abbrev pub NeedsAtMostBytes : Type 0
NeedsAtMostBytes =
    (language : Language) (file bytes : List ℕ) (items : List Item) (ds : List Definition) (own : Nodes)
    → HasItems language bytes items → Spells items ds own
    → NeedAtMost (3 + length bytes) (map (template_in file) (all_defined file ds own))

-- so of a file within the limit it needs at most this many
abbrev pub NeedsAtMost : Type 0
NeedsAtMost =
    (language : Language) (file bytes : List ℕ) (items : List Item) (ds : List Definition) (own : Nodes)
    → length bytes ≤ most_bytes → HasItems language bytes items → Spells items ds own
    → NeedAtMost most_need (map (template_in file) (all_defined file ds own))

-- the reasons that a file is refused for by its items alone: it is not too long, and defines no template twice
abbrev pub IsOfItems : Reason → Type 0
IsOfItems too_long = ⊥
IsOfItems second_definition = ⊥
IsOfItems why = Unit {0}

-- where a file is refused for such a reason, that is the first of all that is refused of it
abbrev pub FindsRefusal : Type 0
FindsRefusal =
    (file bytes : List ℕ) (line : ℕ) (why : Reason) (rs : List Found) → IsOfItems why
    → IsRefusedBy every_action file bytes line why → HasRefusals bytes rs
    → (place : ℕ) × (more : List Found) × (rs ≡ (place, line, why) ∷ more)

-- where each refused item is mended, no item is refused
abbrev pub AcceptsMended : Type 0
AcceptsMended =
    (last : ℕ) (xs : List Site) (rs : List Found) → AreRefusals last xs rs
    → IsFine (roles_in (mended_each rs xs)) ⊎ IsLeftOpen (roles_in (mended_each rs xs))

-- something is all that is refused of each file
abbrev pub HasSomeRefusals : Type 0
HasSomeRefusals = (bytes : List ℕ) → (rs : List Found) × HasRefusals bytes rs
