-- Where the items of a file begin, as they are held, and what is refused of them.
use Rattle.std.specs.Prelude.{ℕ, ◌+◌, List, [], ◌∷◌, ◌++◌, Result, Ok, Err, map, reverse}
use Rattle.tmpl_lex.specs.Begin.{BeginsAt}
use Rattle.tmpl_lex.specs.declared.part.AfterText.{AfterText}
use Rattle.tmpl_lex.specs.declared.part.AfterText.TheVariants as variant
use Rattle.tmpl_grammar.specs.declared.action.Action as held_action
use Rattle.tmpl_grammar.specs.declared.action.Action.TheVariants as action
use Rattle.tmpl_syntax.specs.Examine.{StartsAt, StartsSecond}
use Rattle.tmpl_syntax.specs.Spelling.{definition}
use Rattle.tmpl_syntax.specs.Tree as tree
use Rattle.tmpl_syntax.specs.View.{nodes_in}
use Rattle.tmpl_syntax.specs.declared.build.OpenParts.{OpenParts}
use Rattle.tmpl_syntax.specs.declared.fault.ParseKind.{ParseKind}
use Rattle.tmpl_syntax.specs.declared.fault.ParseKind.TheVariants as kind
use Rattle.tmpl_syntax.specs.declared.fault.Refusal.{Refusal}
use Rattle.tmpl_syntax.specs.declared.found.Found.{Found}
use Rattle.tmpl_syntax.specs.declared.item.Item.{Item}
use Rattle.tmpl_syntax.specs.declared.item.ItemKind.{ItemKind}
use Rattle.tmpl_syntax.specs.declared.item.ItemKind.TheVariants as held
use Rattle.tmpl_syntax.specs.declared.site.Site.{Site}
use Rattle.tmpl_syntax.specs.declared.tree.Definition.{Definition}

-- this holds of each one of a list and its number, counted from this one
abbrev pub AllFrom : {A : Type 0} → (ℕ → A → Type 0) → ℕ → List A → Type 0
AllFrom P n [] = Unit {0}
AllFrom P n (x ∷ xs) = P n x × AllFrom P (n + 1) xs

-- an action after this many pieces of the file begins there, if one stands there
abbrev pub BeginsThere : List ℕ → AfterText → ℕ → ℕ → Type 0
BeginsThere file variant.Nothing count at = Unit {0}
BeginsThere file (variant.Action line) count at = BeginsAt file count at
BeginsThere file (variant.Unreadable line) count at = BeginsAt file count at

-- the item at this place of the file begins there, unless it is a text
abbrev pub IsBegunAs : List ℕ → ItemKind → ℕ → ℕ → Type 0
IsBegunAs file (held.Text text) place at = Unit {0}
IsBegunAs file held.Unreadable place at = BeginsAt file place at
IsBegunAs file held.Unread place at = BeginsAt file place at
IsBegunAs file (held.TooDeep branch) place at = BeginsAt file place at
IsBegunAs file (held.Action a) place at = BeginsAt file place at

-- the item at this place of the file begins where it says
abbrev pub IsBegun : List ℕ → ℕ → Item → Type 0
IsBegun file place x = IsBegunAs file x.what place x.start

-- .. and so does what is refused of it
abbrev pub IsSited : List ℕ → ℕ → Site → Type 0
IsSited file place x = IsBegun file place x.item

abbrev pub IsStarted : List ℕ → Found → Type 0
IsStarted file f = StartsAt file f.kind f.place f.start

-- ---- definitions

-- where an action begins, if it defines a template
abbrev pub action_start : held_action.Action → ℕ → List ℕ
action_start (action.Define name) at = at ∷ []
action_start (action.Block name p) at = at ∷ []
action_start a at = []

abbrev pub header_start : ItemKind → ℕ → List ℕ
header_start (held.Action a) at = action_start a at
header_start what at = []

-- where the headers among items begin
abbrev pub starts_in : List Item → List ℕ
starts_in [] = []
starts_in (x ∷ xs) = header_start x.what x.start ++ starts_in xs

-- where definitions begin
abbrev pub starts_of : List Definition → List ℕ
starts_of ds = map (λ (d : Definition). d.start) ds

abbrev pub open_starts : OpenParts → List ℕ
open_starts p = starts_of (reverse p.definitions.items)

-- a definition with where it begins in place of its line
abbrev pub definition_at : Definition → tree.Definition
definition_at d = definition d.start d.name (nodes_in d.nodes.items)

-- a refusal of a second definition is told where that begins
abbrev pub IsSecondStart : List ℕ → ParseKind → ℕ → Type 0
IsSecondStart file kind.SecondDefinition start = StartsSecond file start
IsSecondStart file k start = Unit {0}

abbrev pub StartsRight : List ℕ → Result (Unit {0}) Refusal → Type 0
StartsRight file (Ok u) = Unit {0}
StartsRight file (Err r) = IsSecondStart file r.kind r.start
