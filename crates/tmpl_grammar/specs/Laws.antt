-- The laws that what is computed is what the grammar admits, and that it is one at most.
use Rattle.std.specs.Prelude.{◌≡◌, List, Option, Some}
use Rattle.tmpl_lex.specs.Piece.{Token}
use Rattle.tmpl_grammar.specs.Tree.{Pipeline}
use Rattle.tmpl_grammar.specs.Action.{Action, SpellsAction}
use Rattle.tmpl_grammar.specs.Pipeline.{SpellsPipeline}
use Rattle.tmpl_grammar.specs.Print.{IsInside, action_tokens}
use Rattle.tmpl_grammar.specs.Printable.{OfAction}

-- what is admitted is computed
abbrev pub IsComputed : {X Y : Type 0} → (X → Y → Type 0) → (X → Option Y) → Type 0
IsComputed {X} {Y} Admits computed = (x : X) (y : Y) → Admits x y → computed x ≡ Some y

-- .. and what is computed is admitted
abbrev pub IsAdmitted : {X Y : Type 0} → (X → Y → Type 0) → (X → Option Y) → Type 0
IsAdmitted {X} {Y} Admits computed = (x : X) (y : Y) → computed x ≡ Some y → Admits x y

-- one is admitted at most
abbrev pub AdmitsOne : {X Y : Type 0} → (X → Y → Type 0) → Type 0
AdmitsOne {X} {Y} Admits = (x : X) (y z : Y) → Admits x y → Admits x z → y ≡ z

-- these tokens spell this pipeline, and this action
abbrev pub IsPipeline : List Token → Pipeline → Type 0
IsPipeline ts p = SpellsPipeline p ts

abbrev pub IsAction : List Token → Action → Type 0
IsAction ts a = SpellsAction a ts

-- the tokens of a printed action may stand in an action, whatever stands after it
abbrev pub PrintsTokens : Type 0
PrintsTokens = (a : Action) → OfAction a → IsInside (action_tokens a)

-- .. and spell the action
abbrev pub SpellsTokens : Type 0
SpellsTokens = (a : Action) → OfAction a → SpellsAction a (action_tokens a)
