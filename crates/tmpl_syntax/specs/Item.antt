-- The pieces of a file with each action read: what they are read as, by the grammar of actions and the limit of
-- parentheses.
use Rattle.std.specs.Prelude.{◌≡◌, ◌≤◌, ◌<◌, ℕ, true, false, List, Option}
use Rattle.std.specs.List.{AllZip}
use Rattle.tmpl_lex.specs.Cut.{Cuts}
use Rattle.tmpl_lex.specs.Piece.{Token, Piece, text, action, unreadable}
use Rattle.tmpl_grammar.specs.Action.{Action, branch_in, SpellsAction}
use Rattle.tmpl_grammar.specs.Depth.{depth_of, most_deep}
use Rattle.tmpl_grammar.specs.declared.action.Branch.{Branch}
use Rattle.tmpl_syntax.specs.Fault as reason
use Rattle.tmpl_syntax.specs.Fault.{Reason}
use Rattle.tmpl_syntax.specs.Language.{Language}

-- a text, an action that is unreadable or has no reading and is refused for this reason, one whose parentheses nest too
-- deep, where it is an else branch of this control, or one that is read
pub data ItemKind : Type 0 where
  text_item : List ℕ → ItemKind
  flawed_item : Reason → ItemKind
  deep_item : Option Branch → ItemKind
  action_item : Action → ItemKind

-- with its line
pub data Item : Type 0 where
  item : ℕ → ItemKind → Item

-- in this language a piece is read as this item
pub data IsItem (has : Language) : Piece → Item → Type 0 where
  a_text : {line : ℕ} {bytes : List ℕ} → IsItem has (text line bytes) (item line (text_item bytes))
  an_unreadable : {line : ℕ} → IsItem has (unreadable line) (item line (flawed_item reason.unreadable))
  -- tokens that spell no action of the language
  unread : {line : ℕ} {ts : List Token} → ((a : Action) → SpellsAction a ts → has a ≡ true → ⊥)
      → IsItem has (action line ts) (item line (flawed_item reason.not_an_action))
  -- tokens that spell one whose parentheses nest too deep
  too_deep : {line : ℕ} {ts : List Token} (a : Action) → SpellsAction a ts → has a ≡ true → most_deep < depth_of a
      → IsItem has (action line ts) (item line (deep_item (branch_in a)))
  -- tokens that spell one within the limit
  read : {line : ℕ} {ts : List Token} {a : Action} → SpellsAction a ts → has a ≡ true → depth_of a ≤ most_deep
      → IsItem has (action line ts) (item line (action_item a))

-- a file of these bytes is cut into pieces that are read as these items, one by one
abbrev pub HasItems : Language → List ℕ → List Item → Type 0
HasItems language bytes items = (ps : List Piece) × Cuts false 1 bytes ps × AllZip (IsItem language) ps items
