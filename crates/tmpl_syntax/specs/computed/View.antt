-- What Rust values of the steps between a file and its trees stand for.
use Rattle.std.specs.Prelude.{ℕ, List, Option, map, reverse, option_map}
use Rattle.std.specs.Borrow.{Bor}
use Rattle.tmpl_grammar.specs.View.{action_of}
use Rattle.tmpl_syntax.specs.Tree.{NodeKind, Node, Definition}
use Rattle.tmpl_syntax.specs.Spelling.{definition}
use Rattle.tmpl_syntax.specs.Fault as reason
use Rattle.tmpl_syntax.specs.Item.{ItemKind, text_item, flawed_item, deep_item, action_item, Item, item}
use Rattle.tmpl_syntax.specs.Place.Role.{Name}
use Rattle.tmpl_syntax.specs.View.{kind_step, control_step, node_step, nodes_in}
use Rattle.tmpl_syntax.specs.computed.Build as build
use Rattle.tmpl_syntax.specs.computed.Print as print
use Rattle.tmpl_syntax.specs.Place.Opening.{Opening, control, define, block}
use Rattle.tmpl_syntax.specs.computed.Frames.{Frame, Known}
use Rattle.tmpl_syntax.specs.declared.tree.NodeKind as held_node_kind
use Rattle.tmpl_syntax.specs.declared.tree.NodeKind.{fold-NodeKind}
use Rattle.tmpl_syntax.specs.declared.tree.Definition as held_definition
use Rattle.tmpl_syntax.specs.declared.item.Item as held_item
use Rattle.tmpl_syntax.specs.declared.item.ItemKind as held_kind
use Rattle.tmpl_syntax.specs.declared.item.ItemKind.TheVariants as held
use Rattle.tmpl_syntax.specs.declared.print.Page.{Page}
use Rattle.tmpl_syntax.specs.declared.place.frame.Frame as held_frame
use Rattle.tmpl_syntax.specs.declared.place.frame.Opening as held_opening
use Rattle.tmpl_syntax.specs.declared.place.frame.Opening.TheVariants as held_opened
use Rattle.tmpl_syntax.specs.declared.place.names.KnownNames.{KnownNames}
use Rattle.tmpl_syntax.specs.declared.place.scopes.Scopes.{Scopes}
use Rattle.tmpl_syntax.specs.declared.build.Level.{Level}
use Rattle.tmpl_syntax.specs.declared.build.OpenParts.{OpenParts}

-- ---- items

abbrev pub item_kind : held_kind.ItemKind → ItemKind
item_kind (held.Text bytes) = text_item bytes
item_kind held.Unreadable = flawed_item reason.unreadable
item_kind held.Unread = flawed_item reason.not_an_action
item_kind (held.TooDeep branch) = deep_item branch
item_kind (held.Action a) = action_item (action_of a)

abbrev pub item_of : held_item.Item → Item
item_of x = item x.line (item_kind x.what)

-- ---- the check of places

unfoldable pub known_names : KnownNames → List Name
known_names d = map (λ (n : Bor (List ℕ)). n.now) d.names.keys

unfoldable pub scopes_of : Scopes → Known
scopes_of s = record { inner = known_names s.inner; around = map known_names (reverse s.around.items) }

abbrev pub opening_of : held_opening.Opening → Opening
opening_of (held_opened.Control c) = control c
opening_of held_opened.Define = define
opening_of held_opened.Block = block

abbrev pub frame_of : held_frame.Frame → Frame
frame_of f = record {
  opening = opening_of f.opening;
  has_else = f.has_else;
  around = f.around;
  levels = f.levels;
  start = f.start;
  part = f.part;
}

-- of a stack the newest frame comes first
abbrev pub frames_in : List held_frame.Frame → List Frame
frames_in stack = map frame_of (reverse stack)

-- ---- the building of nodes

abbrev pub kind_of : held_node_kind.NodeKind → NodeKind
kind_of = fold-NodeKind NodeKind NodeKind Node kind_step control_step node_step

abbrev pub definition_of : held_definition.Definition → Definition
definition_of d = definition d.line d.name (nodes_in d.nodes.items)

-- of a part's nodes the last one comes first
abbrev pub level_of : Level → build.Level
level_of l = record { nodes = nodes_in (reverse l.nodes.items); other = nodes_in l.other.items }

unfoldable pub parts_of : OpenParts → build.OpenParts
parts_of p = record {
  inner = level_of p.inner;
  around = map level_of (reverse p.around.items);
  definitions = map definition_of (reverse p.definitions.items);
}

-- ---- printing

-- a text, if there is one
abbrev pub text_of : Option (Bor (List ℕ)) → Option (List ℕ)
text_of before = option_map (λ (t : Bor (List ℕ)). t.now) before

unfoldable pub page_of : Page → print.Page
page_of p = (p.bytes.items, text_of p.before)
