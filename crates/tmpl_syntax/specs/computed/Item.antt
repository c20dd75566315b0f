-- The items of a file's pieces, computed.
use Rattle.std.specs.Prelude.{List, map}
use Rattle.tmpl_lex.specs.Piece as piece
use Rattle.tmpl_grammar.specs.computed.Depth.{Reading, unread, too_deep, read}
use Rattle.tmpl_grammar.specs.computed.Reading.{reading_in}
use Rattle.tmpl_syntax.specs.Fault as reason
use Rattle.tmpl_syntax.specs.Item.{ItemKind, text_item, flawed_item, deep_item, action_item, Item, item}

abbrev pub read_item : Reading → ItemKind
read_item unread = flawed_item reason.not_an_action
read_item (too_deep branch) = deep_item branch
read_item (read a) = action_item a

abbrev pub item_in : piece.Piece → Item
item_in (piece.text line bytes) = item line (text_item bytes)
item_in (piece.action line tokens) = item line (read_item (reading_in tokens))
item_in (piece.unreadable line) = item line (flawed_item reason.unreadable)

-- the items of a file's pieces
abbrev pub items_in : List piece.Piece → List Item
items_in ps = map item_in ps
