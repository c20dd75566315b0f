-- What the parts of a line stand for.
use Rattle.std.specs.Prelude.{◌++◌, List, [], ◌∷◌, decimal}
use Rattle.tmpl_values.specs.Quote.{quote}
use Rattle.tmpl_meaning.specs.View.{cause_of}
use Rattle.tmpl_engine.specs.Reason.{cause_text}
use Rattle.tmpl_tool.specs.Source.{Bytes}
use Rattle.tmpl_tool.specs.declared.messages.part.LinePart.{LinePart}
use Rattle.tmpl_tool.specs.declared.messages.part.LinePart.TheVariants as part

-- the bytes of a part of a line
abbrev pub part_bytes : LinePart → Bytes
part_bytes (part.Text t) = t.now
part_bytes (part.Bytes b) = b.now
part_bytes (part.Quoted name) = quote name.now
part_bytes (part.Number n) = decimal n
part_bytes (part.Reason kind) = cause_text (cause_of kind.now)

-- .. and of parts, one after the other
abbrev pub parts_bytes : List LinePart → Bytes
parts_bytes [] = []
parts_bytes (p ∷ []) = part_bytes p
parts_bytes (p ∷ ps) = part_bytes p ++ parts_bytes ps
