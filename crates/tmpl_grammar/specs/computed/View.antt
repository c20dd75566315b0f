-- What Rust values of the steps of a reading stand for.
use Rattle.std.specs.Prelude.{ℕ, List, map, reverse, option_map}
use Rattle.std.specs.Borrow.{Bor}
use Rattle.tmpl_values.specs.Rune.{Rune, char, byte}
use Rattle.tmpl_lex.specs.declared.piece.Token as held_token
use Rattle.tmpl_lex.specs.Piece.{Token}
use Rattle.tmpl_lex.specs.View.{token_of}
use Rattle.tmpl_grammar.specs.Tree.{Binding, declare, assign, declare_pair}
use Rattle.tmpl_grammar.specs.computed.Depth as depth
use Rattle.tmpl_grammar.specs.View.{operand_of, command_of, binding_of, action_of}
use Rattle.tmpl_grammar.specs.computed.Reading as reading
use Rattle.tmpl_grammar.specs.computed.Parser as parser
use Rattle.tmpl_grammar.specs.declared.tree.Binding as held_binding
use Rattle.tmpl_grammar.specs.declared.action.Reading as held_reading
use Rattle.tmpl_grammar.specs.declared.action.Reading.TheVariants as held
use Rattle.tmpl_grammar.specs.declared.constant.quoted.QuotedPart.{QuotedPart}
use Rattle.tmpl_grammar.specs.declared.constant.quoted.QuotedPart.TheVariants as part
use Rattle.tmpl_grammar.specs.declared.header.VariableFront.{VariableFront}
use Rattle.tmpl_grammar.specs.declared.header.Front.{Front}
use Rattle.tmpl_grammar.specs.declared.header.Front.TheVariants as front
use Rattle.tmpl_grammar.specs.declared.pipeline.parser.PipelineParser.{PipelineParser}
use Rattle.tmpl_grammar.specs.declared.pipeline.parser.PartialPipeline.{PartialPipeline}

abbrev pub action_reading : held_reading.Reading → depth.Reading
action_reading held.Unread = depth.unread
action_reading (held.TooDeep branch) = depth.too_deep branch
action_reading (held.Read a) = depth.read (action_of a)

abbrev pub quoted_of : List ℕ × Bor (List held_token.Token) → List ℕ × List Token
quoted_of p = (p.0, map token_of p.1.now)

abbrev pub next_of : held_token.Token × Bor (List held_token.Token) → Token × List Token
next_of p = (token_of p.0, map token_of p.1.now)

abbrev pub variable_front_of : VariableFront → reading.VariableFront
variable_front_of s = record { name = s.name.now; next_kind = s.next_kind; rest = map token_of s.rest.now }

abbrev pub front_of : Front → reading.Front
front_of front.Plain = reading.plain
front_of (front.Declare name ts) = reading.bound (declare name.now) (map token_of ts.now)
front_of (front.Assign name ts) = reading.bound (assign name.now) (map token_of ts.now)
front_of (front.DeclarePair key name ts) = reading.bound (declare_pair key.now name.now) (map token_of ts.now)

abbrev pub split_of : held_binding.Binding × Bor (List held_token.Token) → Binding × List Token
split_of h = (binding_of h.0, map token_of h.1.now)

abbrev pub partial_of : PartialPipeline → parser.Partial
partial_of l = record { commands = map command_of l.commands.items; operands = map operand_of l.operands.items }

abbrev pub parser_of : PipelineParser → parser.Parser
parser_of h = record {
  outer = reverse (map partial_of h.outer.items);
  inner = partial_of h.inner;
  last = option_map operand_of h.last;
}

-- what a part between quotes stands for, and how many bytes spell it
abbrev pub rune_of : QuotedPart → Rune
rune_of (part.Byte b) = byte b
rune_of (part.Char c) = char c

abbrev pub spelled_of : QuotedPart × ℕ → Rune × ℕ
spelled_of p = (rune_of p.0, p.1)
