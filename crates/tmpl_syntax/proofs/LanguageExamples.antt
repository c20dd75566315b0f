-- For the reader of languages: what those that else branches tell apart read of some tokens.
use Rattle.std.proofs.Common.{◌≡◌, List, [], ◌∷◌, true, false, refl, subst, codes}
use Rattle.tmpl_lex.specs.declared.piece.TokenKind.TheVariants as kind
use Rattle.tmpl_lex.specs.Piece.{Token, action}
use Rattle.tmpl_grammar.specs.Tree.{dot, operand, no_operand, command, no_command, unbound, Header}
use Rattle.tmpl_grammar.specs.Action.{plain_else, else_branch}
use Rattle.tmpl_grammar.specs.Print.{token, space, word}
use Rattle.tmpl_grammar.specs.declared.action.Branch.TheVariants.{If as if_branch}
use Rattle.tmpl_grammar.specs.computed.Operand.{operand_at}
use Rattle.tmpl_grammar.specs.computed.Parser.{step, finished}
use Rattle.tmpl_grammar.specs.computed.Reading.{keyword_of, split, pipeline_in, action_in}
use Rattle.tmpl_syntax.specs.Language.{Language, go_1_22}
use Rattle.tmpl_syntax.specs.Fault as reason
use Rattle.tmpl_syntax.specs.Item.{Item, item, flawed_item, action_item, IsItem}
use Rattle.tmpl_syntax.proofs.ItemLemmas.{item_for, piece-item}

-- a language of no else branches
abbrev without : Language
without (else_branch b h) = false
without a = true

-- `{{else if .}}`, `{{else}}`
abbrev else_if : List Token
else_if = word (codes "else") ∷ space ∷ word (codes "if") ∷ space ∷ token kind.Dot (codes ".") ∷ []

abbrev else_alone : List Token
else_alone = word (codes "else") ∷ []

abbrev of_dot : Header
of_dot = record { binding = unbound; pipeline = command (operand dot no_operand) no_command }

-- the relation says so where the function does
reads : (language : Language) (ts : List Token) (x : Item) → item_for language (action 1 ts) ≡ x → IsItem language (action 1 ts) x
reads language ts x e = subst (IsItem language (action 1 ts)) e (piece-item language (action 1 ts))

an-else-if : IsItem go_1_22 (action 1 else_if) (item 1 (action_item (else_branch if_branch of_dot)))
unfolding action_in keyword_of split pipeline_in operand_at step finished
an-else-if = reads go_1_22 else_if (item 1 (action_item (else_branch if_branch of_dot))) refl

an-else-if-that-is-none : IsItem without (action 1 else_if) (item 1 (flawed_item reason.not_an_action))
unfolding action_in keyword_of split pipeline_in operand_at step finished
an-else-if-that-is-none = reads without else_if (item 1 (flawed_item reason.not_an_action)) refl

an-else-without-language : IsItem without (action 1 else_alone) (item 1 (action_item plain_else))
unfolding action_in keyword_of split pipeline_in
an-else-without-language = reads without else_alone (item 1 (action_item plain_else)) refl
