-- For `printed_tokens`: the tokens of a printed pipeline or action are read from its bytes.
use Rattle.std.proofs.Common.{arith, nat_eq, not, ◌&&◌, codes, ◌≡◌, ℕ, Bool, true, false, List, [], ◌∷◌, ◌++◌, Option, Some, None, refl, sym, subst}
use Rattle.std.proofs.Common.{append_assoc}
use Rattle.tmpl_values.specs.Quote.{quote}
use Rattle.tmpl_values.specs.Printable.{printable}
use Rattle.tmpl_funcs.specs.declared.func.Func.{Func}
use Rattle.tmpl_funcs.specs.Func.{name_of}
use Rattle.std.specs.Char.{is_ascii_digit}
use Rattle.std.specs.List.{list_all}
use Rattle.std.proofs.lemmas.Bool.{and_parts}
use Rattle.std.proofs.lemmas.Bool.Decides.{nat_tests}
use Rattle.tmpl_lex.specs.Bytes.{is_space, is_name_byte, is_number_byte, Stops}
use Rattle.tmpl_lex.specs.Token.{IsToken}
use Rattle.tmpl_lex.specs.declared.piece.TokenKind.{TokenKind}
use Rattle.tmpl_lex.specs.Piece.{Token}
use Rattle.tmpl_lex.specs.Token as row
use Rattle.tmpl_lex.specs.declared.piece.TokenKind.TheVariants as kind
use Rattle.tmpl_grammar.specs.Tree as tree
use Rattle.tmpl_grammar.specs.Tree.{Operand, Operands, Pipeline, Binding, unbound, declare, assign, declare_pair}
use Rattle.tmpl_grammar.specs.Action.{Action, pipeline_action, opening, plain_else, else_branch, end_action, break_action, continue_action, define_action}
use Rattle.tmpl_grammar.specs.Action.{template_action, block_action, control_in}
use Rattle.tmpl_grammar.specs.Keyword.{control_spelling}
use Rattle.tmpl_values.specs.Text.{truth_text}
use Rattle.tmpl_grammar.specs.Print.{bytes_of, Spells, IsInside, token, space, word, variable_token, chain_tokens, operand_tokens, more_tokens, command_tokens}
use Rattle.tmpl_grammar.specs.Print.{later_tokens, pipeline_tokens, header_tokens, action_tokens, binding_tokens, given_tokens}
use Rattle.tmpl_grammar.specs.Printable.{IsNamed, IsFieldName, AreFieldNames, OfOperand, OfMore, OfCommand, OfLater, OfCommands, OfPipeline, OfBinding, OfGiven}
use Rattle.tmpl_grammar.specs.Printable.{OfAction}
use Rattle.tmpl_grammar.specs.declared.tree.Control.{Control}
use Rattle.tmpl_grammar.proofs.FrontLemmas.{IsFront, Solid, solid, solid-unmarked, stops-name, word-front, field-front, variable-front, space-front}
use Rattle.tmpl_grammar.proofs.FrontLemmas.{bytes-append, spells-append}
use Rattle.tmpl_grammar.proofs.QuoteTokenLemmas.{quoted-inside}
use Rattle.tmpl_grammar.proofs.PrintedNumberLemmas.{number-stands}

-- these bytes end a number, and so any token that stands before them
abbrev pub EndsToken : List ℕ → Type 0
EndsToken rest = Stops is_number_byte rest

-- tokens that are read, and whose bytes may stand after a space
pub record Reads (ts : List Token) (rest : List ℕ) : Type 0 where
  pub spells : Spells ts rest
  pub firm : Solid (bytes_of ts ++ rest)

-- a token, and those after it
pub token-reads : {t : Token} (ts : List Token) (rest : List ℕ) → IsFront t (bytes_of ts ++ rest) → Solid (t.bytes ++ (bytes_of ts ++ rest)) → Spells ts rest
    → Reads (t ∷ ts) rest
token-reads {t} ts rest f s l = record { spells = (f, l); firm = rw (append_assoc t.bytes (bytes_of ts) rest) s }

abbrev is_word : List ℕ → Bool
is_word [] = false
is_word (b ∷ bs) = not (is_ascii_digit b) && list_all is_name_byte (b ∷ bs)

word-reads : (bs : List ℕ) (ts : List Token) (rest : List ℕ) → is_word bs ≡ true → Stops is_name_byte (bytes_of ts ++ rest) → Spells ts rest
    → Reads (word bs ∷ ts) rest
word-reads [] ts rest is stop l = absurd (cc)
word-reads (b ∷ bs) ts rest is stop l =
    let both = and_parts (not (is_ascii_digit b)) (list_all is_name_byte (b ∷ bs)) is in
    let digit : is_ascii_digit b ≡ false = grind (arith, nat_tests) in
    let name : is_name_byte b ≡ true = (and_parts (is_name_byte b) (list_all is_name_byte bs) both.1).0 in
    token-reads ts rest (word-front b bs _ digit both.1 stop) (solid (grind (arith, nat_tests)) (grind (arith, nat_tests))) l

-- ---- chains

field-stands : (n : List ℕ) (rest : List ℕ) → IsFieldName n → Stops is_name_byte rest → IsFront (token kind.Field (46 ∷ n)) rest
field-stands n rest h k = grind (arith, nat_tests, field-front)

chain-stops : (ns : List (List ℕ)) (rest : List ℕ) → EndsToken rest → Stops is_name_byte (bytes_of (chain_tokens ns) ++ rest)
chain-stops [] rest stop = stops-name rest stop
chain-stops (n ∷ ns) rest stop = refl

chain-spells : (ns : List (List ℕ)) (rest : List ℕ) → AreFieldNames ns → EndsToken rest → Spells (chain_tokens ns) rest
chain-spells [] rest h stop = tt
chain-spells (n ∷ ns) rest h stop = (field-stands n (bytes_of (chain_tokens ns) ++ rest) h.0 (chain-stops ns rest stop), chain-spells ns rest h.1 stop)

-- ---- operands of one token

function-word : (f : Func) → is_word (name_of f) ≡ true
function-word f = grind (arith, nat_tests)

truth-word : (b : Bool) → is_word (truth_text b) ≡ true
truth-word b = grind (arith, nat_tests)

string-reads : (bs : List ℕ) (ts : List Token) (rest : List ℕ) → Spells ts rest → Reads (token kind.String (quote bs) ∷ ts) rest
unfolding quote
string-reads bs ts rest l = token-reads ts rest (row.string (quoted-inside printable bs)) (solid refl refl) l

-- ---- pipelines

later-stops : (cs : Pipeline) (rest : List ℕ) → EndsToken rest → EndsToken (bytes_of (later_tokens cs) ++ rest)
later-stops tree.no_command rest stop = stop
later-stops (tree.command os cs) rest stop = refl

more-stops : (os : Operands) (rest : List ℕ) → EndsToken rest → EndsToken (bytes_of (more_tokens os) ++ rest)
more-stops tree.no_operand rest stop = stop
more-stops (tree.operand o os) rest stop = refl

-- one list after another
reads-append : (ts us : List Token) (rest : List ℕ) → Reads ts (bytes_of us ++ rest) → Spells us rest → Reads (ts ++ us) rest
reads-append ts us rest r l = record { spells = spells-append ts us rest r.spells l; firm = subst Solid (sym (bytes-append ts us rest)) r.firm }

mutual
  operand-reads : (o : Operand) (rest : List ℕ) → OfOperand o → EndsToken rest → Reads (operand_tokens o) rest
  operand-reads tree.dot rest h stop = token-reads [] rest (row.dot (stops-name rest stop)) (solid refl refl) tt
  operand-reads (tree.fields []) rest h stop = absurd h
  operand-reads (tree.fields (n ∷ ns)) rest h stop =
      let s = chain-spells (n ∷ ns) rest h stop in
      token-reads (chain_tokens ns) rest s.0 (solid refl refl) s.1
  operand-reads (tree.variable name names) rest h stop =
      token-reads (chain_tokens names) rest (variable-front name _ h.0 (chain-stops names rest stop)) (solid refl refl) (chain-spells names rest h.1 stop)
  operand-reads (tree.bool_constant b) rest h stop = word-reads (truth_text b) [] rest (truth-word b) (stops-name rest stop) tt
  operand-reads (tree.number_constant n) rest h stop = let s = number-stands n rest h stop in token-reads [] rest s.front s.solid_is tt
  operand-reads (tree.text_constant bytes) rest h stop = string-reads bytes [] rest tt
  operand-reads tree.nil rest h stop = word-reads (codes "nil") [] rest refl (stops-name rest stop) tt
  operand-reads (tree.function f) rest h stop = word-reads (name_of f) [] rest (function-word f) (stops-name rest stop) tt
  operand-reads (tree.group commands names) rest h stop =
      let inner = commands-reads commands (41 ∷ (bytes_of (chain_tokens names) ++ rest)) h.0 refl in
      token-reads _ rest row.left_parenthesis (solid refl refl)
      (spells-append (pipeline_tokens commands) (token kind.RightParenthesis (41 ∷ []) ∷ chain_tokens names) rest inner.spells
      (row.right_parenthesis, chain-spells names rest h.1 stop))

  more-spells : (os : Operands) (rest : List ℕ) → OfMore os → EndsToken rest → Spells (more_tokens os) rest
  more-spells tree.no_operand rest h stop = tt
  more-spells (tree.operand o os) rest h stop =
      let r = reads-append (operand_tokens o) (more_tokens os) rest (operand-reads o (bytes_of (more_tokens os) ++ rest) h.0 (more-stops os rest stop))
      (more-spells os rest h.1 stop) in
      (space-front _ r.firm, r.spells)

  command-reads : (os : Operands) (rest : List ℕ) → OfCommand os → EndsToken rest → Reads (command_tokens os) rest
  command-reads tree.no_operand rest h stop = absurd h
  command-reads (tree.operand o os) rest h stop = reads-append (operand_tokens o) (more_tokens os) rest
      (operand-reads o (bytes_of (more_tokens os) ++ rest) h.0 (more-stops os rest stop)) (more-spells os rest h.1 stop)

  later-spells : (cs : Pipeline) (rest : List ℕ) → OfLater cs → EndsToken rest → Spells (later_tokens cs) rest
  later-spells tree.no_command rest h stop = tt
  later-spells (tree.command os cs) rest h stop =
      let r = reads-append (command_tokens os) (later_tokens cs) rest (command-reads os (bytes_of (later_tokens cs) ++ rest) h.1 (later-stops cs rest stop))
      (later-spells cs rest h.2 stop) in
      (space-front _ (solid refl refl), (row.pipe, (space-front _ r.firm, r.spells)))

  commands-reads : (cs : Pipeline) (rest : List ℕ) → OfCommands cs → EndsToken rest → Reads (pipeline_tokens cs) rest
  commands-reads tree.no_command rest h stop = absurd h
  commands-reads (tree.command os cs) rest h stop = reads-append (command_tokens os) (later_tokens cs) rest
      (command-reads os (bytes_of (later_tokens cs) ++ rest) h.0 (later-stops cs rest stop)) (later-spells cs rest h.1 stop)

-- ---- actions

-- a variable, a sign, and a pipeline after them
signed-reads : (name : List ℕ) (k : TokenKind) (b : ℕ) (bs : List ℕ) (p : Pipeline) (rest : List ℕ) → IsNamed name → ((us : List ℕ) → IsToken k (b ∷ bs) us)
    → is_space b ≡ false → nat_eq b 45 ≡ false → OfPipeline p → EndsToken rest
    → Reads (variable_token name ∷ space ∷ token k (b ∷ bs) ∷ space ∷ pipeline_tokens p) rest
signed-reads name k b bs p rest h front white dash of stop =
    let r = commands-reads p rest of.0 stop in
    token-reads _ rest (variable-front name _ h refl) (solid refl refl) (space-front _ (solid white dash), (front _, (space-front _ r.firm, r.spells)))

header-reads : (b : Binding) (p : Pipeline) (rest : List ℕ) → OfBinding b → OfPipeline p → EndsToken rest → Reads (binding_tokens b ++ pipeline_tokens p) rest
header-reads unbound p rest h k stop = commands-reads p rest k.0 stop
header-reads (declare name) p rest h k stop = signed-reads name kind.Declare 58 (61 ∷ []) p rest h.1 (λ us. row.declare) refl refl k stop
header-reads (assign name) p rest h k stop = signed-reads name kind.Assign 61 [] p rest h.1 (λ us. row.assign) refl refl k stop
header-reads (declare_pair key name) p rest h k stop =
    let r = signed-reads name kind.Declare 58 (61 ∷ []) p rest h.1.1 (λ us. row.declare) refl refl k stop in
    token-reads _ rest (variable-front key _ h.0.1 refl) (solid refl refl) (row.comma, (space-front _ r.firm, r.spells))

-- a keyword, and tokens after it and a space
keyword-reads : (bs : List ℕ) (ts : List Token) (rest : List ℕ) → is_word bs ≡ true → Reads ts rest → Reads (word bs ∷ space ∷ ts) rest
keyword-reads bs ts rest is r = word-reads bs (space ∷ ts) rest is refl (space-front _ r.firm, r.spells)

control-word : (c : Control) → is_word (control_spelling c) ≡ true
control-word c = grind (arith, nat_tests)

-- a name, and a pipeline after it or nothing
given-reads : (name : List ℕ) (given : Option Pipeline) (rest : List ℕ) → OfGiven given → EndsToken rest
    → Reads (token kind.String (quote name) ∷ given_tokens given) rest
given-reads name None rest h stop = string-reads name [] rest tt
given-reads name (Some p) rest h stop =
    let r = commands-reads p rest h.0 stop in
    string-reads name (space ∷ pipeline_tokens p) rest (space-front _ r.firm, r.spells)

pub action-reads : (a : Action) (rest : List ℕ) → OfAction a → EndsToken rest → Reads (action_tokens a) rest
action-reads (pipeline_action h) rest of stop = header-reads h.binding h.pipeline rest of.1 of.2 stop
action-reads (opening c h) rest of stop =
    keyword-reads (control_spelling c) (header_tokens h) rest (control-word c) (header-reads h.binding h.pipeline rest of.1 of.2 stop)
action-reads (else_branch br h) rest of stop =
    let c = control_in br in
    keyword-reads (codes "else") (word (control_spelling c) ∷ space ∷ header_tokens h) rest refl
    (keyword-reads (control_spelling c) (header_tokens h) rest (control-word c) (header-reads h.binding h.pipeline rest of.1 of.2 stop))
action-reads (define_action name) rest of stop =
    keyword-reads (codes "define") (token kind.String (quote name) ∷ []) rest refl (string-reads name [] rest tt)
action-reads (template_action name given) rest of stop =
    keyword-reads (codes "template") (token kind.String (quote name) ∷ given_tokens given) rest refl (given-reads name given rest of.1 stop)
action-reads (block_action name p) rest of stop =
    keyword-reads (codes "block") (token kind.String (quote name) ∷ given_tokens (Some p)) rest refl (given-reads name (Some p) rest of.1 stop)
action-reads plain_else rest of stop = word-reads (codes "else") [] rest refl (stops-name rest stop) tt
action-reads end_action rest of stop = word-reads (codes "end") [] rest refl (stops-name rest stop) tt
action-reads break_action rest of stop = word-reads (codes "break") [] rest refl (stops-name rest stop) tt
action-reads continue_action rest of stop = word-reads (codes "continue") [] rest refl (stops-name rest stop) tt

pub action-inside : (a : Action) → OfAction a → IsInside (action_tokens a)
action-inside a h = record {
  spells = λ rest. (action-reads a (125 ∷ 125 ∷ rest) h refl).spells;
  unmarked = λ rest. solid-unmarked (action-reads a (125 ∷ 125 ∷ rest) h refl).firm;
}

pub ruleset tokens = (action-inside)
