-- For `printed_spelling`: the tokens of a printed pipeline or action spell it.
use Rattle.std.proofs.Common.{arith, ◌≡◌, ◌∙◌, ◌<◌, ℕ, Bool, false, List, [], ◌∷◌, ◌++◌, length, Option, refl, sym, ap, subst, append_assoc}
use Rattle.tmpl_values.specs.Quote.{quote}
use Rattle.tmpl_values.specs.Printable.{printable}
use Rattle.tmpl_values.specs.Bytes.{AreBytes}
use Rattle.tmpl_funcs.specs.Func.{name_of}
use Rattle.tmpl_lex.specs.Piece.{Token}
use Rattle.tmpl_lex.specs.declared.piece.TokenKind.TheVariants as kind
use Rattle.tmpl_grammar.specs.Tree as tree
use Rattle.tmpl_grammar.specs.Tree.{Operand, Operands, Pipeline, Binding, unbound, declare, assign, Header, declare_pair}
use Rattle.tmpl_grammar.specs.Action.{Action, pipeline_action, opening, else_branch, define_action, template_action, block_action, IsQuoted, SpellsGiven}
use Rattle.tmpl_grammar.specs.Action.{SpellsAction}
use Rattle.tmpl_grammar.specs.Pipeline.{IsBlank, SpellsPipeline}
use Rattle.tmpl_grammar.proofs.PartsLemmas.{pipeline-whole, ChainParts, OperandParts, MoreParts, CommandParts, LaterParts, PipelineParts}
use Rattle.tmpl_grammar.specs.Header.{is_range, Then, IsVariable, IsSign, SpellsHeader}
use Rattle.tmpl_grammar.specs.Constant.{IsConstant}
use Rattle.tmpl_grammar.specs.Operand as operand
use Rattle.tmpl_grammar.specs.Constant as constant
use Rattle.tmpl_grammar.specs.Print.{token, space, word, chain_tokens, operand_tokens, more_tokens, command_tokens, later_tokens, pipeline_tokens}
use Rattle.tmpl_grammar.specs.Print.{header_tokens, action_tokens, binding_tokens, given_tokens}
use Rattle.tmpl_grammar.specs.Printable.{AreFieldNames, OfOperand, OfMore, OfCommand, OfLater, OfCommands, OfPipeline, OfBinding, OfGiven, OfAction, OfHeader}
use Rattle.tmpl_grammar.proofs.QuotePartLemmas.{inside-spelled}
use Rattle.tmpl_grammar.proofs.PrintedNumberLemmas.{integer-spelled}
use Rattle.tmpl_grammar.proofs.HeaderLemmas.{Bound, binding-whole}

-- ---- operands of one token

spells-chain : (ns : List (List ℕ)) → AreFieldNames ns → ChainParts ns (chain_tokens ns)
spells-chain [] h = refl
spells-chain (n ∷ ns) h = (token kind.Field (46 ∷ n), chain_tokens ns, refl, refl, h.0.0, refl, spells-chain ns h.1)

quoted-constant : (bs : List ℕ) → AreBytes bs → IsConstant (token kind.String (quote bs)) (tree.text_constant bs)
unfolding quote
quoted-constant bs h =
    let t = inside-spelled printable bs h in
    subst (λ v. IsConstant (token kind.String (quote bs)) (tree.text_constant v)) t.is (constant.string t.spells)

-- ---- pipelines

-- what stands after a command: perhaps white space, and bars and commands
abbrev Follows : Pipeline → Type 0
Follows cs = (ws : List Token) × (us : List Token) × (later_tokens cs ≡ ws ++ us) × IsBlank ws × LaterParts cs us

-- commands, where white space may stand after the first
joined : (os : Operands) (cs : Pipeline) → ((ws : List Token) → IsBlank ws → CommandParts os (command_tokens os ++ ws)) → Follows cs
    → PipelineParts (tree.command os cs) (command_tokens os ++ later_tokens cs)
joined os cs spells (ws, us, is, blank, later) =
    (command_tokens os ++ ws, us, ap (λ us. command_tokens os ++ us) is ∙ sym (append_assoc (command_tokens os) ws us), spells ws blank, later)

-- a pipeline after one more space
spaced : (cs : Pipeline) (ts : List Token) → PipelineParts cs ts → PipelineParts cs (space ∷ ts)
spaced tree.no_command ts s = s
spaced (tree.command tree.no_operand cs) ts s = absurd s.3
spaced (tree.command (tree.operand o os) cs) ts (a, b, is, (ws, c, d, at, blank, first, more), later) =
    (space ∷ a, b, ap (λ ts. space ∷ ts) is, (space ∷ ws, c, d, ap (λ us. space ∷ us) at, (refl, blank), first, more), later)

mutual
  spells-operand : (o : Operand) → OfOperand o → OperandParts o (operand_tokens o)
  spells-operand tree.dot h = (token kind.Dot (46 ∷ []), [], refl, operand.dot, refl)
  spells-operand (tree.fields []) h = absurd h
  spells-operand (tree.fields (n ∷ ns)) h = (token kind.Field (46 ∷ n), chain_tokens ns, refl, operand.field refl h.0.0, spells-chain ns h.1)
  spells-operand (tree.variable name names) h = (token kind.Variable (36 ∷ name), chain_tokens names, refl, operand.variable refl, spells-chain names h.1)
  spells-operand (tree.bool_constant b) h = (word _, [], refl, operand.truth b, refl)
  spells-operand (tree.number_constant n) h = (token kind.Number _, [], refl, operand.a_constant (constant.number (integer-spelled n h)), refl)
  spells-operand (tree.text_constant bytes) h = (token kind.String (quote bytes), [], refl, operand.a_constant (quoted-constant bytes h), refl)
  spells-operand tree.nil h = (word _, [], refl, operand.nil_word, refl)
  spells-operand (tree.function f) h = (word (name_of f), [], refl, operand.a_function f, refl)
  spells-operand (tree.group commands names) h =
      (_, pipeline_tokens commands, _, chain_tokens names, refl, refl, refl, spells-commands commands h.0, spells-chain names h.1)

  -- with white space after it
  spells-more : (os : Operands) (ws : List Token) → OfMore os → IsBlank ws → MoreParts os (more_tokens os ++ ws)
  spells-more tree.no_operand ws h w = w
  spells-more (tree.operand o os) ws h w =
      let whole = ap (λ ts. space ∷ ts) (append_assoc (operand_tokens o) (more_tokens os) ws) in
      (space, [], operand_tokens o, more_tokens os ++ ws, whole, (refl, tt), spells-operand o h.0, spells-more os ws h.1 w)

  spells-command : (os : Operands) (ws : List Token) → OfCommand os → IsBlank ws → CommandParts os (command_tokens os ++ ws)
  spells-command tree.no_operand ws h w = h
  spells-command (tree.operand o os) ws h w =
      ([], operand_tokens o, more_tokens os ++ ws, append_assoc (operand_tokens o) (more_tokens os) ws, tt, spells-operand o h.0, spells-more os ws h.1 w)

  -- a command after white space
  follows : (cs : Pipeline) → OfLater cs → Follows cs
  follows tree.no_command h = ([], [], refl, tt, refl)
  follows (tree.command os cs) h =
      let bar = token kind.Pipe (124 ∷ []) in
      let s = spaced (tree.command os cs) _ (joined os cs (λ ws w. spells-command os ws h.1 w) (follows cs h.2)) in
      (space ∷ [], bar ∷ space ∷ pipeline_tokens (tree.command os cs), refl, (refl, tt), (bar, s.0, s.1, ap (λ ts. bar ∷ ts) s.2, refl, h.0, s.3, s.4))

  spells-commands : (cs : Pipeline) → OfCommands cs → PipelineParts cs (pipeline_tokens cs)
  spells-commands tree.no_command h = h
  spells-commands (tree.command os cs) h = joined os cs (λ ws w. spells-command os ws h.0 w) (follows cs h.1)

-- ---- actions

-- perhaps white space, such a token, and such tokens
led : {Is : Token → Type 0} {Rest : List Token → Type 0} (ws : List Token) (t : Token) (us : List Token) → IsBlank ws → Is t → Rest us
    → Then Is Rest (ws ++ t ∷ us)
led ws t us blank is rest = (ws, t, us, refl, blank, is, rest)

-- a pipeline after white space
spaced-pipeline : (cs : Pipeline) → OfPipeline cs → SpellsPipeline cs (space ∷ pipeline_tokens cs)
spaced-pipeline cs h = pipeline-whole cs (space ∷ pipeline_tokens cs) (spaced cs (pipeline_tokens cs) (spells-commands cs h.0))

-- a variable, and a sign and a pipeline after it
signed : (name : List ℕ) (p : Pipeline) (sign : Token) → 0 < length name → OfPipeline p
    → (ws : List Token) → IsBlank ws → Then (IsVariable name) (Then (IsSign sign.kind) (SpellsPipeline p))
    (ws ++ token kind.Variable (36 ∷ name) ∷ space ∷ sign ∷ space ∷ pipeline_tokens p)
signed name p sign h k ws w = led ws _ _ w (refl, refl, h) (led (space ∷ []) _ _ (refl, tt) refl (spaced-pipeline p k))

-- a header after white space
spells-bound : (b : Binding) (p : Pipeline) → OfBinding b → OfPipeline p → (ws : List Token) → IsBlank ws → SpellsPipeline p (ws ++ pipeline_tokens p)
    → Bound b (SpellsPipeline p) (ws ++ (binding_tokens b ++ pipeline_tokens p))
spells-bound unbound p h k ws w s = s
spells-bound (declare name) p h k ws w s = signed name p (token kind.Declare (58 ∷ 61 ∷ [])) h.0 k ws w
spells-bound (assign name) p h k ws w s = signed name p (token kind.Assign (61 ∷ [])) h.0 k ws w
spells-bound (declare_pair key name) p h k ws w s =
    led ws _ _ w (refl, refl, h.0.0) (led [] _ _ tt refl (signed name p (token kind.Declare (58 ∷ 61 ∷ [])) h.1.0 k (space ∷ []) (refl, tt)))

spells-header : (in_range : Bool) (h : Header) → OfHeader in_range h → SpellsHeader in_range h (space ∷ header_tokens h)
spells-header in_range h of =
    binding-whole in_range h.binding _ _ of.0 (spells-bound h.binding h.pipeline of.1 of.2 (space ∷ []) (refl, tt) (spaced-pipeline h.pipeline of.2))

spells-given : (given : Option Pipeline) → OfGiven given → SpellsGiven given (given_tokens given)
spells-given given h = grind (arith, spaced-pipeline)

-- a name in quotes, before what stands after it
named : {name : List ℕ} {Rest : List Token → Type 0} {ts : List Token} → AreBytes name → Rest ts
    → Then (IsQuoted name) Rest (space ∷ token kind.String (quote name) ∷ ts)
named h r = led (space ∷ []) _ _ (refl, tt) (quoted-constant _ h) r

pub spells-tokens : (a : Action) → OfAction a → SpellsAction a (action_tokens a)
spells-tokens (pipeline_action h) of =
    binding-whole false h.binding _ _ of.0 (spells-bound h.binding h.pipeline of.1 of.2 [] tt (pipeline-whole h.pipeline (pipeline_tokens h.pipeline) (spells-commands h.pipeline (let o = of.2 in o.0))))
spells-tokens (opening c h) of = led [] _ _ tt (refl, refl) (spells-header (is_range c) h of)
spells-tokens (else_branch br h) of = led [] _ _ tt (refl, refl) (led (space ∷ []) _ _ (refl, tt) (refl, refl) (spells-header false h of))
spells-tokens (define_action name) of = led [] _ _ tt (refl, refl) (named of tt)
spells-tokens (template_action name given) of = led [] _ _ tt (refl, refl) (named of.0 (spells-given given of.1))
spells-tokens (block_action name p) of = led [] _ _ tt (refl, refl) (named of.0 (spaced-pipeline p of.1))
spells-tokens _ of = led [] _ _ tt (refl, refl) tt

pub ruleset spellings = (spells-tokens)
