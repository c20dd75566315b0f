-- For `one_action`: the grammar of an action and its reading agree, keyword by keyword.
use Rattle.std.proofs.Common.{arith, ◌≡◌, ◌∙◌, ℕ, Bool, true, false, cond, List, ◌∷◌, ◌++◌, Option, Some, None, IfSome, option_map, refl, ap, sym, subst}
use Rattle.std.proofs.lemmas.Option.{IfSome_then}
use Rattle.std.proofs.lemmas.Bool.{cond_both}
use lib.Pointwise.{bytes_decides}
use Rattle.tmpl_lex.specs.declared.piece.TokenKind.{TokenKind}
use Rattle.tmpl_lex.specs.declared.piece.TokenKind.TheVariants as kind
use Rattle.tmpl_lex.specs.Piece.{Token}
use Rattle.tmpl_grammar.specs.computed.Token.{is_space_kind, is_white, is_blank, next}
use Rattle.tmpl_grammar.specs.Tree.{Operand, text_constant, Pipeline, Binding, unbound, declare, assign, declare_pair, Header}
use Rattle.tmpl_grammar.specs.Action.{Action, pipeline_action, opening, plain_else, else_branch, end_action, break_action, continue_action}
use Rattle.tmpl_grammar.specs.Action.{define_action, template_action, block_action, control_in, IsQuoted, SpellsGiven, SpellsAction}
use Rattle.tmpl_grammar.specs.Pipeline.{IsBlank, SpellsPipeline}
use Rattle.tmpl_grammar.specs.Header.{is_range, IsVariable, Then, SpellsHeader}
use Rattle.tmpl_grammar.specs.Keyword.{IsWord}
use Rattle.tmpl_grammar.specs.Constant.{IsConstant}
use Rattle.tmpl_grammar.specs.computed.Keyword.{spelling}
use Rattle.tmpl_grammar.specs.computed.Reading.{header_in, spells_keyword, keyword_by, keyword_of, branch_of, text_in, quoted_before, quoted_at, with_name}
use Rattle.tmpl_grammar.specs.computed.Reading.{named_action, define_by, call_with, template_by, block_by, else_keyword, else_by}
use Rattle.tmpl_grammar.specs.computed.Reading.{action_by, action_after, action_at, action_in}
use Rattle.tmpl_grammar.specs.computed.Constant.{constant_by, constant_of}
use Rattle.tmpl_grammar.specs.Laws.{IsAction, IsAdmitted, IsComputed}
use Rattle.tmpl_grammar.specs.declared.tree.Control.TheVariants as control
use Rattle.tmpl_grammar.specs.declared.action.Branch.{Branch}
use Rattle.tmpl_grammar.specs.declared.action.Branch.TheVariants as branch
use Rattle.tmpl_grammar.specs.declared.keyword.Keyword.{Keyword}
use Rattle.tmpl_grammar.specs.declared.keyword.Keyword.TheVariants as word
use Rattle.tmpl_grammar.proofs.OptionLemmas.{no-value, mapped, admitted}
use Rattle.tmpl_grammar.proofs.TokenLemmas.{AtNext, at-next, no-next, blank-next, blank-all, all-blank, first-is, led-then}
use Rattle.tmpl_grammar.proofs.StrayLemmas.{word-stray, none-stray, none-blank}
use Rattle.tmpl_grammar.proofs.IsConstantLemmas.{computes-constant, constant-admitted}
use Rattle.tmpl_grammar.proofs.PipelineLemmas.{reads-spelled, pipeline-admitted}
use Rattle.tmpl_grammar.proofs.HeaderLemmas.{variable-other, Bound, binding-parts, header-read, header-admitted}

-- ---- keywords

known : (k : Keyword) → spells_keyword (spelling k) ≡ Some k
known k = grind arith

word-known : (k : Keyword) (t : Token) → IsWord (spelling k) t → keyword_of t ≡ Some k
unfolding keyword_of
word-known k t w = simp (w.0, w.1) (known k)

spelled-known : (bs : List ℕ) → IfSome (spells_keyword bs) (λ k. bs ≡ spelling k)
spelled-known bs = grind (arith, bytes_decides)

known-word : (t : Token) → IfSome (keyword_of t) (λ k. IsWord (spelling k) t)
unfolding keyword_of
known-word t = by t.kind refl
  where
    by : (j : TokenKind) → t.kind ≡ j → IfSome (keyword_by j t.bytes) (λ k. IsWord (spelling k) t)
    by kind.Word is = IfSome_then (spells_keyword t.bytes) (spelled-known t.bytes) (λ k e. (is, e))
    by j is = tt

word-other : (k : Keyword) (t : Token) → IsWord (spelling k) t → is_white t ≡ false
word-other k t w = ap is_space_kind w.0

-- after a keyword
keyed : (k : Keyword) {Rest : List Token → Type 0} {ts : List Token} {a : Action} (s : Then (IsWord (spelling k)) Rest ts) → action_by k s.2 ≡ Some a
    → action_in ts ≡ Some a
unfolding action_in
keyed k s e = simp (first-is (word-other k) s, word-known k s.1 s.5) e

-- a branch is found by the control with which it begins
branch-known : (br : Branch) → branch_of (word.Control (control_in br)) ≡ Some br
branch-known br = grind arith

-- ---- headers

-- no keyword comes first, and so these tokens are read as a header
abbrev IsPlain : List Token → Type 0
IsPlain ts = action_at (next ts) ts ≡ option_map pipeline_action (header_in false ts)

named-plain : {name : List ℕ} {Rest : List Token → Type 0} {ts : List Token} → Then (IsVariable name) Rest ts → IsPlain ts
unfolding keyword_of
named-plain {name = name} s = simp (first-is (variable-other name) s, s.5.0)

pipeline-plain : (cs : Pipeline) (ts : List Token) → SpellsPipeline cs ts → IsPlain ts
pipeline-plain cs ts s = by (next ts) (at-next ts)
  where
    by-keyword : (t : Token) (us ws : List Token) → ts ≡ ws ++ t ∷ us → (o : Option Keyword) → IfSome o (λ k. IsWord (spelling k) t)
        → action_after o us ts ≡ option_map pipeline_action (header_in false ts)
    by-keyword t us ws is None w = refl
    by-keyword t us ws is (Some k) w = none-stray cs ws us t (word-stray k t w) (subst (SpellsPipeline cs) is s)

    by : (o : Option (Token × List Token)) → AtNext ts o → action_at o ts ≡ option_map pipeline_action (header_in false ts)
    by None b = none-blank cs ts b s
    by (Some p) b = by-keyword p.0 p.1 b.0 b.1 (keyword_of p.0) (known-word p.0)

header-plain : (b : Binding) (p : Pipeline) (ts : List Token) → Bound b (SpellsPipeline p) ts → IsPlain ts
header-plain unbound p ts s = pipeline-plain p ts s
header-plain (declare name) p ts s = named-plain s
header-plain (assign name) p ts s = named-plain s
header-plain (declare_pair key name) p ts s = named-plain s

-- ---- names in quotes

quoted-other : (k : TokenKind) (name bs : List ℕ) → constant_by k bs ≡ Some (text_constant name) → is_space_kind k ≡ false
quoted-other k name bs e = grind arith

quoted-solid : (name : List ℕ) (t : Token) → IsQuoted name t → is_white t ≡ false
unfolding constant_of
quoted-solid name t q = quoted-other t.kind name t.bytes (computes-constant t (text_constant name) q)

named-read : (made : List ℕ → List Token → Option Action) {name : List ℕ} {Rest : List Token → Type 0} {us : List Token} {a : Action}
    (s : Then (IsQuoted name) Rest us) → made name s.2 ≡ Some a → named_action made us ≡ Some a
named-read made {name = name} s e = simp (first-is (quoted-solid name) s, computes-constant s.1 (text_constant name) s.5) e

given-read : (name : List ℕ) (given : Option Pipeline) (vs : List Token) → SpellsGiven given vs → template_by name vs ≡ Some (template_action name given)
given-read name None vs b = simp (blank-all vs b)
given-read name (Some cs) vs s = by (is_blank vs) refl
  where
    by : (w : Bool) → is_blank vs ≡ w → template_by name vs ≡ Some (template_action name (Some cs))
    by true is = none-blank cs vs (all-blank vs is) s
    by false is = simp (is, reads-spelled vs cs s)

-- ---- actions

pub reads-action : IsComputed IsAction action_in
unfolding action_in
reads-action ts (pipeline_action h) s = header-plain h.binding h.pipeline ts (binding-parts false h.binding _ ts s).1 ∙ simp (header-read false h ts s)
reads-action ts (opening c h) s = keyed (word.Control c) s (simp (header-read (is_range c) h s.2 s.6))
reads-action ts plain_else s = keyed word.Else s (simp (blank-next s.2 s.6))
reads-action ts (else_branch br h) s =
    let k : Keyword = word.Control (control_in br) in
    let read = header-read false h s.6.2 s.6.6 in
    keyed word.Else s (simp (first-is (word-other k) s.6, word-known k s.6.1 s.6.5, branch-known br) (simp read))
reads-action ts end_action s = keyed word.End s (simp (blank-all s.2 s.6))
reads-action ts break_action s = keyed word.Break s (simp (blank-all s.2 s.6))
reads-action ts continue_action s = keyed word.Continue s (simp (blank-all s.2 s.6))
reads-action ts (define_action name) s = keyed word.Define s (named-read define_by s.6 (simp (blank-all s.6.2 s.6.6)))
reads-action ts (template_action name given) s = keyed word.Template s (named-read template_by s.6 (given-read name given s.6.2 s.6.6))
reads-action ts (block_action name cs) s = keyed word.Block s (named-read block_by s.6 (simp (reads-spelled s.6.2 cs s.6.6)))

module _ (ts : List Token) where
  abbrev Spelled : Option Action → Type 0
  Spelled o = IfSome o (λ a. SpellsAction a ts)

  -- an action with a header, by the tokens of the header
  bound-spelled : (in_range : Bool) (made : Header → Action) (us : List Token)
      → ((h : Header) → SpellsHeader in_range h us → SpellsAction (made h) ts) → Spelled (option_map made (header_in in_range us))
  bound-spelled in_range made us f = mapped made (λ a. SpellsAction a ts) _ (header-admitted in_range us) f

  -- by whether there is nothing but white space
  blank-spelled : (a : Action) (us : List Token) (o : Option Action) → (IsBlank us → SpellsAction a ts) → Spelled o
      → Spelled (cond (is_blank us) (Some a) o)
  blank-spelled a us o f more = cond_both _ _ _ Spelled (λ is. f (all-blank us is)) (λ is. more)

  else-spelled : (t : Token) (us : List Token) → next ts ≡ Some (t, us) → IsWord (spelling word.Else) t → Spelled (else_by (next us))
  else-spelled t us n w = by (next us) refl
    where
      by-keyword : (s : Token) (vs : List Token) → next us ≡ Some (s, vs) → (o : Option Keyword) → IfSome o (λ k. IsWord (spelling k) s)
          → Spelled (else_keyword o vs)
      by-keyword s vs m (Some (word.Control control.If)) v =
          bound-spelled false (else_branch branch.If) vs (λ h spelled. led-then n w (led-then m v spelled))
      by-keyword s vs m (Some (word.Control control.With)) v =
          bound-spelled false (else_branch branch.With) vs (λ h spelled. led-then n w (led-then m v spelled))
      by-keyword s vs m _ v = tt

      by : (o : Option (Token × List Token)) → next us ≡ o → Spelled (else_by o)
      by None m = led-then n w (no-next us m)
      by (Some p) m = by-keyword p.0 p.1 m (keyword_of p.0) (known-word p.0)

  -- a keyword, a name in quotes, and what stands after them
  named-spelled : (k : Keyword) (made : List ℕ → List Token → Option Action) (t : Token) (us : List Token) → next ts ≡ Some (t, us) → IsWord (spelling k) t
      → ((name : List ℕ) (vs : List Token) → ((Rest : List Token → Type 0) → Rest vs → Then (IsWord (spelling k)) (Then (IsQuoted name) Rest) ts)
      → Spelled (made name vs)) → Spelled (named_action made us)
  named-spelled k made t us n w f = by (next us) refl
    where
      by-constant : (s : Token) (vs : List Token) → next us ≡ Some (s, vs) → (o : Option Operand) → IfSome o (IsConstant s)
          → Spelled (with_name made (quoted_before vs (text_in o)))
      by-constant s vs m (Some (text_constant name)) q = f name vs (λ Rest rest. led-then n w (led-then m q rest))
      by-constant s vs m o q = tt

      by : (o : Option (Token × List Token)) → next us ≡ o → Spelled (with_name made (quoted_at o))
      by None m = tt
      by (Some p) m = by-constant p.0 p.1 m (constant_of p.0) (constant-admitted p.0)

  keyword-spelled : (k : Keyword) (t : Token) (us : List Token) → next ts ≡ Some (t, us) → IsWord (spelling k) t → Spelled (action_by k us)
  keyword-spelled (word.Control c) t us n w = bound-spelled (is_range c) (opening c) us (λ h spelled. led-then n w spelled)
  keyword-spelled word.Else t us n w = else-spelled t us n w
  keyword-spelled word.End t us n w = blank-spelled end_action us None (λ b. led-then n w b) tt
  keyword-spelled word.Break t us n w = blank-spelled break_action us None (λ b. led-then n w b) tt
  keyword-spelled word.Continue t us n w = blank-spelled continue_action us None (λ b. led-then n w b) tt
  keyword-spelled word.Define t us n w =
      named-spelled word.Define define_by t us n w (λ name vs f. blank-spelled (define_action name) vs None (f IsBlank) tt)
  keyword-spelled word.Template t us n w =
      named-spelled word.Template template_by t us n w (λ name vs f. blank-spelled (template_action name None) vs _ (f IsBlank)
      (mapped (call_with name) (λ a. SpellsAction a ts) _ (pipeline-admitted vs) (λ p spelled. f (SpellsPipeline p) spelled)))
  keyword-spelled word.Block t us n w =
      named-spelled word.Block block_by t us n w (λ name vs f.
      mapped (block_action name) (λ a. SpellsAction a ts) _ (pipeline-admitted vs) (λ p spelled. f (SpellsPipeline p) spelled))

  first-spelled : (o : Option (Token × List Token)) → next ts ≡ o → Spelled (action_at o ts)
  first-spelled None n = tt
  first-spelled (Some p) n = by (keyword_of p.0) (known-word p.0)
    where
      by : (o : Option Keyword) → IfSome o (λ k. IsWord (spelling k) p.0) → Spelled (action_after o p.1 ts)
      by None w = bound-spelled false pipeline_action ts (λ h spelled. spelled)
      by (Some k) w = keyword-spelled k p.0 p.1 n w

pub spells-action : IsAdmitted IsAction action_in
unfolding action_in
spells-action = admitted IsAction action_in (λ ts. first-spelled ts (next ts) refl)

-- tokens that are not read spell no action
pub none-spelled : (ts : List Token) → action_in ts ≡ None → (a : Action) → SpellsAction a ts → ⊥
none-spelled ts e a s = no-value a (sym e ∙ reads-action ts a s)

pub ruleset actions = (reads-action, spells-action)
