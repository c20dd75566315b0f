-- For `one_action`: the grammar of a header and its reading agree.
use Rattle.std.proofs.Common.{arith, ◌≡◌, ◌∙◌, ℕ, Bool, true, false, List, [], ◌∷◌, ◌++◌, Option, Some, None, IfSome, refl, ap, sym, subst, append_assoc}
use Rattle.tmpl_lex.specs.declared.piece.TokenKind.{TokenKind}
use Rattle.tmpl_lex.specs.declared.piece.TokenKind.TheVariants as kind
use Rattle.tmpl_lex.specs.Piece.{Token}
use Rattle.tmpl_grammar.specs.Token.{name_in}
use Rattle.tmpl_grammar.specs.computed.Token.{is_space_kind, is_white, next}
use Rattle.tmpl_grammar.specs.Tree.{Pipeline, Binding, unbound, declare, assign, declare_pair, Header}
use Rattle.tmpl_grammar.specs.Pipeline.{SpellsPipeline}
use Rattle.tmpl_grammar.specs.Header.{IsSign, IsVariable, Then, SpellsBinding, SpellsHeader}
use Rattle.tmpl_grammar.specs.Printable.{may_bind}
use Rattle.tmpl_grammar.specs.computed.Reading.{pipeline_in, VariableFront, variable_by, variable_front_at, variable_front, plain, second_by, second_variable}
use Rattle.tmpl_grammar.specs.computed.Reading.{front_by, front_of_variable, front_in, split_by, split, header_with, header_if, header_by, header_in}
use Rattle.tmpl_grammar.proofs.PipelineLemmas.{reads-spelled, pipeline-admitted}
use Rattle.tmpl_grammar.proofs.OptionLemmas.{mapped}
use Rattle.tmpl_grammar.proofs.TokenLemmas.{first-is, led-then}
use Rattle.tmpl_grammar.proofs.StrayLemmas.{IsStray, sign-stray, none-stray}

-- ---- variables

pub variable-other : (name : List ℕ) (t : Token) → IsVariable name t → is_white t ≡ false
variable-other name t v = ap is_space_kind v.0

-- the variable that comes first, and a sign after it
variable-is : (name : List ℕ) (k : TokenKind) {Rest : List Token → Type 0} {ts : List Token} → is_space_kind k ≡ false
    → (s : Then (IsVariable name) (Then (IsSign k) Rest) ts) → variable_front ts ≡ Some (record { name = name; next_kind = k; rest = s.6.2 })
variable-is [] k other s = absurd (let low = s.5.2 in omega (arith, low))
variable-is (b ∷ bs) k other s = simp (first-is (variable-other (b ∷ bs)) s, s.5.0, s.5.1, first-is (λ t is. ap is_space_kind is ∙ other) s.6, s.6.5)

-- what they tell
abbrev VariableAs : List Token → Option VariableFront → Type 1
VariableAs ts None = Unit {1}
VariableAs ts (Some s) = (Rest : List Token → Type 0) → Rest s.rest → Then (IsVariable s.name) (Then (IsSign s.next_kind) Rest) ts

variable-tells : (ts : List Token) → VariableAs ts (variable_front ts)
variable-tells ts = by (next ts) refl
  where
    by-name : (t : Token) (us : List Token) → next ts ≡ Some (t, us) → (k : TokenKind) → t.kind ≡ k → (name : List ℕ) → name_in t ≡ name
        → (o : Option (Token × List Token)) → next us ≡ o → VariableAs ts (variable_by k name o)
    by-name t us e kind.Variable is (b ∷ bs) named (Some p) m = λ Rest rest. led-then e (is, named, omega arith) (led-then m refl rest)
    by-name t us e _ is name named o m = tt

    by : (o : Option (Token × List Token)) → next ts ≡ o → VariableAs ts (variable_front_at o)
    by None e = tt
    by (Some p) e = by-name p.0 p.1 e p.0.kind refl (name_in p.0) refl (next p.1) refl

-- ---- headers

-- what binds, whether or not the header may
abbrev pub Bound : Binding → (List Token → Type 0) → List Token → Type 0
Bound unbound Rest ts = Rest ts
Bound (declare name) Rest ts = Then (IsVariable name) (Then (IsSign kind.Declare) Rest) ts
Bound (assign name) Rest ts = Then (IsVariable name) (Then (IsSign kind.Assign) Rest) ts
Bound (declare_pair key name) Rest ts = Then (IsVariable key) (Then (IsSign kind.Comma) (Then (IsVariable name) (Then (IsSign kind.Declare) Rest))) ts

pub binding-parts : (in_range : Bool) (b : Binding) (Rest : List Token → Type 0) (ts : List Token) → SpellsBinding in_range b Rest ts
    → (may_bind in_range b ≡ true) × Bound b Rest ts
binding-parts in_range unbound Rest ts s = (refl, s)
binding-parts in_range (declare name) Rest ts s = (refl, s)
binding-parts false (assign name) Rest ts s = (refl, s)
binding-parts true (declare_pair key name) Rest ts s = (refl, s)
binding-parts true (assign name) Rest ts s = absurd s
binding-parts false (declare_pair key name) Rest ts s = absurd s

pub binding-whole : (in_range : Bool) (b : Binding) (Rest : List Token → Type 0) (ts : List Token) → may_bind in_range b ≡ true → Bound b Rest ts
    → SpellsBinding in_range b Rest ts
binding-whole in_range unbound Rest ts may s = s
binding-whole in_range (declare name) Rest ts may s = s
binding-whole false (assign name) Rest ts may s = s
binding-whole true (declare_pair key name) Rest ts may s = s
binding-whole true (assign name) Rest ts may s = cc
binding-whole false (declare_pair key name) Rest ts may s = cc

-- tokens of a pipeline have nothing in front of it
plain-front : (ts : List Token) (cs : Pipeline) → SpellsPipeline cs ts → front_in ts ≡ plain
plain-front ts cs s = by (variable_front ts) (variable-tells ts)
  where
    -- a sign after another token is in no pipeline
    none : {A : Type 0} (x : VariableFront) → ((t : Token) → t.kind ≡ x.next_kind → IsStray t) → VariableAs ts (Some x) → A
    none x stray v =
        let (ws, t, us, at, blank, is, (vs, sign, rest, after, more, kind_is, any)) = v (λ us. Unit {0}) tt in
        let whole = at ∙ ap (λ us. ws ++ t ∷ us) after ∙ sym (append_assoc ws (t ∷ vs) (sign ∷ rest)) in
        none-stray cs (ws ++ t ∷ vs) rest sign (stray sign kind_is) (subst (SpellsPipeline cs) whole s)

    by-kind : (name : List ℕ) (k : TokenKind) (us : List Token) → VariableAs ts (Some (record { name = name; next_kind = k; rest = us }))
        → front_by k name us ≡ plain
    by-kind name kind.Declare us v = none _ (sign-stray kind.Declare (λ t h. refl) (λ t. refl)) v
    by-kind name kind.Assign us v = none _ (sign-stray kind.Assign (λ t h. refl) (λ t. refl)) v
    by-kind name kind.Comma us v = none _ (sign-stray kind.Comma (λ t h. refl) (λ t. refl)) v
    by-kind name _ us v = refl

    by : (o : Option VariableFront) → VariableAs ts o → front_of_variable o ≡ plain
    by None v = refl
    by (Some p) v = by-kind p.name p.next_kind p.rest v

-- the tokens after a binding
split-bound : (b : Binding) (p : Pipeline) (ts : List Token) → Bound b (SpellsPipeline p) ts
    → (us : List Token) × (split ts ≡ (b, us)) × SpellsPipeline p us
unfolding split
split-bound unbound p ts s = (ts, simp (plain-front ts p s), s)
split-bound (declare name) p ts s = (s.6.2, simp (variable-is name kind.Declare refl s), s.6.6)
split-bound (assign name) p ts s = (s.6.2, simp (variable-is name kind.Assign refl s), s.6.6)
split-bound (declare_pair key name) p ts s =
    (s.6.6.6.2, simp (variable-is key kind.Comma refl s, variable-is name kind.Declare refl s.6.6), s.6.6.6.6)

pub header-read : (in_range : Bool) (h : Header) (ts : List Token) → SpellsHeader in_range h ts → header_in in_range ts ≡ Some h
header-read in_range h ts k =
    let parts = binding-parts in_range h.binding _ ts k in let may = parts.0 in let s = parts.1 in grind (arith, reads-spelled, split-bound)

pub header-admitted : (in_range : Bool) (ts : List Token) → IfSome (header_in in_range ts) (λ h. SpellsHeader in_range h ts)
unfolding split
header-admitted in_range ts = by (variable_front ts) (variable-tells ts)
  where
    -- a binding, and a pipeline after it
    bound : (b : Binding) (us : List Token) → ((R : List Token → Type 0) → R us → Bound b R ts)
        → IfSome (header_by in_range (b, us)) (λ h. SpellsHeader in_range h ts)
    bound b us f = allowed (may_bind in_range b) refl
      where
        allowed : (t : Bool) → may_bind in_range b ≡ t → IfSome (header_if t b (pipeline_in us)) (λ h. SpellsHeader in_range h ts)
        allowed true may = mapped (header_with b) (λ h. SpellsHeader in_range h ts) _ (pipeline-admitted us)
            (λ p s. binding-whole in_range b _ ts may (f (SpellsPipeline p) s))
        allowed false may = tt

    by-second : (key : List ℕ) (us : List Token) → VariableAs ts (Some (record { name = key; next_kind = kind.Comma; rest = us }))
        → (name : List ℕ) (k : TokenKind) (vs : List Token) → VariableAs us (Some (record { name = name; next_kind = k; rest = vs }))
        → IfSome (header_by in_range (split_by (second_by k key name vs) ts)) (λ h. SpellsHeader in_range h ts)
    by-second key us v name kind.Declare vs w = bound (declare_pair key name) vs (λ R r. v (Then (IsVariable name) (Then (IsSign kind.Declare) R)) (w R r))
    by-second key us v name _ vs w = bound unbound ts (λ R r. r)

    after-comma : (key : List ℕ) (us : List Token) → VariableAs ts (Some (record { name = key; next_kind = kind.Comma; rest = us }))
        → (o : Option VariableFront) → VariableAs us o → IfSome (header_by in_range (split_by (second_variable key o) ts)) (λ h. SpellsHeader in_range h ts)
    after-comma key us v None w = bound unbound ts (λ R r. r)
    after-comma key us v (Some s) w = by-second key us v s.name s.next_kind s.rest w

    by-kind : (name : List ℕ) (k : TokenKind) (us : List Token) → VariableAs ts (Some (record { name = name; next_kind = k; rest = us }))
        → IfSome (header_by in_range (split_by (front_by k name us) ts)) (λ h. SpellsHeader in_range h ts)
    by-kind name kind.Declare us v = bound (declare name) us v
    by-kind name kind.Assign us v = bound (assign name) us v
    by-kind name kind.Comma us v = after-comma name us v (variable_front us) (variable-tells us)
    by-kind name _ us v = bound unbound ts (λ R r. r)

    by : (o : Option VariableFront) → VariableAs ts o → IfSome (header_by in_range (split_by (front_of_variable o) ts)) (λ h. SpellsHeader in_range h ts)
    by None v = bound unbound ts (λ R r. r)
    by (Some s) v = by-kind s.name s.next_kind s.rest v
