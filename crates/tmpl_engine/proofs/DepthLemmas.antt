-- For the law `depth_by_chains`: a template means the same where those that it calls do.
use Rattle.std.proofs.Common.{◌≡◌, ◌∙◌, ◌||◌, ◌-◌, ◌≤◌, arith, inl, inr, sym, ℕ, zero, suc, Bool, nat_eq, List, [], ◌∷◌, length, refl, ap, Option}
use Rattle.std.proofs.Common.{Some, None, Result, Ok, Err}
use Rattle.std.specs.Prelude.{slice_get}
use Rattle.tmpl_values.specs.Value.{Value}
use Rattle.tmpl_values.specs.Elements.{Element}
use Rattle.tmpl_values.specs.Truth.{truth}
use Rattle.tmpl_grammar.specs.Tree.{Binding, Header, Pipeline}
use Rattle.tmpl_grammar.specs.declared.tree.Control.{Control}
use Rattle.tmpl_grammar.specs.declared.tree.Control.TheVariants as control
use Rattle.tmpl_syntax.specs.Tree as tree
use Rattle.tmpl_syntax.specs.Tree.{NodeKind, Nodes, action, control_node, template_node}
use Rattle.tmpl_syntax.specs.Set.{Template, number_of, tree_named}
use Rattle.tmpl_syntax.proofs.NamedLemmas.{Named, numbered, unnumbered}
use Rattle.tmpl_meaning.specs.Fault as fault
use Rattle.tmpl_meaning.specs.Pipeline.{commands_value}
use Rattle.tmpl_meaning.specs.Meaning.{Calls, Cause, Next, Rules, Run, Setting, after, after_turn, calls_within, meanings, scope}
use Rattle.tmpl_meaning.specs.Meaning.{setting_of, show, spend, stepped, turns, elements_visited, with_bound, with_pipeline, with_value}
use Rattle.tmpl_meaning.proofs.PartLemmas.{apart, controlling, handing, one_of, over, ran_of, run_called, scoped, spend_if, started, uncalled, without_key}
use Rattle.tmpl_code.specs.Calls.{IsChain, NodeNames, NodesName}
use Rattle.tmpl_engine.specs.Laws.{DepthByChains}
use Rattle.tmpl_engine.specs.State.{starting_dot}

-- a setting, and one that differs in the depth and in what names call
module _ (s : Setting) (depth : ℕ) (calls : Calls) where
  abbrev other : Setting
  other = record s { rules = record s.rules { depth_limit = depth }; calls = calls }

  spend-same : (b : Bool) (line : ℕ) (go : Next) (r : Run) → spend_if b other line go r ≡ spend_if b s line go r
  spend-same b line go r = grind arith

  value-same : {T : Type 0} (v : Result T Cause) (line : ℕ) (go : T → Next) (r : Run) → with_value other line v go r ≡ with_value s line v go r
  value-same v line go r = grind arith

  pipeline-same : (line : ℕ) (p : Pipeline) (d : Value) (go : Value → Next) (r : Run) → with_pipeline other line p d go r ≡ with_pipeline s line p d go r
  pipeline-same line p d go r =
      let g = commands_value (record { missing_key = s.rules.missing_key; dot = d; env = r.env }) p None in
      value-same g.result line go (record r { made_text = r.made_text || g.made_text })

  turns-same : (line : ℕ) (b : Binding) (body : Value → Next) (es : List Element) (r : Run) → turns other line b body es r ≡ turns s line b body es r
  turns-same line b body [] r = refl
  turns-same line b body (e ∷ es) r =
      λ i. after_turn (spend-same (nat_eq r.left 0) line (scope (λ r. body e.1 (with_bound b e r))) r i) (λ t. turns-same line b body es t i)

  over-same : (line : ℕ) (b : Binding) (body : Value → Next) (els : Next) (o : Option (List Element)) (r : Run)
      → over other line b body els o r ≡ over s line b body els o r
  over-same line b body els o r = grind (arith, turns-same)

  controlled-same : (line : ℕ) (c : Control) (h : Header) (d : Value) (body : Value → Next) (els : Next) (r : Run)
      → controlling other line c h d body els r ≡ controlling s line c h d body els r
  controlled-same line control.Range h d body els r =
      pipeline-same line h.pipeline d (λ v. over other line h.binding body els (elements_visited h.binding v)) r
      ∙ (λ i. with_pipeline s line h.pipeline d (λ v t. over-same line h.binding body els (elements_visited h.binding v) t i) r)
  controlled-same line control.If h d body els r =
      pipeline-same line h.pipeline d (λ v r. one_of (truth v) (body d) els (with_bound h.binding (without_key v) r)) r
  controlled-same line control.With h d body els r =
      pipeline-same line h.pipeline d (λ v r. one_of (truth v) (body v) els (with_bound h.binding (without_key v) r)) r

  handing-same : (line : ℕ) (given : Option Pipeline) (d : Value) (go : Value → Next) (r : Run) → handing other line given d go r ≡ handing s line given d go r
  handing-same line given d go r = grind (arith, pipeline-same)

  -- these names call the same
  abbrev Agree : (List ℕ → Type 0) → Type 0
  Agree Names = (name : List ℕ) → Names name → calls name ≡ s.calls name

  mutual
    stepped-same : (n : NodeKind) → Agree (λ name. NodeNames name n) → (line : ℕ) (d : Value) (r : Run) → stepped other line n d r ≡ stepped s line n d r
    stepped-same (action h) agree line d r = pipeline-same line h.pipeline d (show h.binding) r
    stepped-same (control_node c h body els) agree line d r =
        (λ i. scoped (length r.env) (controlled-same line c h d (λ v. meanings other body v) (meanings other els d) r i))
        ∙ (λ i. scoped (length r.env) (controlling s line c h d (λ v t. meanings-same body (λ name names. agree name (inl names)) v t i)
        (λ t. meanings-same els (λ name names. agree name (inr names)) d t i) r))
    stepped-same (template_node name given) agree line d r =
        (λ i. with_value other line (agree name refl i) (handing other line given d) r)
        ∙ value-same (s.calls name) line (handing other line given d) r
        ∙ (λ i. with_value s line (s.calls name) (λ body t. handing-same line given d body t i) r)
    stepped-same _ agree line d r = refl

    meanings-same : (ns : Nodes) → Agree (λ name. NodesName name ns) → (d : Value) (r : Run) → meanings other ns d r ≡ meanings s ns d r
    meanings-same tree.none agree d r = refl
    meanings-same (tree.then line n ns) agree d r =
        (λ i. after (spend-same (nat_eq r.left 0) line (stepped other line n d) r i) (λ t. meanings-same ns (λ name names. agree name (inr names)) d t i))
        ∙ (λ i. after (spend s line (λ t. stepped-same n (λ name names. agree name (inl names)) line d t i) r) (meanings s ns d))

-- ---- chains of calls

pub absent : (rules : Rules) (ts : List Template) (n : ℕ) (name : List ℕ) → tree_named name ts ≡ None
    → calls_within rules ts n name ≡ Err (fault.no_template name)
absent rules ts zero name e = ap (uncalled rules name) e
absent rules ts (suc n) name e = ap (run_called rules (calls_within rules ts n) name) e

module _ (rules : Rules) (ts : List Template) (depth : ℕ) where
  abbrev fewer : Rules
  fewer = record rules { depth_limit = depth }

  -- no chain of calls goes further
  abbrev Goes : ℕ → ℕ → Type 0
  Goes number most = (rest : List ℕ) → IsChain ts number rest → length rest ≤ most

  -- a chain of calls from a template that is called is one from its caller, with one call more
  further : (number m k : ℕ) (t : Template) (name : List ℕ) → slice_get ts number ≡ Some t → NodesName name t.1.nodes → number_of name ts ≡ Some m
      → Goes number (suc k) → Goes m k
  further number m k t name at names e goes rest chain =
      let all = goes (m ∷ rest) (record { caller = t; at = at; name = name; named = names; number = e }, chain) in omega arith

  goes-none : {P : Type 0} (number m : ℕ) (t : Template) (name : List ℕ) → slice_get ts number ≡ Some t → NodesName name t.1.nodes → number_of name ts ≡ Some m
      → Goes number 0 → P
  goes-none number m t name at names e goes =
      let one = goes (m ∷ []) (record { caller = t; at = at; name = name; named = names; number = e }, tt) in absurd (omega arith)

  -- where two numbers of calls are enough for a template, what it names calls the same with either
  names-same : (k j number : ℕ) (t : Template) → slice_get ts number ≡ Some t → Goes number k → Goes number j → (name : List ℕ) → NodesName name t.1.nodes
      → calls_within fewer ts k name ≡ calls_within rules ts j name
  names-same zero j number t at in-k in-j name names = by (number_of name ts) refl
    where
      by : (o : Option ℕ) → number_of name ts ≡ o → calls_within fewer ts zero name ≡ calls_within rules ts j name
      by None e = let none = unnumbered name ts e in absent fewer ts zero name none ∙ sym (absent rules ts j name none)
      by (Some m) e = goes-none number m t name at names e in-k
  names-same (suc k) zero number t at in-k in-j name names = by (number_of name ts) refl
    where
      by : (o : Option ℕ) → number_of name ts ≡ o → calls_within fewer ts (suc k) name ≡ calls_within rules ts zero name
      by None e = let none = unnumbered name ts e in absent fewer ts (suc k) name none ∙ sym (absent rules ts zero name none)
      by (Some m) e = goes-none number m t name at names e in-j
  names-same (suc k) (suc j) number t at in-k in-j name names =
      by (number_of name ts) refl (λ m u is-u goes-k goes-j inner is. names-same k j m u is-u goes-k goes-j inner is)
    where
      by : (o : Option ℕ) → number_of name ts ≡ o
          → ((m : ℕ) (u : Template) → slice_get ts m ≡ Some u → Goes m k → Goes m j → (inner : List ℕ) → NodesName inner u.1.nodes
          → calls_within fewer ts k inner ≡ calls_within rules ts j inner)
          → calls_within fewer ts (suc k) name ≡ calls_within rules ts (suc j) name
      by None e same = let none = unnumbered name ts e in absent fewer ts (suc k) name none ∙ sym (absent rules ts (suc j) name none)
      by (Some m) e same =
          let named : Named name ts m = numbered name ts m e in
          ap (run_called fewer (calls_within fewer ts k) name) named.tree
          ∙ (λ i. Ok (λ v. apart v (λ r. meanings-same (setting_of rules (calls_within rules ts j) name named.t.1) depth (calls_within fewer ts k)
          named.t.1.nodes
          (λ inner is. same m named.t named.at (further number m k t name at names e in-k) (further number m j t name at names e in-j) inner is) v r i)))
          ∙ sym (ap (run_called rules (calls_within rules ts j) name) named.tree)

pub depth_by_chains : DepthByChains
depth_by_chains rules ts depth number t input at short within = λ i.
    ran_of (meanings-same (setting_of rules (calls_within rules ts (rules.depth_limit - 1)) t.0 t.1) depth
    (calls_within (record rules { depth_limit = depth }) ts (depth - 1)) t.1.nodes
    (λ name names. names-same rules ts depth (depth - 1) (rules.depth_limit - 1) number t at (λ rest chain. let s = short rest chain in omega arith)
    (λ rest chain. let s = short rest chain in omega arith) name names) (starting_dot input) (started rules.step_limit (starting_dot input)) i)
