-- For the laws `adds_to_text`, and `text_is_named` of tmpl_engine: what holds between the start and the end of each part of a template, where it holds after
-- each text that is put, each pipeline, each step and each change of the variables.
use Rattle.std.proofs.Common.{◌≡◌, ◌-◌, ◌||◌, ℕ, zero, suc, nat_eq, Bool, true, false, List, [], ◌∷◌, Option, Some, None, Result, Ok, Err, IfSome, ◌++◌}
use Rattle.std.proofs.Common.{refl, subst}
use Rattle.tmpl_values.specs.Value.{Value, nothing}
use Rattle.tmpl_values.specs.Elements.{Element}
use Rattle.tmpl_values.specs.Text.{text_of}
use Rattle.tmpl_values.specs.Truth.{truth}
use Rattle.tmpl_grammar.specs.Tree.{Pipeline, Binding, unbound, Header}
use Rattle.tmpl_grammar.specs.declared.tree.Control.{Control}
use Rattle.tmpl_grammar.specs.declared.tree.Control.TheVariants as control
use Rattle.tmpl_syntax.specs.Tree as tree
use Rattle.tmpl_syntax.specs.Tree.{NodeKind, Nodes, Tree, text, action, control_node, template_node}
use Rattle.tmpl_syntax.specs.Set.{Template, tree_named}
use Rattle.tmpl_meaning.specs.Fault.{Cause}
use Rattle.tmpl_meaning.specs.Pipeline.{Environment, Place, commands_value}
use Rattle.tmpl_meaning.specs.Meaning.{Calls, End, Next, Rules, Run, Setting, broke, calls_within, done, faulted, meanings, scope}
use Rattle.tmpl_meaning.specs.Meaning.{setting_of, show, spend, stepped, turns, elements_visited, with_bound, with_pipeline, with_value}
use Rattle.tmpl_meaning.proofs.PartLemmas.{apart, choosing, controlling, handing, on_end, on_turn, one_of, over, run_called, spend_if, turn, uncalled, without_key}

-- each pipeline of a node, and of nodes, is such
abbrev mutual
  pub NodeHas : (Pipeline → Type 0) → NodeKind → Type 0
  NodeHas Fine (action h) = Fine h.pipeline
  NodeHas Fine (control_node c h body other) = Fine h.pipeline × NodesHave Fine body × NodesHave Fine other
  NodeHas Fine (template_node name given) = IfSome given Fine
  NodeHas Fine n = Unit {0}

  pub NodesHave : (Pipeline → Type 0) → Nodes → Type 0
  NodesHave Fine tree.none = Unit {0}
  NodesHave Fine (tree.then line n ns) = NodeHas Fine n × NodesHave Fine ns

-- a run leads to another so, at each pipeline that is such
pub record Keeps (Then : Run → Run → Type 0) (Fine : Pipeline → Type 0) : Type 0 where
  pub same : (r : Run) → Then r r
  pub on : (r q u : Run) → Then r q → Then q u → Then r u
  pub binds : (r : Run) (env : Environment) → Then r (record r { env = env })
  pub spends : (r : Run) (left : ℕ) → Then r (record r { left = left })
  pub puts : (r : Run) (bytes : List ℕ) → Then r (record r { text = r.text ++ bytes })
  pub pipes : (p : Pipeline) (s : Place) → Fine p → (r : Run) → Then r (record r { made_text = r.made_text || (commands_value s p None).made_text })

module _ {Then : Run → Run → Type 0} {Fine : Pipeline → Type 0} (k : Keeps Then Fine) where
  abbrev pub Kept : Next → Type 0
  Kept go = (r : Run) → Then r (go r).0

  -- what names call does
  abbrev pub CallsKeep : Calls → Type 0
  CallsKeep calls = (name : List ℕ) (body : Value → Next) → calls name ≡ Ok body → (v : Value) → Kept (body v)

  pub spend-kept : (s : Setting) (line : ℕ) (go : Next) → Kept go → Kept (spend s line go)
  spend-kept s line go h r = by (nat_eq r.left 0)
    where
      by : (b : Bool) → Then r (spend_if b s line go r).0
      by true = k.same r
      by false = k.on r (record r { left = r.left - 1 }) _ (k.spends r (r.left - 1)) (h _)

  pub end-kept : (r : Run) (end : End) (q : Run) (go : Next) → Then r q → Kept go → Then r (on_end end q go).0
  end-kept r done q go h g = k.on r q _ h (g q)
  end-kept r _ q go h g = h

  pub turn-kept : (r : Run) (end : End) (q : Run) (go : Next) → Then r q → Kept go → Then r (on_turn end q go).0
  turn-kept r broke q go h g = h
  turn-kept r (faulted f) q go h g = h
  turn-kept r _ q go h g = k.on r q _ h (g q)

  value-kept : {T : Type 0} (s : Setting) (line : ℕ) (t : Result T Cause) (go : T → Next) → ((x : T) → t ≡ Ok x → Kept (go x)) → Kept (with_value s line t go)
  value-kept s line (Ok x) go h r = h x refl r
  value-kept s line (Err cause) go h r = k.same r

  pipeline-kept : (s : Setting) (line : ℕ) (p : Pipeline) (d : Value) (go : Value → Next) → Fine p → ((v : Value) → Kept (go v))
      → Kept (with_pipeline s line p d go)
  pipeline-kept s line p d go fine h r =
      let at : Place = record { missing_key = s.rules.missing_key; dot = d; env = r.env } in
      let given = commands_value at p None in
      k.on r (record r { made_text = r.made_text || given.made_text }) _ (k.pipes p at fine r) (value-kept s line given.result go (λ v is. h v) _)

  shown-kept : (b : Binding) (v : Value) → Kept (show b v)
  shown-kept unbound v r = k.puts r (text_of v)
  shown-kept _ v r = k.binds r _

  bound-kept : (b : Binding) (e : Element) (go : Next) → Kept go → Kept (λ r. go (with_bound b e r))
  bound-kept b e go h r = k.on r (with_bound b e r) _ (k.binds r _) (h _)

  one-kept : (b : Bool) (body other : Next) → Kept body → Kept other → Kept (one_of b body other)
  one-kept true body other h g r = h r
  one-kept false body other h g r = g r

  -- ---- controls

  choosing-kept : (s : Setting) (line : ℕ) (h : Header) (d : Value) (body : Value → Next) (other : Next) → Fine h.pipeline → ((v : Value) → Kept (body v))
      → Kept other → Kept (choosing s line h d body other)
  choosing-kept s line h d body other fine f g =
      pipeline-kept s line h.pipeline d (λ v r. one_of (truth v) (body v) other (with_bound h.binding (without_key v) r)) fine
      (λ v. bound-kept h.binding (without_key v) (one_of (truth v) (body v) other) (one-kept (truth v) (body v) other (f v) g))

  pub turns-kept : (s : Setting) (line : ℕ) (b : Binding) (body : Value → Next) → ((v : Value) → Kept (body v)) → (es : List Element)
      → Kept (turns s line b body es)
  turns-kept s line b body h [] r = k.same r
  turns-kept s line b body h (e ∷ es) r =
      let part = turn s line b body e r in
      turn-kept r part.1 part.0 (turns s line b body es)
      (spend-kept s line (scope (λ q. body e.1 (with_bound b e q)))
      (λ q. k.on q (body e.1 (with_bound b e q)).0 _ (bound-kept b e (body e.1) (h e.1) q) (k.binds _ _)) r)
      (turns-kept s line b body h es)

  over-kept : (s : Setting) (line : ℕ) (b : Binding) (body : Value → Next) (other : Next) (o : Option (List Element)) → ((v : Value) → Kept (body v))
      → Kept other → Kept (over s line b body other o)
  over-kept s line b body other None h g r = k.same r
  over-kept s line b body other (Some []) h g r = g r
  over-kept s line b body other (Some (e ∷ es)) h g r = turns-kept s line b body h (e ∷ es) r

  controlled-kept : (s : Setting) (line : ℕ) (c : Control) (h : Header) (d : Value) (body : Value → Next) (other : Next) → Fine h.pipeline
      → ((v : Value) → Kept (body v)) → Kept other → Kept (controlling s line c h d body other)
  controlled-kept s line control.If h d body other fine f g = choosing-kept s line h d (λ v. body d) other fine (λ v. f d) g
  controlled-kept s line control.With h d body other fine f g = choosing-kept s line h d body other fine f g
  controlled-kept s line control.Range h d body other fine f g =
      pipeline-kept s line h.pipeline d _ fine (λ v. over-kept s line h.binding body other (elements_visited h.binding v) f g)

  -- ---- nodes

  handing-kept : (s : Setting) (line : ℕ) (given : Option Pipeline) (d : Value) (go : Value → Next) → IfSome given Fine → ((v : Value) → Kept (go v))
      → Kept (handing s line given d go)
  handing-kept s line None d go fine h = h nothing
  handing-kept s line (Some p) d go fine h = pipeline-kept s line p d go fine h

  module _ (s : Setting) (calls : CallsKeep s.calls) where
    mutual
      pub stepped-kept : (n : NodeKind) (line : ℕ) (d : Value) → NodeHas Fine n → Kept (stepped s line n d)
      stepped-kept (text bytes) line d fine r = k.puts r bytes
      stepped-kept (action h) line d fine r = pipeline-kept s line h.pipeline d (show h.binding) fine (shown-kept h.binding) r
      stepped-kept (control_node c h body other) line d fine r =
          k.on r _ _
          (controlled-kept s line c h d (λ v. meanings s body v) (meanings s other d) fine.0 (λ v. nodes-kept body v fine.1) (nodes-kept other d fine.2) r)
          (k.binds _ _)
      stepped-kept (template_node name given) line d fine r =
          value-kept s line (s.calls name) (handing s line given d) (λ body is. handing-kept s line given d body fine (calls name body is)) r
      stepped-kept _ line d fine r = k.same r

      pub nodes-kept : (ns : Nodes) (d : Value) → NodesHave Fine ns → Kept (meanings s ns d)
      nodes-kept tree.none d fine r = k.same r
      nodes-kept (tree.then line n ns) d fine r =
          let part = spend s line (stepped s line n d) r in
          end-kept r part.1 part.0 (meanings s ns d) (spend-kept s line (stepped s line n d) (stepped-kept n line d fine.0) r) (nodes-kept ns d fine.1)

  -- ---- calls of a set

  module _ (rules : Rules) (set : List Template) (fine : (name : List ℕ) (t : Tree) → tree_named name set ≡ Some t → NodesHave Fine t.nodes) where
    pub calls-kept : (depth : ℕ) → CallsKeep (calls_within rules set depth)
    calls-kept zero name body is = by (tree_named name set) is
      where
        by : (o : Option Tree) → uncalled rules name o ≡ Ok body → (v : Value) → Kept (body v)
        by None e = cc
        by (Some t) e = cc
    calls-kept (suc depth) name body is = by (tree_named name set) refl (calls-kept depth) is
      where
        by : (o : Option Tree) → tree_named name set ≡ o → CallsKeep (calls_within rules set depth)
            → run_called rules (calls_within rules set depth) name o ≡ Ok body → (v : Value) → Kept (body v)
        by None found calls e = cc
        by (Some t) found calls e =
            let s : Setting = setting_of rules (calls_within rules set depth) name t in
            let run : Value → Next = λ v. apart v (meanings s t.nodes v) in
            let same : run ≡ body = cc in
            subst (λ (b : Value → Next). (v : Value) → Kept (b v)) same (λ v r.
            k.on r _ _ (k.on r (record r { env = ([], v) ∷ [] }) _ (k.binds r _) (nodes-kept s calls t.nodes v (fine name t found) _)) (k.binds _ r.env))
