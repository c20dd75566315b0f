-- For the laws `limits_only_cut` and `alike_run_alike`: a run beside another of the same tree, which may have more steps and a greater depth, and
-- other files and lines. The one goes just as the other, or is cut off at a limit.
use Rattle.std.proofs.Common.{arith, inl, inr, ◌≡◌, ◌⊎◌, ◌+◌, ◌-◌, ◌||◌, ◌≤◌, ℕ, zero, suc, nat_eq, Bool, true, false, List, [], ◌∷◌, length}
use Rattle.std.proofs.Common.{Option, Some, None, Result, Ok, Err, refl, ap, sym, subst, append-nil}
use Rattle.std.proofs.lemmas.Bool.Decides.{nat_tests}
use Rattle.std.specs.Prelude.{map, find, option_map, cond}
use Rattle.std.specs.Str.{bytes_eq}
use Rattle.tmpl_values.specs.Value.{Value, nothing}
use Rattle.tmpl_values.specs.Elements.{Element}
use Rattle.tmpl_values.specs.Truth.{truth}
use Rattle.tmpl_grammar.specs.Tree.{Pipeline, Binding, unbound, Header}
use Rattle.tmpl_grammar.specs.declared.tree.Control.{Control}
use Rattle.tmpl_grammar.specs.declared.tree.Control.TheVariants as control
use Rattle.tmpl_syntax.specs.Tree as tree
use Rattle.tmpl_syntax.specs.Tree.{NodeKind, Nodes, Tree, text, action, control_node, break_node, continue_node, template_node}
use Rattle.tmpl_syntax.specs.Set.{Template, tree_named}
use Rattle.tmpl_meaning.specs.Fault.{Cause, calls_too_deep, steps_spent}
use Rattle.tmpl_meaning.specs.Laws.{Begins, IsNoLimit}
use Rattle.tmpl_meaning.specs.Pipeline.{Environment, commands_value}
use Rattle.tmpl_meaning.specs.Meaning.{Calls, End, Next, Rules, Run, Setting, after, after_turn, broke, calls_within, continued, done, faulted, faulted_at}
use Rattle.tmpl_meaning.specs.Meaning.{meanings, scope, setting_of, show, spend, stepped, turns, elements_visited, with_bound, with_pipeline, with_value}
use Rattle.tmpl_meaning.proofs.PartLemmas.{over}
use Rattle.tmpl_meaning.proofs.AddLemmas.{adds, any-node, any-nodes, calls-add}
use Rattle.tmpl_meaning.proofs.EachPartLemmas.{CallsKeep, Kept, end-kept, nodes-kept, stepped-kept, turn-kept, turns-kept}
use Rattle.tmpl_meaning.proofs.PartLemmas.{apart, choosing, controlling, handing, on_end, on_turn, one_of, returned, run_called, scoped}
use Rattle.tmpl_meaning.proofs.PartLemmas.{spend_if, started, turn}
use Rattle.tmpl_meaning.proofs.PartLemmas.{uncalled, without_key}

-- ---- the same tree in another place

abbrev mutual
  pub moved_node : (ℕ → ℕ) → NodeKind → NodeKind
  moved_node at (control_node c h body other) = control_node c h (moved_nodes at body) (moved_nodes at other)
  moved_node at n = n

  pub moved_nodes : (ℕ → ℕ) → Nodes → Nodes
  moved_nodes at tree.none = tree.none
  moved_nodes at (tree.then line n ns) = tree.then (at line) (moved_node at n) (moved_nodes at ns)

-- by what the two runs differ: the limits of the other one, how many steps it has more, whether it is one that goes on where this one is cut off,
-- and the file and the line that stand there for those here
pub record Sides : Type 0 where
  pub rules : Rules
  pub steps : ℕ
  pub depth : ℕ
  pub more : ℕ
  pub cuts : Bool
  pub path : List ℕ → List ℕ
  pub at : ℕ → ℕ
  pub exact : cuts ≡ false → (more ≡ 0) × (steps ≡ rules.step_limit) × (depth ≡ rules.depth_limit)

module _ (k : Sides) where
  abbrev pub far : Rules
  far = record k.rules { step_limit = k.steps; depth_limit = k.depth }

  abbrev pub moved_tree : Tree → Tree
  moved_tree t = record { file = k.path t.file; nodes = moved_nodes k.at t.nodes }

  abbrev pub moved_template : Template → Template
  moved_template t = (t.0, moved_tree t.1)

  abbrev pub ahead : Run → Run
  ahead r = record r { left = r.left + k.more }

  abbrev pub moved : End → End
  moved (faulted f) = faulted (record { file = k.path f.file; line = k.at f.line; template = f.template; cause = f.cause })
  moved end = end

  abbrev pub IsCut : End → Type 0
  IsCut (faulted f) = (k.cuts ≡ true) × (IsNoLimit f.cause → ⊥)
  IsCut end = ⊥

  -- where the two come to: to the same, or the first to a limit, and its text begins the other one
  abbrev pub Meets : Run × End → Run × End → Type 0
  Meets p q = (q ≡ (ahead p.0, moved p.1)) ⊎ (IsCut p.1 × Begins p.0.text q.0.text)

  abbrev pub Goes : Next → Next → Type 0
  Goes near far = (r : Run) → Meets (near r) (far (ahead r))

  abbrev Added : Next → Type 0
  Added go = Kept adds go

  -- ---- joining parts

  after-meets : (e : End) (q : Run) (p : Run × End) (go go' : Next) → Goes go go' → Added go' → Meets (q, e) p → Meets (on_end e q go) (after p go')
  after-meets done q p go go' h a (inl e) = subst (λ (p : Run × End). Meets (go q) (after p go')) (sym e) (h q)
  after-meets done q p go go' h a (inr c) = absurd c.0
  after-meets broke q p go go' h a (inl e) = inl (ap (λ (p : Run × End). after p go') e)
  after-meets broke q p go go' h a (inr c) = absurd c.0
  after-meets continued q p go go' h a (inl e) = inl (ap (λ (p : Run × End). after p go') e)
  after-meets continued q p go go' h a (inr c) = absurd c.0
  after-meets (faulted f) q p go go' h a (inl e) = inl (ap (λ (p : Run × End). after p go') e)
  after-meets (faulted f) q p go go' h a (inr c) = inr (c.0, end-kept adds q p.1 p.0 go' c.1 a)

  turn-meets : (e : End) (q : Run) (p : Run × End) (go go' : Next) → Goes go go' → Added go' → Meets (q, e) p
      → Meets (on_turn e q go) (after_turn p go')
  turn-meets done q p go go' h a (inl e) = subst (λ (p : Run × End). Meets (go q) (after_turn p go')) (sym e) (h q)
  turn-meets done q p go go' h a (inr c) = absurd c.0
  turn-meets continued q p go go' h a (inl e) = subst (λ (p : Run × End). Meets (go q) (after_turn p go')) (sym e) (h q)
  turn-meets continued q p go go' h a (inr c) = absurd c.0
  turn-meets broke q p go go' h a (inl e) = inl (ap (λ (p : Run × End). after_turn p go') e)
  turn-meets broke q p go go' h a (inr c) = absurd c.0
  turn-meets (faulted f) q p go go' h a (inl e) = inl (ap (λ (p : Run × End). after_turn p go') e)
  turn-meets (faulted f) q p go go' h a (inr c) = inr (c.0, turn-kept adds q p.1 p.0 go' c.1 a)

  -- whatever becomes of the variables
  scope-meets : (n : ℕ) (p q : Run × End) → Meets p q → Meets (scoped n p) (scoped n q)
  scope-meets n p q (inl e) = inl (ap (scoped n) e)
  scope-meets n p q (inr c) = inr c

  scope-goes : (go go' : Next) → Goes go go' → Goes (scope go) (scope go')
  scope-goes go go' h r = scope-meets (length r.env) (go r) (go' (ahead r)) (h r)

  shown-goes : (b : Binding) (v : Value) → Goes (show b v) (show b v)
  shown-goes unbound v r = inl refl
  shown-goes _ v r = inl refl

  one-goes : (b : Bool) (body body' other other' : Next) → Goes body body' → Goes other other' → Goes (one_of b body other) (one_of b body' other')
  one-goes true body body' other other' h g = h
  one-goes false body body' other other' h g = g

  -- what a name calls here and there: the same, or nothing here, for a limit
  abbrev pub Called : Result (Value → Next) Cause → Result (Value → Next) Cause → Type 0
  Called (Ok go) (Ok go') = (v : Value) → Goes (go v) (go' v)
  Called (Ok go) (Err why) = ⊥
  Called (Err cause) u = (u ≡ Err cause) ⊎ ((k.cuts ≡ true) × (IsNoLimit cause → ⊥))

  -- ---- the two settings

  module _ (file name : List ℕ) (near_calls far_calls : Calls) where
    abbrev here : Setting
    here = record { rules = k.rules; file = file; template = name; calls = near_calls }

    abbrev there : Setting
    there = record { rules = far; file = k.path file; template = name; calls = far_calls }

    -- at a limit this run stops; where it may not be cut off, so does the other one
    limit-meets : (line : ℕ) (cause : Cause) (r : Run) (q : Run × End) → (IsNoLimit cause → ⊥) → Begins r.text q.0.text
        → (k.cuts ≡ false → q ≡ (ahead r, faulted_at there (k.at line) cause)) → Meets (r, faulted_at here line cause) q
    limit-meets line cause r q is begins exact = by k.cuts refl
      where
        by : (b : Bool) → k.cuts ≡ b → Meets (r, faulted_at here line cause) q
        by true e = inr ((e, is), begins)
        by false e = inl (exact e)

    spend-meets : (line : ℕ) (go go' : Next) → Goes go go' → Added go' → (r : Run) (x y : Bool) → nat_eq r.left 0 ≡ x → nat_eq (r.left + k.more) 0 ≡ y
        → Meets (spend_if x here line go r) (spend_if y there (k.at line) go' (ahead r))
    spend-meets line go go' h a r true true e f =
        limit-meets line (steps_spent k.rules.step_limit) r (ahead r, faulted_at there (k.at line) (steps_spent k.steps)) (λ n. n)
        ([], sym (append-nil r.text)) (λ c. ap (λ n. (ahead r, faulted_at there (k.at line) (steps_spent n))) (k.exact c).1)
    spend-meets line go go' h a r true false e f =
        limit-meets line (steps_spent k.rules.step_limit) r (go' (record r { left = (r.left + k.more) - 1 })) (λ n. n)
        (a (record r { left = (r.left + k.more) - 1 })) (λ c. absurd (none r.left e f (k.exact c).0))
      where
        none : (n : ℕ) → nat_eq n 0 ≡ true → nat_eq (n + k.more) 0 ≡ false → k.more ≡ 0 → ⊥
        none n e f g = grind (arith, nat_tests)
    spend-meets line go go' h a r false true e f = absurd (grind (arith, nat_tests))
    spend-meets line go go' h a r false false e f =
        let less : (r.left - 1) + k.more ≡ (r.left + k.more) - 1 = grind (arith, nat_tests) in
        subst (λ n. Meets (go (record r { left = r.left - 1 })) (go' (record r { left = n }))) less (h (record r { left = r.left - 1 }))

    spend-goes : (line : ℕ) (go go' : Next) → Goes go go' → Added go' → Goes (spend here line go) (spend there (k.at line) go')
    spend-goes line go go' h a r = spend-meets line go go' h a r (nat_eq r.left 0) (nat_eq (r.left + k.more) 0) refl refl

    value-meets : (line : ℕ) (t : Result Value Cause) (go go' : Value → Next) → ((v : Value) → Goes (go v) (go' v))
        → Goes (with_value here line t go) (with_value there (k.at line) t go')
    value-meets line (Ok v) go go' h r = h v r
    value-meets line (Err cause) go go' h r = inl refl

    pipeline-goes : (line : ℕ) (p : Pipeline) (d : Value) (go go' : Value → Next) → ((v : Value) → Goes (go v) (go' v))
        → Goes (with_pipeline here line p d go) (with_pipeline there (k.at line) p d go')
    pipeline-goes line p d go go' h r =
        let given = commands_value (record { missing_key = k.rules.missing_key; dot = d; env = r.env }) p None in
        value-meets line given.result go go' h (record r { made_text = r.made_text || given.made_text })

    -- ---- controls

    choosing-goes : (line : ℕ) (h : Header) (d : Value) (body body' : Value → Next) (other other' : Next) → ((v : Value) → Goes (body v) (body' v))
        → Goes other other' → Goes (choosing here line h d body other) (choosing there (k.at line) h d body' other')
    choosing-goes line h d body body' other other' f g =
        pipeline-goes line h.pipeline d (λ v r. one_of (truth v) (body v) other (with_bound h.binding (without_key v) r))
        (λ v r. one_of (truth v) (body' v) other' (with_bound h.binding (without_key v) r))
        (λ v r. one-goes (truth v) (body v) (body' v) other other' (f v) g (with_bound h.binding (without_key v) r))

    module _ (line : ℕ) (b : Binding) (body body' : Value → Next) (f : (v : Value) → Goes (body v) (body' v)) (a : (v : Value) → Added (body' v)) where
      turns-go : (es : List Element) → Goes (turns here line b body es) (turns there (k.at line) b body' es)
      turns-go [] r = inl refl
      turns-go (e ∷ es) r =
          let part = turn here line b body e r in
          let whole : Next = λ q. body e.1 (with_bound b e q) in
          let whole' : Next = λ q. body' e.1 (with_bound b e q) in
          turn-meets part.1 part.0 (turn there (k.at line) b body' e (ahead r)) (turns here line b body es) (turns there (k.at line) b body' es)
          (turns-go es) (turns-kept adds there (k.at line) b body' a es)
          (spend-goes line (scope whole) (scope whole') (scope-goes whole whole' (λ q. f e.1 (with_bound b e q))) (λ q. a e.1 (with_bound b e q)) r)

      over-goes : (other other' : Next) → Goes other other' → (o : Option (List Element))
          → Goes (over here line b body other o) (over there (k.at line) b body' other' o)
      over-goes other other' g None r = inl refl
      over-goes other other' g (Some []) r = g r
      over-goes other other' g (Some (e ∷ es)) r = turns-go (e ∷ es) r

    controlled-goes : (line : ℕ) (c : Control) (h : Header) (d : Value) (body body' : Value → Next) (other other' : Next)
        → ((v : Value) → Goes (body v) (body' v)) → ((v : Value) → Added (body' v)) → Goes other other'
        → Goes (controlling here line c h d body other) (controlling there (k.at line) c h d body' other')
    controlled-goes line control.If h d body body' other other' f a g = choosing-goes line h d (λ v. body d) (λ v. body' d) other other' (λ v. f d) g
    controlled-goes line control.With h d body body' other other' f a g = choosing-goes line h d body body' other other' f g
    controlled-goes line control.Range h d body body' other other' f a g =
        pipeline-goes line h.pipeline d (λ v. over here line h.binding body other (elements_visited h.binding v))
        (λ v. over there (k.at line) h.binding body' other' (elements_visited h.binding v))
        (λ v. over-goes line h.binding body body' f a other other' g (elements_visited h.binding v))

    -- ---- calls

    handing-goes : (line : ℕ) (given : Option Pipeline) (d : Value) (go go' : Value → Next) → ((v : Value) → Goes (go v) (go' v))
        → Goes (handing here line given d go) (handing there (k.at line) given d go')
    handing-goes line None d go go' h = h nothing
    handing-goes line (Some p) d go go' h = pipeline-goes line p d go go' h

    calling-meets : (line : ℕ) (given : Option Pipeline) (d : Value) (t u : Result (Value → Next) Cause) → Called t u
        → Added (with_value there (k.at line) u (handing there (k.at line) given d))
        → Goes (with_value here line t (handing here line given d)) (with_value there (k.at line) u (handing there (k.at line) given d))
    calling-meets line given d (Ok go) (Ok go') h a r = handing-goes line given d go go' h r
    calling-meets line given d (Ok go) (Err why) h a r = absurd h
    calling-meets line given d (Err cause) u (inl e) a r =
        inl (ap (λ u. with_value there (k.at line) u (handing there (k.at line) given d) (ahead r)) e)
    calling-meets line given d (Err cause) u (inr c) a r = inr (c, a (ahead r))

    -- ---- nodes

    module _ (calls : (called : List ℕ) → Called (near_calls called) (far_calls called)) (added : CallsKeep adds far_calls) where
      mutual
        stepped-goes : (line : ℕ) (n : NodeKind) (d : Value) → Goes (stepped here line n d) (stepped there (k.at line) (moved_node k.at n) d)
        stepped-goes line (text bytes) d r = inl refl
        stepped-goes line (action h) d r = pipeline-goes line h.pipeline d (show h.binding) (show h.binding) (shown-goes h.binding) r
        stepped-goes line (control_node c h body other) d r =
            scope-goes (controlling here line c h d (λ v. meanings here body v) (meanings here other d))
            (controlling there (k.at line) c h d (λ v. meanings there (moved_nodes k.at body) v) (meanings there (moved_nodes k.at other) d))
            (controlled-goes line c h d (λ v. meanings here body v) (λ v. meanings there (moved_nodes k.at body) v) (meanings here other d)
            (meanings there (moved_nodes k.at other) d) (nodes-go body)
            (λ v. nodes-kept adds there added (moved_nodes k.at body) v (any-nodes (moved_nodes k.at body)))
            (nodes-go other d)) r
        stepped-goes line break_node d r = inl refl
        stepped-goes line continue_node d r = inl refl
        stepped-goes line (template_node called given) d r =
            calling-meets line given d (near_calls called) (far_calls called) (calls called)
            (stepped-kept adds there added (template_node called given) (k.at line) d (any-node (template_node called given))) r

        nodes-go : (ns : Nodes) (d : Value) → Goes (meanings here ns d) (meanings there (moved_nodes k.at ns) d)
        nodes-go tree.none d r = inl refl
        nodes-go (tree.then line n ns) d r =
            let part = spend here line (stepped here line n d) r in
            let m = moved_node k.at n in
            let ms = moved_nodes k.at ns in
            after-meets part.1 part.0 (spend there (k.at line) (stepped there (k.at line) m d) (ahead r)) (meanings here ns d) (meanings there ms d)
            (nodes-go ns d) (nodes-kept adds there added ms d (any-nodes ms))
            (spend-goes line (stepped here line n d) (stepped there (k.at line) m d) (stepped-goes line n d)
            (stepped-kept adds there added m (k.at line) d (any-node m)) r)

  -- ---- calls of a set

  found-moved : (name : List ℕ) (set : List Template) → tree_named name (map moved_template set) ≡ option_map moved_tree (tree_named name set)
  found-moved name [] = refl
  found-moved name (t ∷ ts) = by (bytes_eq name t.0) (found-moved name ts)
    where
      by : (b : Bool) → tree_named name (map moved_template ts) ≡ option_map moved_tree (tree_named name ts)
          → option_map (λ (t : Template). t.1) (cond b (Some (moved_template t)) (find (λ (t : Template). bytes_eq name t.0) (map moved_template ts)))
          ≡ option_map moved_tree (option_map (λ (t : Template). t.1) (cond b (Some t) (find (λ (t : Template). bytes_eq name t.0) ts)))
      by true later = refl
      by false later = later

  returned-meets : (env : Environment) (e : End) (q : Run) (p : Run × End) → Meets (q, e) p → Meets (returned env (q, e)) (returned env p)
  returned-meets env done q p (inl e) = inl (ap (returned env) e)
  returned-meets env done q p (inr c) = absurd c.0
  returned-meets env broke q p (inl e) = inl (ap (returned env) e)
  returned-meets env broke q p (inr c) = absurd c.0
  returned-meets env continued q p (inl e) = inl (ap (returned env) e)
  returned-meets env continued q p (inr c) = absurd c.0
  returned-meets env (faulted f) q p (inl e) = inl (ap (returned env) e)
  returned-meets env (faulted f) q p (inr c) = inr c

  apart-goes : (v : Value) (body body' : Next) → Goes body body' → Goes (apart v body) (apart v body')
  apart-goes v body body' h r =
      let start : Run = record r { env = ([], v) ∷ [] } in
      returned-meets r.env (body start).1 (body start).0 (body' (ahead start)) (h start)

  module _ (set : List Template) where
    abbrev beyond : List Template
    beyond = map moved_template set

    abbrev Calling : Calls → Calls → Type 0
    Calling near_calls far_calls = (name : List ℕ) → Called (near_calls name) (far_calls name)

    tree-goes : (near_calls : Calls) (n : ℕ) (name : List ℕ) (t : Tree) → Calling near_calls (calls_within far beyond n)
        → (d : Value) → Goes (meanings (setting_of k.rules near_calls name t) t.nodes d)
        (meanings (setting_of far (calls_within far beyond n) name (moved_tree t)) (moved_nodes k.at t.nodes) d)
    tree-goes near_calls n name t calls d = nodes-go t.file name near_calls (calls_within far beyond n) calls (calls-add far beyond n) t.nodes d

    calls-go : (m n : ℕ) → m ≤ n → (k.cuts ≡ false → (m ≡ n) × (k.depth ≡ k.rules.depth_limit))
        → Calling (calls_within k.rules set m) (calls_within far beyond n)
    calls-go zero zero within same name = rw (found-moved name set) (by (tree_named name set) k.cuts refl)
      where
        by : (o : Option Tree) (b : Bool) → k.cuts ≡ b → Called (uncalled k.rules name o) (uncalled far name (option_map moved_tree o))
        by None b e = inl refl
        by (Some t) true e = inr (e, λ n. n)
        by (Some t) false e = inl (ap (λ n. Err (calls_too_deep n)) (same e).1)
    calls-go zero (suc n) within same name = rw (found-moved name set) (by (tree_named name set) k.cuts refl)
      where
        by : (o : Option Tree) (b : Bool) → k.cuts ≡ b
            → Called (uncalled k.rules name o) (run_called far (calls_within far beyond n) name (option_map moved_tree o))
        by None b e = inl refl
        by (Some t) true e = inr (e, λ n. n)
        by (Some t) false e = absurd (let none = (same e).0 in omega arith)
    calls-go (suc m) zero within same name = absurd (omega arith)
    calls-go (suc m) (suc n) within same name =
        rw (found-moved name set) (by (tree_named name set) (calls-go m n (omega arith) (λ e. let s = same e in (omega arith, s.1))))
      where
        by : (o : Option Tree) → Calling (calls_within k.rules set m) (calls_within far beyond n)
            → Called (run_called k.rules (calls_within k.rules set m) name o) (run_called far (calls_within far beyond n) name (option_map moved_tree o))
        by None calls = inl refl
        by (Some t) calls = λ v. apart-goes v (meanings (setting_of k.rules (calls_within k.rules set m) name t) t.nodes v)
            (meanings (setting_of far (calls_within far beyond n) name (moved_tree t)) (moved_nodes k.at t.nodes) v)
            (tree-goes (calls_within k.rules set m) n name t calls v)

    -- a whole template
    module _ (name : List ℕ) (t : Tree) (d : Value) where
      abbrev pub near_run : Run × End
      near_run = meanings (setting_of k.rules (calls_within k.rules set (k.rules.depth_limit - 1)) name t) t.nodes d (started k.rules.step_limit d)

      abbrev pub far_run : Run × End
      far_run = meanings (setting_of far (calls_within far beyond (k.depth - 1)) name (moved_tree t)) (moved_nodes k.at t.nodes) d (started k.steps d)

      pub runs-meet : k.rules.step_limit + k.more ≡ k.steps → k.rules.depth_limit ≤ k.depth → Meets near_run far_run
      runs-meet steps deep =
          let calls = calls-go (k.rules.depth_limit - 1) (k.depth - 1) (omega arith)
          (λ e. let x = k.exact e in (let y : k.depth ≡ k.rules.depth_limit = x.2 in omega arith, x.2)) in
          subst (λ n. Meets near_run (meanings (setting_of far (calls_within far beyond (k.depth - 1)) name (moved_tree t)) (moved_nodes k.at t.nodes) d
          (started n d)))
          steps (tree-goes (calls_within k.rules set (k.rules.depth_limit - 1)) (k.depth - 1) name t calls d (started k.rules.step_limit d))
