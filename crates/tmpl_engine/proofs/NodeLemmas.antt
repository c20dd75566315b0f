-- For the law `comes_to_meaning`: the pipeline of a header and what is bound to its value, what is to be shown of the
-- code of a node, and that the code of actions, `if` and `with` comes to what they mean.
use Rattle.std.proofs.Common.{arith, ◌≡◌, ◌∙◌, ◌+◌, ◌≤◌, ◌||◌, ℕ, Bool, true, false, List, ◌∷◌, length, drop, refl, ap, sym, Option, Some, None, Result, Ok}
use Rattle.std.proofs.Common.{Err, ◌++◌, ◌-◌, [], suc, subst}
use Rattle.std.specs.Prelude.{option_map, slice_set}
use Rattle.std.proofs.Math.Bool.{or-false}
use Rattle.tmpl_values.specs.Value.{Value, nothing}
use Rattle.tmpl_values.specs.Text.{text_of}
use Rattle.tmpl_values.specs.Truth.{truth}
use Rattle.tmpl_grammar.specs.Tree.{Binding, unbound, declare, assign, declare_pair, Header, Operand, fields, variable, no_operand, operand}
use Rattle.tmpl_grammar.specs.Tree.{Pipeline, no_command, command}
use Rattle.tmpl_grammar.specs.Tree as grammar
use Rattle.tmpl_grammar.specs.Need.{declared_count, need_of_pipeline}
use Rattle.tmpl_grammar.specs.declared.tree.Control.TheVariants as control
use Rattle.tmpl_syntax.specs.Tree as tree
use Rattle.tmpl_syntax.specs.Tree.{NodeKind, Nodes}
use Rattle.tmpl_syntax.specs.Need.{left_after, need_of_node, need_of_nodes}
use Rattle.tmpl_meaning.specs.Fault.{Cause}
use Rattle.tmpl_meaning.specs.Pipeline.{Environment, Given, chain, as_given, given_then, lookup, without_null}
use Rattle.tmpl_meaning.specs.declared.missing_key.MissingKey.{MissingKey}
use Rattle.tmpl_meaning.specs.Meaning.{Calls, Next, Run, Setting, assign_variable, with_bound, with_pipeline, with_value, End, meanings, show, stepped}
use Rattle.tmpl_meaning.specs.Meaning.{scope}
use Rattle.tmpl_meaning.proofs.PartLemmas.{choosing, oldest, one_of, without_key}
use Rattle.tmpl_meaning.specs.Meaning as meaning
use Rattle.tmpl_code.specs.Instruction as code
use Rattle.tmpl_code.specs.Layout.{Layout, bound_on, declares, slot_named, declared_in, after_node}
use Rattle.tmpl_code.specs.Code.{ActionAt, BindAt, Code, show_in, show_of, sole_of, HeaderAt, PipelineAt, SetAt, Ended, NodeAt, NodesAt, ShownAt, StepAt}
use Rattle.tmpl_engine.specs.Cell.{Cell, fresh, slot}
use Rattle.tmpl_engine.specs.State.{State}
use Rattle.tmpl_engine.specs.Machine.{kept_on, branch, fault_in, goes, put_value, ran_so, top, with_dot}
use Rattle.tmpl_engine.specs.Ready.{RoomIf}
use Rattle.tmpl_engine.specs.Ends.{Comes}
use Rattle.tmpl_engine.proofs.PipelineLemmas.{FollowsBy, Puts, found-within, given_in, pipeline-leads}
use Rattle.tmpl_engine.proofs.WayLemmas.{Ring, Stands, Way, who_of, Inside, cut_to, exit_of}
use Rattle.tmpl_engine.proofs.SlotLemmas.{Cells, First, Frame, Over, all_grown, all_grown_in, bound_in, cells-set, dropped, env-dropped, env_of, first-saved}
use Rattle.tmpl_engine.proofs.SlotLemmas.{grown_in, length-cells, length-env, named, named-less, over-binding, over-bound, over-after_node, over-more}
use Rattle.tmpl_engine.proofs.SlotLemmas.{run_of, slots-are, stored, stored-none}
use Rattle.tmpl_engine.proofs.WayLemmas as ways

-- after the value of a pipeline
abbrev pub valued : Value → Bool → ℕ → State → State
valued v m place s = record s { cells = fresh v ∷ s.cells; made_text = m; place = place }

-- what a binding does to the variables that are there
abbrev pub written : Binding → Value → Environment → Environment
written unbound v env = env
written (declare x) v env = env
written (assign x) v env = assign_variable x v env
written (declare_pair k x) v env = env

-- what lies under the value that was bound
abbrev pub under : Binding → List Cell → List Cell
under unbound cs = cs
under (declare x) cs = cs
under (assign x) cs = cs
under (declare_pair k x) cs = fresh nothing ∷ cs

-- after a header
abbrev pub headed : Binding → Value → List Cell → Bool → ℕ → State → State
headed b v cs m place s = record s { cells = fresh v ∷ under b cs; made_text = m; place = place }

abbrev pub run_at : Layout → Bool → State → Run
run_at lay m s = record { env = env_of lay s.cells; text = s.text; left = s.left; made_text = m }

-- .. with this many steps left
abbrev pub with_left : ℕ → Run → Run
with_left left r = record r { left = left }

-- at a place after what binds a value, over these cells
pub record Bound (way : Way) (b : Binding) (v : Value) (lay : Layout) (fr : Frame) (rest : Code) (s : State) (cs : List Cell) (place : ℕ) : Type 0 where
  pub at : drop place way.plan.code ≡ rest
  pub cells : Cells lay fr cs
  pub env : env_of lay cs ≡ written b v (env_of lay s.cells)

-- null and nothing have one text
text-settled : (v : Value) → text_of (without_null v) ≡ text_of v
text-settled v = grind arith

-- what a pipeline of one command gives whose value is this
abbrev settled : Result Value Cause → Given Value
settled r = given_then (as_given r) (λ v. as_given (Ok (without_null v)))

module _ (way : Way) (calls : Calls) where
  abbrev pub set : Setting
  set = ways.setting way calls

  bind-leads : {mid rest : Code} {lay : Layout} {fr : Frame} {s : State} {m : Bool} {place : ℕ} (b : Binding) (v : Value) → who_of s ≡ way.who
      → BindAt b lay mid rest → drop place way.plan.code ≡ mid → Cells lay fr s.cells → length s.cells + declared_count b ≤ way.room
      → ((cs : List Cell) (place : ℕ) → Bound way b v lay fr rest s cs place → ways.Leading way (headed b v cs m place s))
      → ways.Leading way (valued v m place s)
  bind-leads {s = s} {place = place} unbound v same l at cells fits more = more s.cells place (record { at = at ∙ l; cells = cells; env = refl })
  bind-leads {mid} {rest} {lay} {fr} {s} {m} {place} (assign x) v same l at cells fits more = by (slot_named x lay) refl l
    where
      by : (o : Option ℕ) → slot_named x lay ≡ o → SetAt o mid rest → ways.Leading way (valued v m place s)
      by None e l = more s.cells place (record { at = at ∙ l; cells = cells; env = sym (stored-none x lay s.cells v e cells.deep) })
      by (Some k) e l =
          ways.does way same (at ∙ l) (let below = found-within x lay k e in let deep = cells.deep in omega arith)
          (more (slice_set s.cells k (fresh v)) (place + 1)
          (record { at = ways.next way place (at ∙ l); cells = cells-set x lay s.cells k v e cells; env = stored x lay s.cells k v e cells.deep }))
  bind-leads {s = s} {place = place} (declare x) v same l at cells fits more =
      ways.does way same (at ∙ l) tt (more s.cells (place + 1) (record { at = ways.next way place (at ∙ l); cells = cells; env = refl }))
  bind-leads {s = s} {place = place} (declare_pair k x) v same l at cells fits more =
      ways.does way same (at ∙ l) (omega arith) (more s.cells (place + 1) (record { at = ways.next way place (at ∙ l); cells = cells; env = refl }))

  -- a pipeline, after whose value the meaning goes on
  pub value-leads : {lay : Layout} {fr : Frame} {start mid : Code} {s : State} (A : Run → Type 0) (g : Option Ring) (left : ℕ) (p : Pipeline)
      (go : Value → Next)
      → PipelineAt p lay start mid → Stands way.plan way.who start lay fr s → length fr + need_of_pipeline p ≤ way.room
      → ways.After way A g (with_pipeline set s.line p s.dot go (with_left left (run_of lay s)))
      → ((v : Value) (m : Bool) (place : ℕ) → drop place way.plan.code ≡ mid → ways.After way A g (go v (with_left left (run_at lay m s)))
      → ways.Leading way (valued v m place s))
      → ways.Leading way s
  value-leads {lay} {mid = mid} {s = s} A g left p go l st fits k more =
      pipeline-leads way p lay _ mid s st.runs l st.at st.cells.deep (let long = length-cells st.cells in omega arith)
      (by (given_in way lay s p).result (s.made_text || (given_in way lay s p).made_text) k)
    where
      by : (r : Result Value Cause) (m : Bool) → ways.After way A g (with_value set s.line r go (with_left left (run_at lay m s)))
          → FollowsBy way s r m (Puts way s mid s.cells)
      by (Ok v) m k = λ place at. more v m place at k
      by (Err cause) m k = k

  -- a header
  pub header-leads : {lay : Layout} {fr : Frame} {start mid : Code} {s : State} (A : Run → Type 0) (g : Option Ring) (h : Header) (go : Value → Next)
      → HeaderAt h lay start mid → Stands way.plan way.who start lay fr s → length fr + need_of_pipeline h.pipeline ≤ way.room
      → length fr + declared_count h.binding ≤ way.room → ways.After way A g (with_pipeline set s.line h.pipeline s.dot go (run_of lay s))
      → ((v : Value) (cs : List Cell) (m : Bool) (place : ℕ) → Bound way h.binding v lay fr mid s cs place → ways.After way A g (go v (run_at lay m s))
      → ways.Leading way (headed h.binding v cs m place s))
      → ways.Leading way s
  header-leads {s = s} A g h go l st fits more-fits k more = value-leads A g s.left h.pipeline go l.1 st fits k
      (λ v m place at k. bind-leads h.binding v st.runs l.2 at st.cells (let long = length-cells st.cells in omega arith)
      (λ cs place bound. more v cs m place bound k))

-- what a control keeps of its header
kept-env : {way : Way} {lay : Layout} {fr : Frame} {rest : Code} {s : State} {cs : List Cell} {place : ℕ} (b : Binding) (v : Value) (m : Bool)
    → Bound way b v lay fr rest s cs place
    → record { env = env_of (bound_on b lay) (kept_on (declares b) (fresh v) (under b cs)); text = s.text; left = s.left; made_text = m }
    ≡ with_bound b (without_key v) (run_at lay m s)
kept-env b v m bound = grind (arith, bound.env)

kept-cells : {lay : Layout} {fr : Frame} {cs : List Cell} (b : Binding) (v : Value) → Cells lay fr cs
    → Cells (bound_on b lay) (bound_in b fr) (kept_on (declares b) (fresh v) (under b cs))
kept-cells b v c = record { frame = grind (arith, c.frame); deep = grind (arith, c.deep) }

-- a cell more above those of the range around
inside-more : (home : Frame) (g : Option Ring) (lay : Layout) (fr : Frame) (p : Option (List ℕ)) (c : Option Cell) → Inside home g lay fr
    → Inside home g (p ∷ lay) (c ∷ fr)
inside-more home None lay fr p c h = (suc h.0, over-more h.1 p c)
inside-more home (Some g) lay fr p c h = record { n = suc h.n; over = over-more h.over p c; depth = h.depth; least = let least = h.least in omega arith }

inside-bound : (home : Frame) (g : Option Ring) (b : Binding) (lay : Layout) (fr : Frame) → Inside home g lay fr
    → Inside home g (bound_on b lay) (bound_in b fr)
inside-bound home g (declare x) lay fr h = inside-more home g lay fr (Some x) None h
inside-bound home g (declare_pair k x) lay fr h = inside-more home g (Some k ∷ lay) (None ∷ fr) (Some x) None (inside-more home g lay fr (Some k) None h)
inside-bound home g _ lay fr h = h

pub inside-after_node : (home : Frame) (g : Option Ring) (n : NodeKind) (lay : Layout) (fr : Frame) → Inside home g lay fr
    → Inside home g (after_node n lay) (grown_in n fr)
inside-after_node home g (tree.action a) lay fr h = inside-bound home g a.binding lay fr h
inside-after_node home g _ lay fr h = h

-- the value of a header, and the variables under it
length-under : (b : Binding) (cs : List Cell) (room n : ℕ) → length cs + (1 + declared_count b + n) ≤ room
    → RoomIf (declares b) (suc (length (under b cs))) room
length-under (declare x) cs room n h = omega arith
length-under (declare_pair k x) cs room n h = omega arith
length-under _ cs room n h = tt

module _ (way : Way) (calls : Calls) (spare : ℕ) where
  -- where nodes stand that need this many cells, while this many are left for calls
  pub record Here (g : Option Ring) (lay : Layout) (fr : Frame) (here : Code) (need : ℕ) (s : State) : Type 0 where
    pub stands : Stands way.plan way.who here lay fr s
    pub inside : Inside way.home g lay fr
    pub fits : length fr + need + spare ≤ way.room

  -- what is to be shown of nodes, and of a node whose step is taken
  abbrev pub NodesLead : Nodes → Type 0
  NodesLead ns =
      (g : Option Ring) (lay : Layout) (fr : Frame) (here rest : Code) (s : State) → NodesAt way.plan.templates ns lay (exit_of g) here rest
      → Here g lay fr here (need_of_nodes ns) s
      → ways.After way (ways.Onward way rest (all_grown ns lay) (all_grown_in ns fr) s.dot) g (meanings (set way calls) ns s.dot (run_of lay s))
      → ways.Leading way s

  abbrev pub NodeLeads : NodeKind → Type 0
  NodeLeads n =
      (g : Option Ring) (lay : Layout) (fr : Frame) (here rest : Code) (s : State) → NodeAt way.plan.templates s.line n lay (exit_of g) here rest
      → Here g lay fr here (need_of_node n) s → length fr + left_after n ≤ way.room
      → ways.After way (ways.Onward way rest (after_node n lay) (grown_in n fr) s.dot) g (stepped (set way calls) s.line n s.dot (run_of lay s))
      → ways.Leading way s

  -- .. and of one whose step is to be taken
  abbrev pub StepLeads : ℕ → NodeKind → Type 0
  StepLeads line n =
      (g : Option Ring) (lay : Layout) (fr : Frame) (here start rest : Code) (s : State) → StepAt way.plan.templates line n here start
      → NodeAt way.plan.templates line n lay (exit_of g) start rest → Here g lay fr here (need_of_node n) s → length fr + left_after n ≤ way.room
      → ways.After way (ways.Onward way rest (after_node n lay) (grown_in n fr) s.dot) g
      (meaning.spend (set way calls) line (stepped (set way calls) line n s.dot) (run_of lay s)) → ways.Leading way s

  pub spent : (line : ℕ) (n : NodeKind) → ((first after : Code) → StepAt way.plan.templates line n first after → first ≡ code.spend line ∷ after)
      → NodeLeads n → StepLeads line n
  spent line n e leads g lay fr here start rest s l at-node h room k =
      ways.spends way calls (ways.Onward way rest (after_node n lay) (grown_in n fr) s.dot) g lay line start s (stepped (set way calls) line n s.dot)
      h.stands.runs (h.stands.at ∙ e here start l) k
      (λ at k. leads g lay fr start rest (ways.step_taken line s) at-node
      (record { stands = record { at = at; runs = h.stands.runs; cells = h.stands.cells }; inside = h.inside; fits = h.fits }) room k)

  -- ---- actions

  acted : {lay : Layout} {fr : Frame} {mid : Code} {s : State} {cs : List Cell} {place : ℕ} (b : Binding) (g : Option Ring) (rest : Code) (v : Value) (m : Bool)
      → who_of s ≡ way.who → ShownAt b mid rest → Bound way b v lay fr mid s cs place
      → ways.After way (ways.Onward way rest (bound_on b lay) (bound_in b fr) s.dot) g (show b v (run_at lay m s)) → ways.Leading way (headed b v cs m place s)
  acted {s = s} {place = place} unbound g rest v m same l bound k = ways.does way same (bound.at ∙ l) tt
      (k _ (record { at = ways.next way place (bound.at ∙ l); runs = same; cells = bound.cells }) refl
      (ap (λ (w : Environment). let r : Run = record { env = w; text = s.text ++ text_of v; left = s.left; made_text = m } in r) bound.env))
  acted {place = place} (assign x) g rest v m same l bound k = ways.does way same (bound.at ∙ l) (omega arith)
      (k _ (record { at = ways.jump way place 0 (bound.at ∙ l); runs = same; cells = bound.cells }) refl (kept-env (assign x) v m bound))
  acted b g rest v m same l bound k = k _ (record { at = bound.at ∙ l; runs = same; cells = kept-cells b v bound.cells }) refl (kept-env b v m bound)

  -- the text of a value that lies somewhere, after the step, where there is such a value
  puts : {rest : Code} {lay : Layout} {fr : Frame} (s : State) (g : Option Ring) (line : ℕ) (r : Result Value Cause)
      → drop (s.place + 1) way.plan.code ≡ rest → who_of s ≡ way.who → Cells lay fr s.cells
      → ways.After way (ways.Onward way rest lay fr s.dot) g (with_value (set way calls) line (settled r).result (show unbound)
      (record (run_of lay (ways.paying line s)) { made_text = s.made_text || (settled r).made_text }))
      → Comes (ways.Leading way) (put_value way.me r (ways.paying line s)) way.end
  puts {lay = lay} s g line (Ok v) at same cells k =
      k _ (record { at = at; runs = same; cells = cells }) refl (λ j. let r : Run = record {
        env = env_of lay s.cells;
        text = s.text ++ sym (text-settled v) j;
        left = s.left - 1;
        made_text = sym (or-false s.made_text) j;
      } in r)
  puts s g line (Err cause) at same cells k =
      ap (λ m. ran_so (record s { made_text = m }) (Some (fault_in way.me line cause))) (sym (or-false s.made_text)) ∙ k

  pub action-leads : (line : ℕ) (h : Header) → StepLeads line (tree.action h)
  action-leads line h g lay fr here start rest s l at-node w room k = by h.binding h.pipeline at-node k
    where
      st : Stands way.plan way.who here lay fr s
      st = w.stands

      mode : MissingKey
      mode = way.plan.rules.missing_key

      whole : ActionAt None line h lay start rest → ways.Leading way s
      whole at =
          let A : Run → Type 0 = ways.Onward way rest (bound_on h.binding lay) (bound_in h.binding fr) s.dot in
          let fits = w.fits in
          ways.spends way calls A g lay line at.0 s (stepped (set way calls) line (tree.action h) s.dot) st.runs (st.at ∙ l ∙ at.2) k
          (λ there k. header-leads way calls A g h (show h.binding) at.3 (record { at = there; runs = st.runs; cells = st.cells }) (omega arith) room k
          (λ v cs m place bound k. acted h.binding g rest v m st.runs at.4 bound k))

      -- of an action that binds no variable, with this pipeline
      Shows : Pipeline → Type 0
      Shows p =
          ways.After way (ways.Onward way rest lay fr s.dot) g
          (meaning.spend (set way calls) line (with_pipeline (set way calls) line p s.dot (show unbound)) (run_of lay s))

      alone : Operand → Pipeline
      alone o = command (operand o no_operand) no_command

      of-dot : (names : List (List ℕ)) → start ≡ code.show_fields line names ∷ rest → Shows (alone (fields names)) → ways.Leading way s
      of-dot names at k =
          ways.pays way calls (ways.Onward way rest lay fr s.dot) g lay line s
          (with_pipeline (set way calls) line (alone (fields names)) s.dot (show unbound)) (λ s. put_value way.me (chain mode names s.dot) s) st.runs
          (st.at ∙ l ∙ at) tt refl k
          (λ k. puts s g line (chain mode names s.dot) (ways.next way s.place (st.at ∙ l ∙ at)) st.runs st.cells k)

      of-slot : (x : List ℕ) (names : List (List ℕ)) (o : Option ℕ) → slot_named x lay ≡ o
          → ActionAt (option_map (λ slot. code.show_slot line slot names) o) line h lay start rest → Shows (alone (variable x names)) → ways.Leading way s
      of-slot x names None e at k = whole at
      of-slot x names (Some j) e at k =
          ways.pays way calls (ways.Onward way rest lay fr s.dot) g lay line s
          (with_pipeline (set way calls) line (alone (variable x names)) s.dot (show unbound)) (λ s. put_value way.me (chain mode names (slot j s.cells)) s)
          st.runs (st.at ∙ l ∙ at) (let below = found-within x lay j e in let deep = st.cells.deep in omega arith) refl k
          (λ k. subst (λ v. Comes (ways.Leading way) (put_value way.me (chain mode names v) (ways.paying line s)) way.end) (sym there)
          (puts s g line (chain mode names (lookup x (env_of lay s.cells))) (ways.next way s.place (st.at ∙ l ∙ at)) st.runs st.cells k))
        where
          there : slot j s.cells ≡ lookup x (env_of lay s.cells)
          there = let same : j ≡ 0 + j = omega arith in ap (λ n. slot n s.cells) same ∙ (slots-are lay s.cells st.cells.deep).found x j e

      of-operand : (o : Operand) → ActionAt (show_of line o lay) line h lay start rest → Shows (alone o) → ways.Leading way s
      of-operand grammar.dot at k = of-dot [] at k
      of-operand (fields names) at k = of-dot names at k
      of-operand (variable x []) at k = of-slot x [] (slot_named x lay) refl at k
      of-operand (variable x (name ∷ [])) at k = of-slot x (name ∷ []) (slot_named x lay) refl at k
      of-operand _ at k = whole at

      by : (b : Binding) (p : Pipeline) → ActionAt (show_in line (sole_of b p) lay) line h lay start rest
          → ways.After way (ways.Onward way rest (bound_on b lay) (bound_in b fr) s.dot) g
          (meaning.spend (set way calls) line (with_pipeline (set way calls) line p s.dot (show b)) (run_of lay s)) → ways.Leading way s
      by unbound (command (operand o no_operand) no_command) at k = of-operand o at k
      by _ _ at k = whole at

  -- ---- parts of controls

  -- nodes that are a part of a control, after its header
  pub part-leads : {first rest : Code} {d : Value} {r : Run} {t : State} (ns : Nodes) → NodesLead ns
      → (b : Binding) (g : Option Ring) (lay : Layout) (fr : Frame)
      (more : Code) (to : ℕ)
      → Ended (declared_count b + declared_in ns) to (NodesAt way.plan.templates ns (bound_on b lay) (exit_of g)) first more → drop to more ≡ rest
      → Inside way.home g lay fr → length fr + (declared_count b + need_of_nodes ns) + spare ≤ way.room
      → Stands way.plan way.who first (bound_on b lay) (bound_in b fr) t → t.dot ≡ d → run_of (bound_on b lay) t ≡ r
      → ways.After way (λ r. ways.Onward way rest lay fr d (cut_to (named lay) r)) g (meanings (set way calls) ns d r) → ways.Leading way t
  part-leads {first} {rest} {d} {r} {t} ns ih b g lay fr more to l far inside fits st dot run k =
      ih g (bound_on b lay) (bound_in b fr) first l.0 t l.1
      (record { stands = st; inside = inside-bound way.home g b lay fr inside; fits = omega (arith, (over-binding b lay fr).tall) })
      (subst (λ e. ways.After way goal g (meanings (set way calls) ns e (run_of (bound_on b lay) t))) (sym dot)
      (subst (λ r. ways.After way goal g (meanings (set way calls) ns d r)) (sym run)
      (ways.then-map way (λ r. ways.Onward way rest lay fr d (cut_to (named lay) r)) goal g (meanings (set way calls) ns d r).0
      (meanings (set way calls) ns d r).1
      (λ r k u su du ru. ways.closes way (declared_count b + declared_in ns) to more l.2 su (over-bound b ns lay fr) far (du ∙ dot) ru k) k)))
    where
      goal : Run → Type 0
      goal = ways.Onward way l.0 (all_grown ns (bound_on b lay)) (all_grown_in ns (bound_in b fr)) t.dot

  -- .. and with its variables made
  bound-leads : {mid first rest : Code} {lay : Layout} {fr : Frame} {s : State} {v : Value} {cs : List Cell} {was : ℕ} (ns : Nodes) → NodesLead ns
      → (b : Binding)
      (g : Option Ring) (more : Code) (to place : ℕ) (m : Bool)
      → Ended (declared_count b + declared_in ns) to (NodesAt way.plan.templates ns (bound_on b lay) (exit_of g)) first more → drop to more ≡ rest
      → Inside way.home g lay fr → length fr + (declared_count b + need_of_nodes ns) + spare ≤ way.room
      → who_of s ≡ way.who → drop place way.plan.code ≡ first → Bound way b v lay fr mid s cs was
      → ways.After way (λ r. ways.Onward way rest lay fr s.dot (cut_to (named lay) r)) g
      (meanings (set way calls) ns s.dot (with_bound b (without_key v) (run_at lay m s)))
      → ways.Leading way (record (headed b v cs m place s) { cells = kept_on (declares b) (fresh v) (under b cs) })
  bound-leads {lay = lay} {fr = fr} {v = v} ns ih b g more to place m l far inside fits same at bound k =
      part-leads ns ih b g lay fr more to l far inside fits (record { at = at; runs = same; cells = kept-cells b v bound.cells }) refl (kept-env b v m bound) k

  -- a header, and in its scope one of two parts, by its value
  choosing-leads : {lay : Layout} {fr : Frame} {here mid : Code} {need : ℕ} {s : State} (h : Header) (body : Value → Next) (other : Next) (g : Option Ring)
      (rest : Code) → HeaderAt h lay here mid → Here g lay fr here need s → length fr + need_of_pipeline h.pipeline ≤ way.room
      → length fr + declared_count h.binding ≤ way.room
      → ways.After way (ways.Onward way rest lay fr s.dot) g (scope (choosing (set way calls) s.line h s.dot body other) (run_of lay s))
      → ((v : Value) (cs : List Cell) (m : Bool) (place : ℕ) → Bound way h.binding v lay fr mid s cs place
      → ways.After way (λ r. ways.Onward way rest lay fr s.dot (cut_to (named lay) r)) g
      (one_of (truth v) (body v) other (with_bound h.binding (without_key v) (run_at lay m s)))
      → ways.Leading way (headed h.binding v cs m place s))
      → ways.Leading way s
  choosing-leads {lay} {fr} {s = s} h body other g rest l w fits room k more =
      header-leads way calls (λ r. ways.Onward way rest lay fr s.dot (cut_to (named lay) r)) g h
      (λ v r. one_of (truth v) (body v) other (with_bound h.binding (without_key v) r)) l w.stands fits room
      (ways.unscope way (ways.Onward way rest lay fr s.dot) g lay fr (length (env_of lay s.cells))
      (choosing (set way calls) s.line h s.dot body other (run_of lay s)) (length-env lay s.cells w.stands.cells.deep) w.inside k) more

  -- ---- `if`

  pub if-leads : (h : Header) (body other : Nodes) → NodesLead body → NodesLead other → NodeLeads (tree.control_node control.If h body other)
  if-leads h body other ih-body ih-other g lay fr here rest s l w room k =
      let fits = w.fits in
      choosing-leads h (λ v. meanings (set way calls) body s.dot) (meanings (set way calls) other s.dot) g rest l.1 w (omega arith) (omega arith) k
      (λ v cs m place bound k. ways.does way w.stands.runs (bound.at ∙ l.2.4) tt (by v cs m place bound (truth v) k))
    where
      by : (v : Value) (cs : List Cell) (m : Bool) (place : ℕ) → Bound way h.binding v lay fr l.0 s cs place
          → (c : Bool) → ways.After way (λ r. ways.Onward way rest lay fr s.dot (cut_to (named lay) r)) g
          (one_of c (meanings (set way calls) body s.dot) (meanings (set way calls) other s.dot) (with_bound h.binding (without_key v) (run_at lay m s)))
          → Comes (ways.Leading way) (branch c (declares h.binding) l.2.2 (fresh v) (under h.binding cs) (headed h.binding v cs m place s)) way.end
      by v cs m place bound true k =
          bound-leads body ih-body h.binding g l.2.1 l.2.3 (place + 1) m l.2.5 l.2.8 w.inside (let fits = w.fits in omega arith) w.stands.runs
          (ways.next way place (bound.at ∙ l.2.4)) bound k
      by v cs m place bound false k =
          bound-leads other ih-other h.binding g rest 0 (place + 1 + l.2.2) m l.2.6 refl w.inside (let fits = w.fits in omega arith) w.stands.runs
          (ways.jump way place l.2.2 (bound.at ∙ l.2.4) ∙ l.2.7) bound k

  -- ---- `with`

  -- the end of its body
  with-closes : {big lay : Layout} {high fr : Frame} {rest : Code} {d : Value} {r : Run} {u : State} (b : Binding) (n to : ℕ) (more : Code)
      → Stands way.plan way.who (code.end_with n (declared_count b) to ∷ more) big high u
      → Over n big (None ∷ bound_on b lay) high (Some (fresh d) ∷ bound_in b fr) → drop to more ≡ rest → run_of big u ≡ r
      → ways.Onward way rest lay fr d (cut_to (named lay) r) → ways.Leading way u
  with-closes {big} {lay} {high} {fr} {rest} {d} {u = u} b n to more st over far is k =
      ways.does way st.runs st.at (let size = over.size in let deep = st.cells.deep in let less = below.size in omega arith)
      (subst (λ cs. Comes (ways.Leading way) (top cs (λ c cs. goes (record u { cells = drop (declared_count b) cs; dot = c.val; place = u.place + 1 + to })))
      way.end) (sym one.cells)
      (k _ (record { at = ways.jump way u.place to st.at ∙ far; runs = st.runs; cells = dropped below one.under }) refl
      (ap (λ (v : Environment). record (run_of big u) { env = v })
      (env-dropped below one.under ∙ ap (oldest (named lay)) (sym one.env ∙ env-dropped over st.cells))
      ∙ ways.cut-twice (named lay) (named (bound_on b lay)) (run_of big u) (named-less below) ∙ ap (cut_to (named lay)) is)))
    where
      below : Over (declared_count b) (bound_on b lay) lay (bound_in b fr) fr
      below = over-binding b lay fr

      one : First (bound_on b lay) (drop n u.cells) (fresh d) (bound_in b fr)
      one = first-saved (bound_on b lay) (drop n u.cells) (fresh d) (bound_in b fr) (dropped over st.cells)

  pub with-leads : (h : Header) (body other : Nodes) → NodesLead body → NodesLead other → NodeLeads (tree.control_node control.With h body other)
  with-leads h body other ih-body ih-other g lay fr here rest s l w room k =
      let fits = w.fits in
      choosing-leads h (λ v. meanings (set way calls) body v) (meanings (set way calls) other s.dot) g rest l.1 w (omega arith) (omega arith) k
      (λ v cs m place bound k. ways.does way w.stands.runs (bound.at ∙ l.2.4)
      (length-under h.binding cs way.room (need_of_nodes body) (let long = length-cells bound.cells in omega arith)) (by v cs m place bound (truth v) k))
    where
      B : Run → Type 0
      B = λ r. ways.Onward way rest lay fr s.dot (cut_to (named lay) r)

      by : (v : Value) (cs : List Cell) (m : Bool) (place : ℕ) → Bound way h.binding v lay fr l.0 s cs place
          → (c : Bool) → ways.After way B g (one_of c (meanings (set way calls) body v) (meanings (set way calls) other s.dot)
          (with_bound h.binding (without_key v) (run_at lay m s)))
          → Comes (ways.Leading way) (with_dot c (declares h.binding) l.2.2 (fresh v) (under h.binding cs) (headed h.binding v cs m place s)) way.end
      by v cs m place bound true k =
          ih-body g (None ∷ bound_on h.binding lay) (Some (fresh s.dot) ∷ bound_in h.binding fr) l.2.0
          (code.end_with (declared_in body) (declared_count h.binding) l.2.3 ∷ l.2.1) _ l.2.5
          (record {
            stands = record {
              at = ways.next way place (bound.at ∙ l.2.4);
              runs = w.stands.runs;
              cells = record { frame = ap (λ x. Some (fresh s.dot) ∷ x) kept.frame; deep = (let deep = kept.deep in omega arith) };
            };
            inside = inside-more way.home g (bound_on h.binding lay) (bound_in h.binding fr) None (Some (fresh s.dot))
                (inside-bound way.home g h.binding lay fr w.inside);
            fits = (let fits = w.fits in omega (arith, (over-binding h.binding lay fr).tall));
          })
          (subst (λ r. ways.After way goal g (meanings (set way calls) body v r)) (sym (kept-env h.binding v m bound))
          (ways.then-map way B goal g x.0 x.1 (λ r k u su du ru. with-closes h.binding (declared_in body) l.2.3 l.2.1 su
          (over-after_node body (None ∷ bound_on h.binding lay) (Some (fresh s.dot) ∷ bound_in h.binding fr)) l.2.8 ru k) k))
        where
          kept : Cells (bound_on h.binding lay) (bound_in h.binding fr) (kept_on (declares h.binding) (fresh v) (under h.binding cs))
          kept = kept-cells h.binding v bound.cells

          x : Run × End
          x = meanings (set way calls) body v (with_bound h.binding (without_key v) (run_at lay m s))

          goal : Run → Type 0
          goal = ways.Onward way (code.end_with (declared_in body) (declared_count h.binding) l.2.3 ∷ l.2.1) (all_grown body (None ∷ bound_on h.binding lay))
              (all_grown_in body (Some (fresh s.dot) ∷ bound_in h.binding fr)) v
      by v cs m place bound false k =
          bound-leads other ih-other h.binding g rest 0 (place + 1 + l.2.2) m l.2.6 refl w.inside (let fits = w.fits in omega arith) w.stands.runs
          (ways.jump way place l.2.2 (bound.at ∙ l.2.4) ∙ l.2.7) bound k
