-- For the law `comes_to_meaning`: the code of ranges, breaks and continues.
use Rattle.std.proofs.Common.{arith, ◌≡◌, ◌∙◌, ◌+◌, ◌-◌, ◌≤◌, ◌&&◌, nat_eq, ℕ, zero, suc, Bool, true, false, List, [], ◌∷◌, length, drop, refl}
use Rattle.std.proofs.Common.{add-one, ap, sym, subst, Option, Some, None, drop-drop}
use Rattle.std.specs.Prelude.{slice_set}
use Rattle.tmpl_values.specs.Value.{Value, nothing, number}
use Rattle.tmpl_values.specs.Elements.{Element, elements}
use Rattle.tmpl_grammar.specs.Tree.{Binding, unbound, declare, assign, declare_pair, Header}
use Rattle.tmpl_grammar.specs.Need.{declared_count}
use Rattle.tmpl_grammar.specs.declared.tree.Control.TheVariants as control
use Rattle.tmpl_syntax.specs.Tree as tree
use Rattle.tmpl_syntax.specs.Tree.{Nodes}
use Rattle.tmpl_syntax.specs.Need.{need_of_nodes}
use Rattle.tmpl_meaning.specs.Pipeline.{Environment}
use Rattle.tmpl_meaning.specs.Meaning as meaning
use Rattle.tmpl_meaning.specs.Meaning.{Calls, End, Next, Run, after_turn, bind, meanings, scope, turns, elements_visited, with_bound}
use Rattle.tmpl_meaning.proofs.PartLemmas.{controlling, on_turn, over, scoped, spend_if}
use Rattle.tmpl_code.specs.Instruction as code
use Rattle.tmpl_code.specs.Layout.{Layout, bound_on, declared_in, declares_key, slot_named, first_layout}
use Rattle.tmpl_code.specs.Code.{Above, Code, Ended, NodesAt, SetDotAt, TurnAt}
use Rattle.tmpl_engine.specs.Cell.{Cell, cell, fresh}
use Rattle.tmpl_engine.specs.State.{State}
use Rattle.tmpl_engine.specs.Machine.{again, elements_for, elements_in, goes, is_number, left_in, open_range, after_step_if, ring, start_element}
use Rattle.tmpl_engine.specs.Machine.{variables_on, visit}
use Rattle.tmpl_engine.specs.Ends.{Comes}
use Rattle.tmpl_engine.proofs.NodeLemmas.{run_at, set, value-leads, valued}
use Rattle.tmpl_engine.proofs.NodeLemmas as nodes
use Rattle.tmpl_engine.proofs.PipelineLemmas.{found-within}
use Rattle.tmpl_engine.proofs.WayLemmas.{Inside, Ring, Stands, Way, Within, cut_to, exit_of}
use Rattle.tmpl_engine.proofs.SlotLemmas.{Cells, First, Frame, all_grown, all_grown_in, bound_in, cells-set, dropped, env-dropped, env_of, first-saved, frame_of}
use Rattle.tmpl_engine.proofs.SlotLemmas.{length-cells, length-env, named, over-binding, over-bound, over-none, run_of, stored, stored-none}
use Rattle.tmpl_engine.proofs.WayLemmas as ways

-- ---- elements

drop-one : (es : List Element) (k : ℕ) → drop 1 (drop k es) ≡ drop (suc k) es
drop-one es k = drop-drop 1 k es ∙ ap (λ n. drop n es) (add-one k)

-- an element less
one-less : (es : List Element) (k : ℕ) (e : Element) (more : List Element) → drop k es ≡ e ∷ more → drop (suc k) es ≡ more
one-less es k e more h = sym (drop-one es k) ∙ ap (drop 1) h

elements_visited-is : (b : Binding) (v : Value) → elements_visited b v ≡ elements_for (declares_key b) v
elements_visited-is (declare_pair key name) (number n) = refl
elements_visited-is b v = refl

-- with an index or key a range visits no others
elements-are : (key : Bool) (v : Value) (es : List Element) → elements_for key v ≡ Some es → elements_in (elements v) ≡ es
elements-are key v es e = grind arith

-- where no cell is forgotten after a turn it declared no variable
none-declared : (n declared : ℕ) (numbers : Bool) → (nat_eq n 0 && numbers) ≡ true → declared ≤ n → declared ≡ 0
none-declared zero declared numbers is least = omega arith
none-declared (suc n) declared numbers is least = grind arith

module _ (way : Way) (calls : Calls) (spare : ℕ) where
  abbrev NodesLead : Nodes → Type 0
  NodesLead = nodes.NodesLead way calls spare

  -- ---- the cells of the range around

  abbrev Ringed : Ring → Layout → ℕ → State → Type 0
  Ringed g lay n s =
      (es : List Cell) × (drop n s.cells ≡ cell g.dot g.place ∷ cell g.value g.index ∷ es) × Cells g.lay g.frame es
      × (run_of g.lay (record s { cells = es }) ≡ cut_to (named g.lay) (run_of lay s))

  ring-first : {lay : Layout} {fr : Frame} (g : Ring) (s : State) (w : Within g lay fr) → Cells lay fr s.cells → Ringed g lay w.n s
  ring-first {lay} g s w cells = (
    two.rest,
    one.cells ∙ ap (λ l. cell g.dot g.place ∷ l) two.cells,
    two.under,
    ap (λ (v : Environment). record (run_of lay s) { env = v }) (sym two.env ∙ sym one.env ∙ env-dropped w.over cells),
  )
    where
      one : First (None ∷ g.lay) (drop w.n s.cells) (cell g.dot g.place) (Some (cell g.value g.index) ∷ g.frame)
      one = first-saved (None ∷ g.lay) (drop w.n s.cells) (cell g.dot g.place) (Some (cell g.value g.index) ∷ g.frame) (dropped w.over cells)

      two : First g.lay one.rest (cell g.value g.index) g.frame
      two = first-saved g.lay one.rest (cell g.value g.index) g.frame one.under

  -- the end of the template
  returning : {lay : Layout} {fr : Frame} {here rest : Code} {s : State} → here ≡ code.return_from (length lay - 3) ∷ rest
      → Stands way.plan way.who here lay fr s → Inside way.home None lay fr → ways.Returning way s
  returning {lay} {rest = rest} {s = s} l st w = record {
    n = length lay - 3;
    more = rest;
    at = st.at ∙ l;
    runs = st.runs;
    frame = ap (λ k. frame_of first_layout (drop k s.cells)) (let size = w.1.size in let count : length lay - 3 ≡ w.0 = omega arith in count)
        ∙ (dropped w.1 st.cells).frame;
  }

  -- this many cells lie above those of the range around
  above : {g : Ring} {lay : Layout} {fr : Frame} (n : ℕ) → Above g.around lay n → (w : Within g lay fr) → n ≡ w.n
  above n over w = let size = w.over.size in let depth = w.depth in omega arith

  pub break-leads : nodes.NodeLeads way calls spare tree.break_node
  break-leads None lay fr here rest s l w room k = k s (returning l w.stands w.inside) refl
  break-leads (Some g) lay fr here rest s l w room k =
      let st = w.stands in
      let cells = ring-first g s w.inside st.cells in
      ways.does way st.runs (st.at ∙ l.3) tt
      (subst (λ cs. Comes (ways.Leading way) (ring cs (λ d v cs. goes (record s { cells = cs; dot = d.val; place = s.place + 1 + l.1 }))) way.end)
      (sym (ap (λ n. drop n s.cells) (above l.0 l.2 w.inside) ∙ cells.1))
      (k _ (record { at = ways.jump way s.place l.1 (st.at ∙ l.3) ∙ l.4; runs = st.runs; cells = cells.2 }) refl cells.3))

  pub continue-leads : nodes.NodeLeads way calls spare tree.continue_node
  continue-leads None lay fr here rest s l w room k = k s (returning l w.stands w.inside) refl
  continue-leads (Some g) lay fr here rest s l w room k =
      let st = w.stands in
      let cells = ring-first g s w.inside st.cells in
      k s (record {
        n = l.0;
        least = let same = above l.0 l.2 w.inside in let least = w.inside.least in omega arith;
        skip = l.1;
        more = rest;
        cs = cells.0;
        at = st.at ∙ l.3;
        runs = st.runs;
        far = l.4;
        cells = ap (λ n. drop n s.cells) (above l.0 l.2 w.inside) ∙ cells.1;
        under = cells.2;
        run = cells.3;
      })

  -- ---- the turns of a range over a value, whose code begins at a place

  module _ (b : Binding) (line : ℕ) (body : Nodes) (g : Option Ring) (lay : Layout) (fr : Frame) (start first second rest : Code) (to : ℕ) (d v : Value)
      (place : ℕ) (far : drop to second ≡ rest) (fits : length fr + (2 + declared_count b + need_of_nodes body) + spare ≤ way.room)
      (begin : drop place way.plan.code ≡ start)
      (turn-at : TurnAt b (None ∷ None ∷ lay) start first)
      (laid : NodesAt way.plan.templates body (bound_on b (None ∷ None ∷ lay)) (Some (record { out = rest; line = line; below = length lay })) first
      (code.next (declared_count b + declared_in body) to line ∷ second)) where
    abbrev saved : Cell
    saved = cell d place

    abbrev turning : ℕ → Ring
    turning k = record {
      lay = lay;
      frame = fr;
      dot = d;
      place = place;
      value = v;
      index = k;
      around = record { out = rest; line = line; below = length lay };
      declared = declared_count b;
    }

    abbrev inner : Layout
    inner = bound_on b (None ∷ None ∷ lay)

    -- what the cells are apart from the variables
    abbrev outer : ℕ → Frame
    outer k = Some saved ∷ Some (cell v k) ∷ fr

    abbrev B : Run → Type 0
    B r = ways.Onward way rest lay fr d (cut_to (named lay) r)

    -- the body for one element
    abbrev part : Element → Run → Run × End
    part e r = meanings (set way calls) body e.1 (with_bound b e r)

    abbrev others : List Element → Next
    others es = turns (set way calls) line b (λ v. meanings (set way calls) body v) es

    abbrev beyond : ℕ → Run → State → Type 0
    beyond k r t = ways.Turning way (turning k) r t

    -- after the range
    leaves : (r : Run) (t : State) → B r → Stands way.plan way.who rest lay fr t → t.dot ≡ d → run_of lay t ≡ r → ways.Leading way t
    leaves r t k st dot run = k t st dot (ways.run-dropped (over-none lay fr) t st.cells ∙ ap (cut_to (named lay)) run)

    on-turn : (es : List Element) (k : ℕ) (x : Run × End) (n : ℕ) → n ≡ named lay → ways.After way B g (after_turn (scoped n x) (others es))
        → ((r : Run) → ways.After way B g (others es r) → (t : State) → beyond k r t → ways.Leading way t)
        → ways.After way (λ r. (t : State) → beyond k (cut_to (named lay) r) t → ways.Leading way t) (Some (turning k)) x
    on-turn es k x n e h next = by x.1 (subst (λ m. ways.After way B g (after_turn (scoped m x) (others es))) e h)
      where
        by : (w : End) → ways.After way B g (on_turn w (cut_to (named lay) x.0) (others es))
            → ways.Then way (λ r. (t : State) → beyond k (cut_to (named lay) r) t → ways.Leading way t) (Some (turning k)) x.0 w
        by meaning.broke h = λ t st dot run. leaves (cut_to (named lay) x.0) t h st dot run
        by (meaning.faulted w) h = h
        by _ h = next (cut_to (named lay) x.0) h

    -- the instruction after a turn is the end of the turn
    body-ends : (k : ℕ) (dot : Value) (r : Run) → ((t : State) → beyond k (cut_to (named lay) r) t → ways.Leading way t)
        → ways.Onward way (code.next (declared_count b + declared_in body) to line ∷ second) (all_grown body inner) (all_grown_in body (bound_in b (outer k)))
        dot r
    body-ends k dot r h t st same run =
        let w : Within (turning k) (all_grown body inner) (all_grown_in body (bound_in b (outer k))) = record {
          n = declared_count b + declared_in body;
          over = over-bound b body (None ∷ None ∷ lay) (outer k);
          depth = refl;
          least = omega arith;
        } in
        let cells = ring-first (turning k) t w st.cells in
        h t (record {
          n = declared_count b + declared_in body;
          least = w.least;
          skip = to;
          more = second;
          cs = cells.0;
          at = st.at;
          runs = st.runs;
          far = far;
          cells = cells.1;
          under = cells.2;
          run = cells.3 ∙ ap (cut_to (named lay)) run;
        })

    -- where an element is visited: at its turn, or past it, where it declares no variable
    abbrev visited : Bool → Element → State → State
    visited false e s = s
    visited true e s = record s { dot = e.1; place = s.place + 1 }

    abbrev BindsNone : Bool → Binding → Type 0
    BindsNone past b = past ≡ true → declared_count b ≡ 0

    -- what a turn binds
    begins-turn : (past : Bool) → BindsNone past b → (e : Element) (es : List Element) (k : ℕ) (cs : List Cell) (s : State) → ways.who_of s ≡ way.who
        → drop k (elements_in (elements v)) ≡ e ∷ es → drop s.place way.plan.code ≡ start → Cells lay fr cs
        → ((ds : List Cell) (there : ℕ) → drop there way.plan.code ≡ first → Cells inner (bound_in b (outer k)) ds
        → env_of inner ds ≡ bind b e (env_of lay cs) → ways.Leading way (record s { cells = ds; dot = e.1; place = there }))
        → ways.Leading way (visited past e (record s { cells = saved ∷ cell v k ∷ cs }))
    begins-turn past none e es k cs s same here at cells more = by b none turn-at fits more
      where
        now : State
        now = record s { cells = saved ∷ cell v k ∷ cs }

        outside : Cells (None ∷ None ∷ lay) (outer k) now.cells
        outside = record { frame = ap (λ l. Some saved ∷ Some (cell v k) ∷ l) cells.frame; deep = (let deep = cells.deep in omega arith) }

        turns-by : (past : Bool) (n : ℕ) (is : Code) → (past ≡ true → n ≡ 0) → start ≡ code.turn n ∷ is → suc (suc (length cs)) + n ≤ way.room
            → (drop (s.place + 1) way.plan.code ≡ is → ways.Leading way (record s { cells = variables_on n e now.cells; dot = e.1; place = s.place + 1 }))
            → ways.Leading way (visited past e now)
        turns-by false n is none l fits h =
            ways.does way same (at ∙ l) fits
            (subst (λ l. Comes (ways.Leading way) (start_element n l now) way.end) (sym here) (h (ways.next way s.place (at ∙ l))))
        turns-by true n is none l fits h =
            subst (λ n. ways.Leading way (record s { cells = variables_on n e now.cells; dot = e.1; place = s.place + 1 })) (none refl)
            (h (ways.next way s.place (at ∙ l)))

        long : length cs ≡ length fr
        long = length-cells cells

        by : (b : Binding) → BindsNone past b → TurnAt b (None ∷ None ∷ lay) start first
            → length fr + (2 + declared_count b + need_of_nodes body) + spare ≤ way.room
            → ((ds : List Cell) (there : ℕ) → drop there way.plan.code ≡ first → Cells (bound_on b (None ∷ None ∷ lay)) (bound_in b (outer k)) ds
            → env_of (bound_on b (None ∷ None ∷ lay)) ds ≡ bind b e (env_of lay cs) → ways.Leading way (record s { cells = ds; dot = e.1; place = there }))
            → ways.Leading way (visited past e now)
        by unbound none l fits more = turns-by past 0 first none l (omega (arith, long)) (λ at. more now.cells (s.place + 1) at outside refl)
        by (declare x) none l fits more = turns-by past 1 first none l (omega (arith, long)) (λ at. more (fresh e.1 ∷ now.cells) (s.place + 1) at
            (record { frame = ap (λ l. None ∷ l) outside.frame; deep = (let deep = outside.deep in omega arith) }) refl)
        by (declare_pair i x) none l fits more =
            turns-by past 2 first none l (omega (arith, long)) (λ at. more (fresh e.1 ∷ fresh e.0 ∷ now.cells) (s.place + 1) at
            (record { frame = ap (λ l. None ∷ None ∷ l) outside.frame; deep = (let deep = outside.deep in omega arith) }) refl)
        by (assign x) none l fits more = turns-by past 0 l.0 none l.1 (omega (arith, long)) (sets (slot_named x (None ∷ None ∷ lay)) refl l.2)
          where
            sets : (o : Option ℕ) → slot_named x (None ∷ None ∷ lay) ≡ o → SetDotAt o l.0 first → drop (s.place + 1) way.plan.code ≡ l.0
                → ways.Leading way (record s { cells = saved ∷ cell v k ∷ cs; dot = e.1; place = s.place + 1 })
            sets None is-slot l there = more now.cells (s.place + 1) (there ∙ l) outside
                (sym (stored-none x (None ∷ None ∷ lay) now.cells e.1 is-slot outside.deep))
            sets (Some i) is-slot l there =
                ways.does way same (there ∙ l) (let below = found-within x (None ∷ None ∷ lay) i is-slot in let deep = cells.deep in omega arith)
                (more (slice_set now.cells i (fresh e.1)) (s.place + 1 + 1) (ways.next way (s.place + 1) (there ∙ l))
                (cells-set x (None ∷ None ∷ lay) now.cells i e.1 is-slot outside) (stored x (None ∷ None ∷ lay) now.cells i e.1 is-slot outside.deep))

    -- a turn from its first instruction on
    turn-leads : NodesLead body → (past : Bool) → BindsNone past b → (e : Element) (es : List Element) (k : ℕ) (cs : List Cell) (s : State)
        → ways.who_of s ≡ way.who → drop k (elements_in (elements v)) ≡ e ∷ es → drop s.place way.plan.code ≡ start → Cells lay fr cs
        → ways.After way B g (after_turn (scoped (length (env_of lay cs)) (part e (run_of lay (record s { cells = cs })))) (others es))
        → ((r : Run) → ways.After way B g (others es r) → (t : State) → beyond k r t → ways.Leading way t)
        → ways.Leading way (visited past e (record s { cells = saved ∷ cell v k ∷ cs }))
    turn-leads ih past none e es k cs s same here at cells h next =
        begins-turn past none e es k cs s same here at cells
        (λ ds there at-first inside-cells is-env.
        ih (Some (turning k)) inner (bound_in b (outer k)) first (code.next (declared_count b + declared_in body) to line ∷ second)
        (record s { cells = ds; dot = e.1; place = there }) laid
        (record { stands = record { at = at-first; runs = same; cells = inside-cells }; inside = inside; fits = (let tall = inside.over.tall in omega arith) })
        (subst (λ (w : Environment). let r : Run = record { env = w; text = s.text; left = s.left; made_text = s.made_text } in
        ways.After way goal (Some (turning k)) (meanings (set way calls) body e.1 r)) (sym is-env)
        (ways.then-map way C goal (Some (turning k)) x.0 x.1 (λ r h. body-ends k e.1 r h)
        (on-turn es k x (length (env_of lay cs)) (length-env lay cs cells.deep) h next))))
      where
        x : Run × End
        x = part e (run_of lay (record s { cells = cs }))

        goal : Run → Type 0
        goal = ways.Onward way (code.next (declared_count b + declared_in body) to line ∷ second) (all_grown body inner)
            (all_grown_in body (bound_in b (outer k))) e.1

        C : Run → Type 0
        C r = (t : State) → beyond k (cut_to (named lay) r) t → ways.Leading way t

        inside : Within (turning k) inner (bound_in b (outer k))
        inside = record { n = declared_count b; over = over-binding b (None ∷ None ∷ lay) (outer k); depth = refl; least = omega arith }

    visits : (past : Bool) (e : Element) (cs : List Cell) (s : State) → ways.Leading way (visited past e (record s { cells = cs; place = place }))
        → Comes (ways.Leading way) (visit past e cs place s) way.end
    visits false e cs s h = h
    visits true e cs s h = h

    -- the instruction after a turn, by the elements that are left
    nexts : (es : List Element) (k : ℕ) → drop (suc k) (elements_in (elements v)) ≡ es → (r : Run) (t : State) (tu : beyond k r t)
        → Comes (ways.Leading way) (again way.plan way.me tu.n tu.skip line saved (cell v k) tu.cs es t) way.end → ways.Leading way t
    nexts es k here r t tu h =
        ways.does way tu.runs tu.at tt
        (subst (λ cs. Comes (ways.Leading way) (ring cs (λ d v cs. again way.plan way.me tu.n tu.skip line d v cs (drop 1 (left_in v)) t)) way.end)
        (sym tu.cells)
        (subst (λ l. Comes (ways.Leading way) (again way.plan way.me tu.n tu.skip line saved (cell v k) tu.cs l t) way.end)
        (sym (drop-one (elements_in (elements v)) k ∙ here)) h))

    -- after a turn
    next-leads : NodesLead body → (es : List Element) (k : ℕ) → drop (suc k) (elements_in (elements v)) ≡ es → (r : Run) → ways.After way B g (others es r)
        → (t : State) → beyond k r t → ways.Leading way t
    next-leads ih [] k here r h t tu =
        nexts [] k here r t tu
        (leaves r (record t { cells = tu.cs; dot = d; place = t.place + 1 + tu.skip }) h
        (record { at = ways.jump way t.place tu.skip tu.at ∙ tu.far; runs = tu.runs; cells = tu.under })
        refl tu.run)
    next-leads ih (e ∷ es) k here r h t tu =
        nexts (e ∷ es) k here r t tu (on (λ r h t tu. next-leads ih es (suc k) (one-less (elements_in (elements v)) (suc k) e es here) r h t tu)
        (nat_eq t.left 0) (subst (λ r. ways.After way B g (others (e ∷ es) r)) (sym tu.run) h))
      where
        past : Bool
        past = nat_eq tu.n 0 && is_number v

        on : ((r : Run) → ways.After way B g (others es r) → (t : State) → beyond (suc k) r t → ways.Leading way t)
            → (c : Bool) → ways.After way B g (after_turn (spend_if c (set way calls) line (scope (λ r. part e r))
            (run_of lay (record t { cells = tu.cs }))) (others es))
            → Comes (ways.Leading way) (after_step_if c way.plan way.me line t (visit past e (saved ∷ cell v (suc k) ∷ tu.cs) place)) way.end
        on next true h = h
        on next false h =
            visits past e (saved ∷ cell v (suc k) ∷ tu.cs) (record t { left = t.left - 1; line = line })
            (turn-leads ih past (λ is. none-declared tu.n (declared_count b) (is_number v) is tu.least) e es (suc k) tu.cs
            (record t { left = t.left - 1; line = line; place = place }) tu.runs here begin tu.under h next)

  -- ---- ranges

  pub range-leads : (h : Header) (body other : Nodes) → NodesLead body → NodesLead other
      → nodes.NodeLeads way calls spare (tree.control_node control.Range h body other)
  range-leads h body other ih-body ih-other g lay fr here rest s l w room k =
      let fits = w.fits in
      value-leads way calls B g s.left h.pipeline go l.1 st (omega arith)
      (ways.unscope way A g lay fr (length (env_of lay s.cells)) (controlling (set way calls) s.line control.Range h s.dot body-of other-of (run_of lay s))
      (length-env lay s.cells st.cells.deep) w.inside k)
      (λ v m place at k. ways.does way st.runs (at ∙ l.2.5) (let long = length-cells st.cells in omega arith)
      (by v m place (at ∙ l.2.5) (elements_for (declares_key h.binding) v) refl
      (subst (λ o. ways.After way B g (over (set way calls) s.line h.binding body-of other-of o (run_at lay m s))) (elements_visited-is h.binding v) k)))
    where
      st : Stands way.plan way.who here lay fr s
      st = w.stands

      A : Run → Type 0
      A = ways.Onward way rest lay fr s.dot

      B : Run → Type 0
      B = λ r. A (cut_to (named lay) r)

      body-of : Value → Next
      body-of v = meanings (set way calls) body v

      other-of : Next
      other-of = meanings (set way calls) other s.dot

      go : Value → Next
      go v = over (set way calls) s.line h.binding body-of other-of (elements_visited h.binding v)

      by : (v : Value) (m : Bool) (place : ℕ) → drop place way.plan.code ≡ code.enter (declares_key h.binding) l.2.3 ∷ l.2.0
          → (o : Option (List Element)) → elements_for (declares_key h.binding) v ≡ o
          → ways.After way B g (over (set way calls) s.line h.binding body-of other-of o (run_at lay m s))
          → Comes (ways.Leading way) (open_range way.plan way.me l.2.3 (fresh v) s.cells o (valued v m place s)) way.end
      by v m place at None e k = k
      by v m place at (Some []) e k =
          nodes.part-leads way calls spare other ih-other unbound g lay fr rest 0
          (subst (λ n. Ended n 0 (NodesAt way.plan.templates other lay (exit_of g)) l.2.2 rest)
          (let zero-more : declared_in other ≡ 0 + declared_in other = omega arith in zero-more) l.2.8) refl w.inside (let fits = w.fits in omega arith)
          (record { at = ways.jump way place l.2.3 at ∙ l.2.9; runs = st.runs; cells = st.cells }) refl refl k
      by v m place at (Some (e ∷ es)) is k = on (nat_eq s.left 0) k
        where
          begin : drop (place + 1) way.plan.code ≡ l.2.0
          begin = ways.next way place at

          more : length fr + (2 + declared_count h.binding + need_of_nodes body) + spare ≤ way.room
          more = let fits = w.fits in omega arith

          here-es : elements_in (elements v) ≡ e ∷ es
          here-es = elements-are (declares_key h.binding) v (e ∷ es) is

          on : (c : Bool) → ways.After way B g (after_turn (spend_if c (set way calls) s.line (scope (λ r. body-of e.1 (with_bound h.binding e r)))
              (run_at lay m s)) (turns (set way calls) s.line h.binding body-of es))
              → Comes (ways.Leading way) (after_step_if c way.plan way.me s.line (valued v m place s)
              (λ t. goes (record t { cells = cell t.dot (t.place + 1) ∷ fresh v ∷ s.cells; dot = nothing; place = t.place + 1 }))) way.end
          on true k = k
          on false k =
              turn-leads h.binding s.line body g lay fr l.2.0 l.2.1 l.2.2 rest l.2.4 s.dot v (place + 1) l.2.10 more begin l.2.6 l.2.7 ih-body
              false (λ e. cc) e es 0 s.cells (record (valued v m place s) { dot = nothing; left = s.left - 1; place = place + 1 })
              st.runs here-es begin st.cells k
              (λ r hr t tu. next-leads h.binding s.line body g lay fr l.2.0 l.2.1 l.2.2 rest l.2.4 s.dot v
              (place + 1) l.2.10 more begin l.2.6 l.2.7 ih-body es 0
              (one-less (elements_in (elements v)) 0 e es here-es) r hr t tu)
