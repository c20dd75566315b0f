-- For the law `comes_to_meaning`: the code of a call and of a template comes to what they mean, by induction on the depth of calls.
use Rattle.std.proofs.lemmas.Bool.Decides.{nat_tests}
use Rattle.std.proofs.Common.{arith, ◌≡◌, ◌∙◌, ◌+◌, ◌-◌, ◌≤◌, ◌<◌, nat_eq, nat_lt, ◌++◌, ℕ, zero, suc, Bool, true, false, List, [], ◌∷◌, length, drop, refl, ap, sym}
use Rattle.std.proofs.Common.{subst, Option, Some, None, inl, inr}
use Rattle.std.specs.Prelude.{slice_get}
use Rattle.tmpl_values.specs.Value.{Value, nothing}
use Rattle.tmpl_grammar.specs.Tree.{Pipeline, Header}
use Rattle.tmpl_grammar.specs.Need.{need_of_given}
use Rattle.tmpl_grammar.specs.declared.tree.Control.{Control}
use Rattle.tmpl_grammar.specs.declared.tree.Control.TheVariants as control
use Rattle.tmpl_syntax.specs.Tree as tree
use Rattle.tmpl_syntax.specs.Need.{need}
use Rattle.tmpl_syntax.specs.Set.{Template, number_of}
use Rattle.tmpl_syntax.proofs.NamedLemmas.{Named, numbered, unnumbered}
use Rattle.tmpl_syntax.specs.Tree.{NodeKind, Nodes}
use Rattle.tmpl_meaning.specs.Meaning as meaning
use Rattle.tmpl_meaning.specs.Meaning.{Calls, End, Next, Ran, Run, Setting, calls_within, meanings, setting_of, with_value, stepped}
use Rattle.tmpl_meaning.proofs.PartLemmas.{apart, calling, handing, left_by, ran_of, ran_with, returned, run_called, spend_if, started, uncalled}
use Rattle.tmpl_code.specs.Instruction as code
use Rattle.tmpl_code.specs.Layout.{Layout, first_layout, declared_in, after_node}
use Rattle.tmpl_code.specs.Calls.{IsChain, NodesName, NodeNames}
use Rattle.tmpl_code.specs.Room.{need_at, need_found, needs_along, Suffices}
use Rattle.tmpl_code.specs.Code.{CallAt, Code, GivenAt, Starts, TreeAt, step_of_call, NodesAt}
use Rattle.tmpl_engine.specs.Cell.{Cell, cell, fresh}
use Rattle.tmpl_engine.specs.State.{Plan, State, starting}
use Rattle.tmpl_engine.specs.Machine.{deepen_run, frame, goes, invoke_template, after_step_if, returned_if}
use Rattle.tmpl_engine.specs.Ends.{Comes, Ends}
use Rattle.tmpl_engine.proofs.NodeLemmas.{run_at, value-leads, valued, with_left, action-leads, if-leads, inside-after_node, spent, with-leads}
use Rattle.tmpl_engine.proofs.DepthLemmas.{absent}
use Rattle.tmpl_engine.proofs.NodeLemmas as nodes
use Rattle.tmpl_engine.proofs.WayLemmas.{Ring, Stands, Way, Who, way_of, who_of, bare, seen}
use Rattle.tmpl_engine.proofs.SlotLemmas.{Frame, all_grown, all_grown_in, below, below-same, dropped, env_of, frame_of, grown_in, length-cells, length-frame}
use Rattle.tmpl_engine.proofs.SlotLemmas.{over-after_node, over-node, over-none, run_of}
use Rattle.tmpl_engine.proofs.WayLemmas as ways
use Rattle.tmpl_engine.proofs.RangeLemmas.{break-leads, continue-leads, range-leads}

-- ---- a template, by its number

-- the code of each template lies where it starts
pub record Started (all : List Template) (t : Template) (places : List ℕ) (code : Code) (k : ℕ) : Type 0 where
  pub place : ℕ
  pub at : slice_get places k ≡ Some place
  pub rest : Code
  pub laid : TreeAt all t.1.nodes (drop place code) rest

pub starts-at : (all ts : List Template) (places : List ℕ) (code : Code) (k : ℕ) (t : Template) → Starts all ts places code → slice_get ts k ≡ Some t
    → Started all t places code k
starts-at all [] [] code k t l e = cc
starts-at all [] (p ∷ places) code k t l e = absurd l
starts-at all (u ∷ ts) [] code k t l e = absurd l
starts-at all (u ∷ ts) (p ∷ places) code zero t l e =
    let same : u ≡ t = cc in record { place = p; at = refl; rest = l.0.0; laid = subst (λ (v : Template). TreeAt all v.1.nodes (drop p code) l.0.0) same l.0.1 }
starts-at all (u ∷ ts) (p ∷ places) code (suc k) t l e =
    let more = starts-at all ts places code k t l.1 e in record { place = more.place; at = more.at; rest = more.rest; laid = more.laid }

-- what the template of a number needs
pub need-is : (ts : List Template) (k : ℕ) (t : Template) → slice_get ts k ≡ Some t → need_at ts k ≡ need t.1
need-is ts k t e = ap need_found e

-- above this many cells there is room for a template and for each chain of this many more calls from it
abbrev pub Left : List Template → ℕ → ℕ → ℕ → ℕ → Type 0
Left ts room n number base = (rest : List ℕ) → IsChain ts number rest → length rest ≤ n → base + needs_along ts number rest ≤ room

-- ---- calls

-- the three cells of a template that is called
abbrev called_frame : Cell → Cell → List Cell → Frame
called_frame back saved cs = None ∷ Some back ∷ Some saved ∷ below cs

saved-below : (ds : List Cell) → frame_of (None ∷ None ∷ []) ds ≡ below ds
saved-below ds = grind arith

framed : (ds : List Cell) (back saved : Cell) (cs : List Cell) → frame_of first_layout ds ≡ called_frame back saved cs
    → (c : Cell) × (ds ≡ c ∷ back ∷ saved ∷ cs)
framed [] back saved cs e = cc
framed (c ∷ ds) back saved cs e = (c, ap (λ l. c ∷ l) (below-same ds (back ∷ saved ∷ cs) (sym (saved-below ds) ∙ ap (drop 1) e)))

-- a state in the template of this number, which starts here, over a value; these cells are below
abbrev entered : ℕ → ℕ → Value → List Cell → State → State
entered number start v cs s = record s {
  cells = fresh v ∷ cell nothing (s.place + 1) ∷ cell s.dot s.template ∷ cs;
  dot = v;
  template = number;
  depth = suc s.depth;
  place = start;
}

-- a template from its start, inside which this many calls may still be made
abbrev pub TemplateLeads : Plan → ℕ → Ran → ℕ → Type 0
TemplateLeads plan room f n =
    (who : Who) (me : Template) (is-me : slice_get plan.templates who.number ≡ Some me) → 1 ≤ who.depth → who.depth + n ≡ plan.rules.depth_limit
    → (home : Frame) (s : State) → who_of s ≡ who → slice_get plan.starts who.number ≡ Some s.place → frame_of first_layout s.cells ≡ home → 3 ≤ length s.cells
    → (base : ℕ) → length home ≡ 3 + base → Left plan.templates room n who.number base
    → ways.After (way_of plan room f who me is-me home) (ways.Leaves (way_of plan room f who me is-me home)) None
    (meanings (setting_of plan.rules (calls_within plan.rules plan.templates n) me.0 me.1) me.1.nodes s.dot (run_of first_layout s))
    → ways.Reaches plan room f s

-- what is known of the templates that may be called
abbrev pub Deeper : Plan → ℕ → Ran → ℕ → Type 0
Deeper plan room f zero = Unit {0}
Deeper plan room f (suc n) = TemplateLeads plan room f n

module _ (way : Way) (first : 1 ≤ way.who.depth) (linked : Starts way.plan.templates way.plan.templates way.plan.starts way.plan.code)
  where
    abbrev calls_of : ℕ → Calls
    calls_of n = calls_within way.plan.rules way.plan.templates n

    abbrev set_of : ℕ → Setting
    set_of n = ways.setting way (calls_of n)

    -- inside a template that a state calls
    abbrev inside-of : State → (number : ℕ) (t : Template) → slice_get way.plan.templates number ≡ Some t → ℕ → Way
    inside-of s number t is-t place =
        way_of way.plan way.room way.end (record { number = number; depth = suc s.depth }) t is-t
        (called_frame (cell nothing (place + 1)) (cell s.dot s.template) s.cells)

    -- a template that is called goes back to its caller
    goes-back : (g : Option Ring) (lay : Layout) (fr : Frame) (rest : Code) (s : State) (number : ℕ) (t : Template)
        (is-t : slice_get way.plan.templates number ≡ Some t) (place : ℕ)
        → Stands way.plan way.who rest lay fr (record s { place = place + 1 })
        → (x : Run × End) → ways.After way (ways.Onward way rest lay fr s.dot) g (returned (env_of lay s.cells) x)
        → ways.After (inside-of s number t is-t place) (ways.Leaves (inside-of s number t is-t place)) None x
    goes-back g lay fr rest s number t is-t place st x k = by x.1 k
      where
        callee : Way
        callee = inside-of s number t is-t place

        back : ways.Onward way rest lay fr s.dot (record x.0 { env = env_of lay s.cells }) → ways.Leaves callee x.0
        back h u ret same =
            ways.does callee ret.runs ret.at tt
            (subst (λ b. Comes (ways.Leading way) (returned_if b (drop ret.n u.cells) u) way.end) (sym inner)
            (subst (λ cs. Comes (ways.Leading way) (frame cs (λ back saved cs. goes
            (record u { cells = cs; dot = saved.val; template = saved.num; depth = u.depth - 1; place = back.num }))) way.end) (sym cells.1)
            (h (record u { cells = s.cells; dot = s.dot; template = s.template; depth = u.depth - 1; place = place + 1 })
            (record {
              at = st.at;
              runs = ap (λ n. let w : Who = record { number = s.template; depth = n } in w)
                  (let d = deep in let same : u.depth - 1 ≡ s.depth = omega arith in same) ∙ st.runs;
              cells = st.cells;
            })
            refl (ap (λ (r : Run). record r { env = env_of lay s.cells }) same))))
          where
            deep : u.depth ≡ suc s.depth
            deep = ap (λ (w : Who). w.depth) ret.runs

            inner : nat_lt 1 u.depth ≡ true
            inner = let d = deep in let one = first in let same : s.depth ≡ way.who.depth = ap (λ (w : Who). w.depth) st.runs in let other : 2 ≤ u.depth =
                omega arith in grind (arith, nat_tests)

            cells : (c : Cell) × (drop ret.n u.cells ≡ c ∷ cell nothing (place + 1) ∷ cell s.dot s.template ∷ s.cells)
            cells = framed (drop ret.n u.cells) (cell nothing (place + 1)) (cell s.dot s.template) s.cells ret.frame

        by : (e : End) → ways.Then way (ways.Onward way rest lay fr s.dot) g (record x.0 { env = env_of lay s.cells }) (left_by e)
            → ways.Then callee (ways.Leaves callee) None x.0 e
        by (meaning.faulted w) k = k
        by _ k = back k

    -- the call itself, with its value on the stack
    invokes : (m : ℕ) → TemplateLeads way.plan way.room way.end m → way.who.depth + suc m ≡ way.plan.rules.depth_limit
        → (g : Option Ring) (lay : Layout) (fr : Frame) (rest : Code) (s : State) (name : List ℕ) (number : ℕ) (named : Named name way.plan.templates number)
        (v : Value) (made : Bool) (place : ℕ)
        → nat_eq s.left 0 ≡ false → Stands way.plan way.who rest lay fr (record s { place = place + 1 }) → drop place way.plan.code ≡ code.invoke number ∷ rest
        → Left way.plan.templates way.room m number (length s.cells)
        → ways.After way (ways.Onward way rest lay fr s.dot) g (apart v (meanings (setting_of way.plan.rules (calls_of m) name named.t.1) named.t.1.nodes v)
        (with_left (s.left - 1) (run_at lay made s)))
        → ways.Leading way (valued v made place s)
    invokes m callee depth g lay fr rest s name number named v made place some st at left k =
        ways.does way st.runs at
        (let a = own in let b = most in omega arith)
        (subst (λ o. Comes (ways.Leading way) (invoke_template way.plan way.me number o (fresh v) s.cells (valued v made place s)) way.end) (sym start.at)
        (subst
        (λ b. Comes (ways.Leading way) (after_step_if b way.plan way.me s.line (valued v made place s) (λ t. goes (entered number start.place v s.cells t))) way.end)
        (sym some)
        (callee (record { number = number; depth = suc s.depth }) named.t named.at (omega arith)
        (let same : s.depth ≡ way.who.depth = ap (λ (w : Who). w.depth) st.runs in omega arith)
        (called_frame (cell nothing (place + 1)) (cell s.dot s.template) s.cells) inside refl start.at refl (omega arith) (length s.cells) length-called left
        (goes-back g lay fr rest (record s { made_text = made }) number named.t named.at place
        (record { at = st.at; runs = st.runs; cells = st.cells })
        (meanings (setting_of way.plan.rules (calls_of m) named.t.0 named.t.1) named.t.1.nodes v (run_of first_layout inside))
        (subst (λ (n : List ℕ). ways.After way (ways.Onward way rest lay fr s.dot) g
        (apart v (meanings (setting_of way.plan.rules (calls_of m) n named.t.1) named.t.1.nodes v) (with_left (s.left - 1) (run_at lay made s)))) named.same
        k)))))
      where
        start : Started way.plan.templates named.t way.plan.starts way.plan.code number
        start = starts-at way.plan.templates way.plan.templates way.plan.starts way.plan.code number named.t linked named.at

        inside : State
        inside = entered number start.place v s.cells (record s { left = s.left - 1; made_text = made; place = place })

        own : length s.cells + need_at way.plan.templates number ≤ way.room
        own = left [] tt (omega arith)

        most : need_at way.plan.templates number ≡ need named.t.1
        most = need-is way.plan.templates number named.t named.at

        length-called : length (called_frame (cell nothing (place + 1)) (cell s.dot s.template) s.cells) ≡ 3 + length s.cells
        length-called = let same = length-frame [] s.cells (omega arith) in omega arith

    pub call-leads : (n : ℕ) → Deeper way.plan way.room way.end n → way.who.depth + n ≡ way.plan.rules.depth_limit → (base spare : ℕ)
        → Left way.plan.templates way.room n way.who.number base
        → way.room ≤ base + need way.me.1 + spare → (line : ℕ) (name : List ℕ) (given : Option Pipeline) → NodesName name way.me.1.nodes
        → nodes.StepLeads way (calls_of n) spare line (tree.template_node name given)
    call-leads n deeper depth base spare left tight line name given is-named g lay fr here start rest s l at-node w room k =
        by (number_of name way.plan.templates) refl l at-node
      where
        st : Stands way.plan way.who here lay fr s
        st = w.stands

        A : Run → Type 0
        A = ways.Onward way rest lay fr s.dot

        by : (o : Option ℕ) → number_of name way.plan.templates ≡ o → here ≡ step_of_call line o ∷ start
            → CallAt name o given lay start rest → ways.Leading way s
        by None e l at-node =
            ways.spends way (calls_of n) A g lay line start s (calling (set_of n) line name given s.dot) st.runs (st.at ∙ l) k
            (λ at k. ways.does way st.runs (at ∙ at-node) tt
            (subst (λ c. ways.After way A g (with_value (set_of n) line c (handing (set_of n) line given s.dot) (run_of lay (ways.step_taken line s))))
            (absent way.plan.rules way.plan.templates n name (unnumbered name way.plan.templates e)) k))
        by (Some number) e l at-node =
            ways.does way st.runs (st.at ∙ l) tt (pays (nat_eq s.left 0) refl k)
          where
            named : Named name way.plan.templates number
            named = numbered name way.plan.templates number e

            same-depth : s.depth ≡ way.who.depth
            same-depth = ap (λ (w : Who). w.depth) st.runs

            next : State
            next = record s { line = line; place = s.place + 1 }

            there : drop (s.place + 1) way.plan.code ≡ start
            there = ways.next way s.place (st.at ∙ l)

            -- a chain of calls from there is one from here, with one call more
            deeper-left : (m : ℕ) → Left way.plan.templates way.room (suc m) way.who.number base → length fr + spare ≤ way.room
                → Left way.plan.templates way.room m number (length s.cells)
            deeper-left m left fits rest chain short =
                let long = length-cells st.cells in
                let mine = need-is way.plan.templates way.who.number way.me way.is-me in
                let all = left (number ∷ rest) (record { caller = way.me; at = way.is-me; name = name; named = is-named; number = e }, chain) (omega arith) in
                omega arith

            enters : (n : ℕ) → Deeper way.plan way.room way.end n → way.who.depth + n ≡ way.plan.rules.depth_limit
                → Left way.plan.templates way.room n way.who.number base → length fr + need_of_given given + spare ≤ way.room
                → nat_eq s.left 0 ≡ false
                → ways.After way A g
                (with_value (set_of n) line (calls_of n name) (handing (set_of n) line given s.dot) (with_left (s.left - 1) (run_of lay s)))
                → Comes (ways.Leading way) (deepen_run false (nat_lt s.depth way.plan.rules.depth_limit) way.plan way.me line s) way.end
            enters zero deeper depth left fits some k =
                subst (λ b. Comes (ways.Leading way) (deepen_run false b way.plan way.me line s) way.end) (sym closed)
                (subst (λ c. ways.After way A g (with_value (set_of zero) line c (handing (set_of zero) line given s.dot)
                (with_left (s.left - 1) (run_of lay s)))) (ap (uncalled way.plan.rules name) named.tree) k)
              where
                closed : nat_lt s.depth way.plan.rules.depth_limit ≡ false
                closed = let same = same-depth in let under : way.plan.rules.depth_limit ≤ s.depth = omega arith in grind (arith, nat_tests)
            enters (suc m) deeper depth left fits some k =
                subst (λ b. Comes (ways.Leading way) (deepen_run false b way.plan way.me line s) way.end) (sym is-open)
                (hands given at-node fits (subst (λ c. ways.After way A g (with_value (set_of (suc m)) line c (handing (set_of (suc m)) line given s.dot)
                (with_left (s.left - 1) (run_of lay s)))) (ap (run_called way.plan.rules (calls_of m) name) named.tree) k))
              where
                is-open : nat_lt s.depth way.plan.rules.depth_limit ≡ true
                is-open = let same = same-depth in let over : s.depth < way.plan.rules.depth_limit = omega arith in grind (arith, nat_tests)

                body : Value → Next
                body v = apart v (meanings (setting_of way.plan.rules (calls_of m) name named.t.1) named.t.1.nodes v)

                gets : (v : Value) (made : Bool) (place : ℕ) → drop place way.plan.code ≡ code.invoke number ∷ rest
                    → ways.After way A g (body v (with_left (s.left - 1) (run_at lay made s))) → ways.Leading way (valued v made place next)
                gets v made place at k = invokes m deeper depth g lay fr rest next name number named v made place some
                    (record { at = ways.next way place at; runs = st.runs; cells = st.cells }) at
                    (deeper-left m left (omega arith)) k

                hands : (given : Option Pipeline) → GivenAt given lay start (code.invoke number ∷ rest)
                    → length fr + need_of_given given + spare ≤ way.room
                    → ways.After way A g (handing (set_of (suc m)) line given s.dot body (with_left (s.left - 1) (run_of lay s))) → ways.Leading way next
                hands None l fits k =
                    ways.does way st.runs (there ∙ l) (let long = length-cells st.cells in omega arith)
                    (gets nothing s.made_text (s.place + 1 + 1 + 0) (ways.jump way (s.place + 1) 0 (there ∙ l)) k)
                hands (Some p) l fits k =
                    value-leads way (calls_of (suc m)) A g (s.left - 1) p body l (record { at = there; runs = st.runs; cells = st.cells }) (omega arith) k
                    (λ v made place at k. gets v made place at k)

            pays : (b : Bool) → nat_eq s.left 0 ≡ b → ways.After way A g (spend_if b (set_of n) line (calling (set_of n) line name given s.dot)
                (run_of lay s))
                → Comes (ways.Leading way) (deepen_run b (nat_lt s.depth way.plan.rules.depth_limit) way.plan way.me line s) way.end
            pays true is k = k
            pays false is k = enters n deeper depth left w.fits is k

module _ (way : Way) (first : 1 ≤ way.who.depth) (linked : Starts way.plan.templates way.plan.templates way.plan.starts way.plan.code)
    (n : ℕ) (deeper : Deeper way.plan way.room way.end n) (depth : way.who.depth + n ≡ way.plan.rules.depth_limit) (base : ℕ)
    (tall : length way.home ≡ 3 + base) (left : Left way.plan.templates way.room n way.who.number base) where
  abbrev calls : Calls
  calls = calls_within way.plan.rules way.plan.templates n

  -- what is left above the template's own cells
  abbrev spare : ℕ
  spare = way.room - (base + need way.me.1)

  fits-here : base + need way.me.1 ≤ way.room
  fits-here = let own = left [] tt (omega arith) in let mine = need-is way.plan.templates way.who.number way.me way.is-me in omega arith

  -- the template names what these name
  abbrev Mine : (List ℕ → Type 0) → Type 0
  Mine Names = (name : List ℕ) → Names name → NodesName name way.me.1.nodes

  abbrev set : Setting
  set = setting_of way.plan.rules calls way.me.0 way.me.1

  text-leads : (line : ℕ) (bytes : List ℕ) → nodes.StepLeads way calls spare line (tree.text bytes)
  text-leads line bytes g lay fr here start rest s l at-node w room k =
      let st = w.stands in
      let at = st.at ∙ l ∙ at-node in
      ways.pays way calls (ways.Onward way rest lay fr s.dot) g lay line s (stepped set line (tree.text bytes) s.dot)
      (λ s. goes (record s { text = s.text ++ bytes; place = s.place + 1 })) st.runs at tt refl k
      (λ k. k _ (record { at = ways.next way s.place at; runs = st.runs; cells = st.cells }) refl refl)

  control-leads : (c : Control) (h : Header) (body other : Nodes) → nodes.NodesLead way calls spare body → nodes.NodesLead way calls spare other
      → nodes.NodeLeads way calls spare (tree.control_node c h body other)
  control-leads control.If h body other = if-leads way calls spare h body other
  control-leads control.With h body other = with-leads way calls spare h body other
  control-leads control.Range h body other = range-leads way calls spare h body other

  mutual
    step-leads : (line : ℕ) (n : NodeKind) → Mine (λ name. NodeNames name n) → nodes.StepLeads way calls spare line n
    step-leads line (tree.text bytes) mine = text-leads line bytes
    step-leads line (tree.action h) mine = action-leads way calls spare line h
    step-leads line (tree.control_node c h body other) mine =
        spent way calls spare line (tree.control_node c h body other) (λ first after l. l)
        (control-leads c h body other (nodes-lead body (λ name names. mine name (inl names))) (nodes-lead other (λ name names. mine name (inr names))))
    step-leads line tree.break_node mine = spent way calls spare line tree.break_node (λ first after l. l) (break-leads way calls spare)
    step-leads line tree.continue_node mine = spent way calls spare line tree.continue_node (λ first after l. l) (continue-leads way calls spare)
    step-leads line (tree.template_node name given) mine =
        call-leads way first linked n deeper depth base spare left (let own = fits-here in omega arith) line name given (mine name refl)

    nodes-lead : (ns : Nodes) → Mine (λ name. NodesName name ns) → nodes.NodesLead way calls spare ns
    nodes-lead tree.none mine g lay fr here rest s l w k = let st = w.stands in k s (record { at = st.at ∙ l; runs = st.runs; cells = st.cells }) refl refl
    nodes-lead (tree.then line n ns) mine g lay fr here rest s l w k =
        step-leads line n (λ name names. mine name (inl names)) g lay fr here l.0 l.1 s l.2 l.3
        (record { stands = w.stands; inside = w.inside; fits = (let fits = w.fits in omega arith) }) (let fits = w.fits in omega arith)
        (ways.then-map way (λ r. ways.After way A g (meanings set ns s.dot r)) (ways.Onward way l.1 (after_node n lay) (grown_in n fr) s.dot) g x.0 x.1
        (λ r k t stands dot run. nodes-lead ns (λ name names. mine name (inr names)) g (after_node n lay) (grown_in n fr) l.1 rest t l.4
        (record {
          stands = stands;
          inside = inside-after_node way.home g n lay fr w.inside;
          fits = (let fits = w.fits in let tall = (over-node n lay fr).tall in omega arith);
        })
        (subst (λ d. ways.After way (ways.Onward way rest (all_grown ns (after_node n lay)) (all_grown_in ns (grown_in n fr)) d) g
        (meanings set ns d (run_of (after_node n lay) t))) (sym dot)
        (subst (λ r. ways.After way A g (meanings set ns s.dot r)) (sym run) k)))
        (ways.then-on way A g x.0 x.1 (meanings set ns s.dot) k))
      where
        A : Run → Type 0
        A = ways.Onward way rest (all_grown ns (after_node n lay)) (all_grown_in ns (grown_in n fr)) s.dot

        x : Run × End
        x = meaning.spend set line (stepped set line n s.dot) (run_of lay s)

  -- a whole template
  template-leads : (s : State) → who_of s ≡ way.who → slice_get way.plan.starts way.who.number ≡ Some s.place → frame_of first_layout s.cells ≡ way.home
      → 3 ≤ length s.cells
      → ways.After way (ways.Leaves way) None (meanings set way.me.1.nodes s.dot (run_of first_layout s))
      → ways.Leading way s
  template-leads s same at-start frame deep k =
      nodes-lead way.me.1.nodes (λ name names. names) None first_layout way.home (drop s.place way.plan.code) end s
      (subst (λ p. NodesAt way.plan.templates way.me.1.nodes first_layout None (drop p way.plan.code) end) place start.laid)
      (record {
        stands = record { at = refl; runs = same; cells = record { frame = frame; deep = deep } };
        inside = (0, over-none first_layout way.home);
        fits = (let own = fits-here in let high = tall in omega arith);
      })
      (ways.then-map way (ways.Leaves way) (ways.Onward way end (all_grown way.me.1.nodes first_layout) (all_grown_in way.me.1.nodes way.home) s.dot) None x.0
      x.1
      (λ r k t st dot run. k t (record {
        n = declared_in way.me.1.nodes;
        more = start.rest;
        at = st.at;
        runs = st.runs;
        frame = (dropped (over-after_node way.me.1.nodes first_layout way.home) st.cells).frame;
      }) (ap bare run)) k)
    where
      start : Started way.plan.templates way.me way.plan.starts way.plan.code way.who.number
      start = starts-at way.plan.templates way.plan.templates way.plan.starts way.plan.code way.who.number way.me linked way.is-me

      end : Code
      end = code.return_from (declared_in way.me.1.nodes) ∷ start.rest

      place : start.place ≡ s.place
      place = let both : Some start.place ≡ Some s.place = sym start.at ∙ at-start in cc

      x : Run × End
      x = meanings set way.me.1.nodes s.dot (run_of first_layout s)

-- each template, however many calls may still be made
pub templates-lead : (plan : Plan) (room : ℕ) (f : Ran) → Starts plan.templates plan.templates plan.starts plan.code → (n : ℕ) → TemplateLeads plan room f n
templates-lead plan room f linked zero who me is-me first depth home s same at-start frame deep base tall left k =
    template-leads (way_of plan room f who me is-me home) first linked zero tt depth base tall left s same at-start frame deep k
templates-lead plan room f linked (suc n) who me is-me first depth home s same at-start frame deep base tall left k =
    template-leads (way_of plan room f who me is-me home) first linked (suc n) (λ who me is-me first depth home s same at-start frame deep base tall left k.
    templates-lead plan room f linked n who me is-me first depth home s same at-start frame deep base tall left k)
    depth base tall left s same at-start frame deep k

-- the first template ends the run
module _ (plan : Plan) (room : ℕ) (linked : Starts plan.templates plan.templates plan.starts plan.code) (some : 1 ≤ plan.rules.depth_limit) where
  pub run-leads : (number : ℕ) (t : Template) → Suffices plan.rules.depth_limit plan.templates number room → slice_get plan.templates number ≡ Some t
      → (start : ℕ) → slice_get plan.starts number ≡ Some start → (d : Value)
      → Ends plan room (starting plan number start d) (ran_with plan.rules plan.templates t.0 t.1 d)
  run-leads number me fits is-me start at-start d =
      (templates-lead plan room f linked (plan.rules.depth_limit - 1) who me is-me (omega arith) (omega arith) home (starting plan number start d) refl
      at-start refl (omega arith) 0 refl (λ rest chain short. let all = fits rest chain (omega arith) in omega arith) (by x.1 refl)).ends
    where
      who : Who
      who = record { number = number; depth = 1 }

      home : Frame
      home = None ∷ Some (cell nothing 0) ∷ Some (cell nothing 0) ∷ []

      x : Run × End
      x = meanings (setting_of plan.rules (calls_within plan.rules plan.templates (plan.rules.depth_limit - 1)) me.0 me.1) me.1.nodes d
          (started plan.rules.step_limit d)

      f : Ran
      f = ran_of x

      leaves : seen x.0 None ≡ f → ways.Leaves (way_of plan room f who me is-me home) x.0
      leaves is t ret same =
          ways.does (way_of plan room f who me is-me home) ret.runs ret.at tt
          (subst (λ n. Comes (ways.Reaches plan room f) (returned_if (nat_lt 1 n) (drop ret.n t.cells) t) f) (sym (ap (λ (w : Who). w.depth) ret.runs))
          (ap (λ (r : Run). seen r None) same ∙ is))

      by : (e : End) → x.1 ≡ e → ways.Then (way_of plan room f who me is-me home) (ways.Leaves (way_of plan room f who me is-me home)) None x.0 e
      by (meaning.faulted w) e = λ j. ran_of (x.0, sym e j)
      by _ e = leaves (λ j. ran_of (x.0, sym e j))
