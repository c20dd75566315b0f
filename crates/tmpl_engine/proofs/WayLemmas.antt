-- For the law `comes_to_meaning`: what is shown of each part, said backwards. If the run comes to its end from wherever
-- the meaning of a part hands it on to (`After`), it comes to it from the start of the part's code (`Leading`).
use Rattle.std.proofs.Common.{arith, ◌≡◌, ◌∙◌, ◌+◌, ℕ, zero, suc, [], ◌∷◌, drop, ap, Some, ◌-◌, ◌≤◌, nat_eq, Bool, true, false, List, length, refl, sym, subst}
use Rattle.std.proofs.Common.{Option, None, drop-drop, length-drop}
use Rattle.std.specs.Prelude.{slice_get}
use Rattle.tmpl_values.specs.Value.{Value}
use Rattle.tmpl_syntax.specs.Set.{Template}
use Rattle.tmpl_meaning.specs.Fault.{Fault}
use Rattle.tmpl_meaning.specs.Pipeline.{Environment}
use Rattle.tmpl_meaning.specs.Meaning as meaning
use Rattle.tmpl_meaning.specs.Meaning.{Calls, End, Next, Ran, Run, Setting, setting_of}
use Rattle.tmpl_meaning.proofs.PartLemmas.{oldest, on_end, scoped, spend_if}
use Rattle.tmpl_code.specs.Instruction.{Instruction}
use Rattle.tmpl_code.specs.Code.{Code, Around, EndAt, Exit}
use Rattle.tmpl_code.specs.Instruction as code
use Rattle.tmpl_code.specs.Layout.{Layout, first_layout}
use Rattle.tmpl_engine.specs.Cell.{Cell, cell}
use Rattle.tmpl_engine.specs.State.{Plan, State}
use Rattle.tmpl_engine.specs.Machine.{Turn, carry_out, done_in, ended, goes, next_of, onto, after_step, after_step_if, stuck}
use Rattle.tmpl_engine.specs.Ready.{Has}
use Rattle.tmpl_engine.specs.Ends.{Comes, Ends, IsReady, RunsTo}
use Rattle.tmpl_engine.proofs.SlotLemmas.{Cells, Frame, Over, dropped, env-dropped, frame_of, named, named-less, run_of}

here : (code is : Code) (pc : ℕ) (i : Instruction) → drop pc code ≡ i ∷ is → slice_get code pc ≡ Some i
here [] is zero i e = cc
here [] is (suc pc) i e = cc
here (j ∷ code) is zero i e = let same : j ≡ i = cc in ap (λ x. Some x) same
here (j ∷ code) is (suc pc) i e = here code is pc i e

-- the run as it is seen
abbrev pub seen : Run → Option Fault → Ran
seen r w = record { text = r.text; fault = w; made_text = r.made_text }

-- the template that runs, by its number, and how many are inside one another
pub record Who : Type 0 where
  pub number : ℕ
  pub depth : ℕ

abbrev pub who_of : State → Who
who_of s = record { number = s.template; depth = s.depth }

-- a machine at a place, whose cells are of this layout and frame
pub record Stands (plan : Plan) (who : Who) (code : Code) (lay : Layout) (fr : Frame) (s : State) : Type 0 where
  pub at : drop s.place plan.code ≡ code
  pub runs : who_of s ≡ who
  pub cells : Cells lay fr s.cells

-- the turn of a range around: what lies outside of it, what its cells hold, and where it goes
pub record Ring : Type 0 where
  pub lay : Layout
  pub frame : Frame
  pub dot : Value
  pub place : ℕ
  pub value : Value
  pub index : ℕ
  pub around : Around
  -- how many variables lie above its cells from its turn on
  pub declared : ℕ

abbrev pub exit_of : Option Ring → Exit
exit_of None = None
exit_of (Some g) = Some g.around

-- the cells of the range lie under this many
pub record Within (g : Ring) (lay : Layout) (fr : Frame) : Type 0 where
  pub n : ℕ
  pub over : Over n lay (None ∷ None ∷ g.lay) fr (Some (cell g.dot g.place) ∷ Some (cell g.value g.index) ∷ g.frame)
  pub depth : g.around.below ≡ length g.lay
  pub least : g.declared ≤ n

-- .. or those of the template
abbrev pub Inside : Frame → Option Ring → Layout → Frame → Type 0
Inside home None lay fr = (n : ℕ) × Over n lay first_layout fr home
Inside home (Some g) lay fr = Within g lay fr

abbrev pub cut_to : ℕ → Run → Run
cut_to n r = record r { env = oldest n r.env }

-- apart from the variables
abbrev pub bare : Run → Run
bare r = record r { env = [] }

abbrev pub step_taken : ℕ → State → State
step_taken line s = record s { left = s.left - 1; line = line; place = s.place + 1 }

-- .. by an instruction that does more
abbrev pub paying : ℕ → State → State
paying line s = record s { left = s.left - 1; line = line }

pub cut-twice : (m n : ℕ) (r : Run) → m ≤ n → cut_to m (cut_to n r) ≡ cut_to m r
cut-twice m n r h = ap (λ (v : Environment). record r { env = v }) (oldest-twice r.env)
  where
    oldest-twice : (env : Environment) → oldest m (oldest n env) ≡ oldest m env
    oldest-twice env =
        let long = length-drop (length env - n) env in
        let sum : (length env - n) + (length (oldest n env) - m) ≡ length env - m = omega arith in
        drop-drop (length (oldest n env) - m) (length env - n) env ∙ ap (λ k. drop k env) sum

pub run-dropped : {n : ℕ} {big lay : Layout} {high low : Frame} → Over n big lay high low → (s : State) → Cells big high s.cells
    → run_of lay (record s { cells = drop n s.cells }) ≡ cut_to (named lay) (run_of big s)
run-dropped {n} {big} o s c = ap (λ (v : Environment). record (run_of big s) { env = v }) (env-dropped o c)

-- the run comes to its end; nominal, so that it says of which state
pub record Reaches (plan : Plan) (room : ℕ) (end : Ran) (s : State) : Type 0 where
  pub ends : Ends plan room s end

-- a run inside a template, on its way to an end over this many cells: what it goes by, the template that runs, and the cells at its start
pub record Way : Type 0 where
  pub plan : Plan
  pub room : ℕ
  pub end : Ran
  pub who : Who
  pub me : Template
  pub is-me : slice_get plan.templates who.number ≡ Some me
  pub home : Frame

abbrev pub way_of : (plan : Plan) (room : ℕ) (end : Ran) (who : Who) (me : Template) → slice_get plan.templates who.number ≡ Some me → Frame → Way
way_of plan room end who me is-me home = record { plan = plan; room = room; end = end; who = who; me = me; is-me = is-me; home = home }

module _ (way : Way) where
  abbrev pub Leading : State → Type 0
  Leading s = Reaches way.plan way.room way.end s

  -- what its template means, by what names call
  abbrev pub setting : Calls → Setting
  setting calls = setting_of way.plan.rules calls way.me.0 way.me.1

  -- after an instruction, and after this many more
  pub next : {i : Instruction} {is : Code} (pc : ℕ) → drop pc way.plan.code ≡ i ∷ is → drop (pc + 1) way.plan.code ≡ is
  next pc at = sym (drop-drop 1 pc way.plan.code) ∙ ap (drop 1) at

  pub jump : {i : Instruction} {is : Code} (pc k : ℕ) → drop pc way.plan.code ≡ i ∷ is → drop (pc + 1 + k) way.plan.code ≡ drop k is
  jump pc k at = sym (drop-drop k (pc + 1) way.plan.code) ∙ ap (drop k) (next pc at)

  -- one instruction, by where it goes
  pub does : {s : State} {i : Instruction} {is : Code} → who_of s ≡ way.who → drop s.place way.plan.code ≡ i ∷ is → Has i (length s.cells) way.room
      → Comes Leading (carry_out way.plan way.me i s) way.end → Leading s
  does {s} {i} {is} same at ready more = by (carry_out way.plan way.me i s) refl more
    where
      there : slice_get way.plan.code s.place ≡ Some i
      there = here way.plan.code is s.place i at

      able : IsReady way.room (slice_get way.plan.code s.place) s
      able = subst (λ o. IsReady way.room o s) (sym there) ready

      after : next_of way.plan s ≡ carry_out way.plan way.me i s
      after = ap (λ (w : Who). done_in way.plan (slice_get way.plan.templates w.number) (slice_get way.plan.code s.place) s) same
          ∙ ap (λ o. done_in way.plan o (slice_get way.plan.code s.place) s) way.is-me ∙ ap (λ o. done_in way.plan (Some way.me) o s) there

      by : (t : Turn) → carry_out way.plan way.me i s ≡ t → Comes Leading t way.end → Leading s
      by (goes t) e h = let leads = h.ends in
          record { ends = (suc leads.0, (able, subst (λ x. Comes (λ t. RunsTo way.plan way.room leads.0 t way.end) x way.end) (sym (after ∙ e)) leads.1)) }
      by (ended r) e h = record { ends = (1, (able, subst (λ x. Comes (λ t. RunsTo way.plan way.room 0 t way.end) x way.end) (sym (after ∙ e)) h)) }
      by stuck e h = absurd h

  -- where a part that is done goes on
  abbrev pub Onward : Code → Layout → Frame → Value → Run → Type 0
  Onward rest lay fr d r = (t : State) → Stands way.plan way.who rest lay fr t → t.dot ≡ d → run_of lay t ≡ r → Leading t

  -- the end of a turn: at an instruction that goes to the next
  pub record Turning (g : Ring) (r : Run) (t : State) : Type 0 where
    pub n : ℕ
    pub least : g.declared ≤ n
    pub skip : ℕ
    pub more : Code
    pub cs : List Cell
    pub at : drop t.place way.plan.code ≡ code.next n skip g.around.line ∷ more
    pub runs : who_of t ≡ way.who
    pub far : drop skip more ≡ g.around.out
    pub cells : drop n t.cells ≡ cell g.dot g.place ∷ cell g.value g.index ∷ cs
    pub under : Cells g.lay g.frame cs
    pub run : run_of g.lay (record t { cells = cs }) ≡ r

  -- the end of the template: at an instruction that returns
  pub record Returning (t : State) : Type 0 where
    pub n : ℕ
    pub more : Code
    pub at : drop t.place way.plan.code ≡ code.return_from n ∷ more
    pub runs : who_of t ≡ way.who
    pub frame : frame_of first_layout (drop n t.cells) ≡ way.home

  abbrev pub Leaves : Run → Type 0
  Leaves r = (t : State) → Returning t → run_of [] t ≡ bare r → Leading t

  abbrev pub Broke : Option Ring → Run → Type 0
  Broke None r = Leaves r
  Broke (Some g) r = Onward g.around.out g.lay g.frame g.dot (cut_to (named g.lay) r)

  abbrev pub Continues : Option Ring → Run → Type 0
  Continues None r = Leaves r
  Continues (Some g) r = (t : State) → Turning g (cut_to (named g.lay) r) t → Leading t

  abbrev pub Then : (Run → Type 0) → Option Ring → Run → End → Type 0
  Then Done g r meaning.done = Done r
  Then Done g r meaning.broke = Broke g r
  Then Done g r meaning.continued = Continues g r
  Then Done g r (meaning.faulted w) = seen r (Some w) ≡ way.end

  -- the meaning leads to this end, where what follows it does
  abbrev pub After : (Run → Type 0) → Option Ring → Run × End → Type 0
  After Done g x = Then Done g x.0 x.1

  pub then-map : (A B : Run → Type 0) (g : Option Ring) (r : Run) (e : End) → ((r : Run) → A r → B r) → Then A g r e → Then B g r e
  then-map A B g r meaning.done h k = h r k
  then-map A B g r _ h k = k

  pub then-on : (A : Run → Type 0) (g : Option Ring) (r : Run) (e : End) (go : Next) → After A g (on_end e r go) → Then (λ r. After A g (go r)) g r e
  then-on A g r meaning.done go k = k
  then-on A g r _ go k = k

  -- out of a scope
  pub unscope : (A : Run → Type 0) (g : Option Ring) (lay : Layout) (fr : Frame) (n : ℕ) (x : Run × End) → n ≡ named lay → Inside way.home g lay fr
      → After A g (scoped n x) → After (λ r. A (cut_to (named lay) r)) g x
  unscope A g lay fr n x e inside k = by g x.1 inside (subst (λ m. After A g (scoped m x)) e k)
    where
      by : (g : Option Ring) (w : End) → Inside way.home g lay fr → Then A g (cut_to (named lay) x.0) w → Then (λ r. A (cut_to (named lay) r)) g x.0 w
      by g meaning.done inside k = k
      by None meaning.broke inside k = k
      by (Some g) meaning.broke inside k =
          subst (λ r. Onward g.around.out g.lay g.frame g.dot r) (cut-twice (named g.lay) (named lay) x.0 (named-less inside.over)) k
      by None meaning.continued inside k = k
      by (Some g) meaning.continued inside k =
          subst (λ r. (t : State) → Turning g r t → Leading t) (cut-twice (named g.lay) (named lay) x.0 (named-less inside.over)) k
      by g (meaning.faulted w) inside k = k

  -- the step of a node, taken by an instruction that may do more
  pub pays : {i : Instruction} {is : Code} (calls : Calls) (A : Run → Type 0) (g : Option Ring) (lay : Layout) (line : ℕ) (s : State) (go : Next)
      (more : State → Turn) → who_of s ≡ way.who → drop s.place way.plan.code ≡ i ∷ is → Has i (length s.cells) way.room
      → carry_out way.plan way.me i s ≡ after_step way.plan way.me line s more
      → After A g (meaning.spend (setting calls) line go (run_of lay s))
      → (After A g (go (run_of lay (paying line s))) → Comes Leading (more (paying line s)) way.end) → Leading s
  pays calls A g lay line s go more same at ready is k leads = does same at ready (subst (λ u. Comes Leading u way.end) (sym is) (by (nat_eq s.left 0) k))
    where
      by : (b : Bool) → After A g (spend_if b (setting calls) line go (run_of lay s)) → Comes Leading (after_step_if b way.plan way.me line s more) way.end
      by true k = k
      by false k = leads k

  -- .. by one that does no more
  pub spends : (calls : Calls) (A : Run → Type 0) (g : Option Ring) (lay : Layout) (line : ℕ) (is : Code) (s : State) (go : Next) → who_of s ≡ way.who
      → drop s.place way.plan.code ≡ code.spend line ∷ is
      → After A g (meaning.spend (setting calls) line go (run_of lay s))
      → (drop (s.place + 1) way.plan.code ≡ is → After A g (go (run_of lay (step_taken line s))) → Leading (step_taken line s)) → Leading s
  spends calls A g lay line is s go same at k more =
      pays calls A g lay line s go (λ s. onto s.cells (s.place + 1) s) same at tt refl k (more (next s.place at))

  -- this many cells are forgotten, and a part goes on at this place
  closed : {n place : ℕ} {rest end : Code} {big lay : Layout} {high low : Frame} {d : Value} {r : Run} {s : State} → drop place way.plan.code ≡ rest
      → Stands way.plan way.who end big high s → Over n big lay high low → s.dot ≡ d → run_of big s ≡ r → Onward rest lay low d (cut_to (named lay) r)
      → Leading (record s { cells = drop n s.cells; place = place })
  closed {lay = lay} {s = s} at st over same is k =
      k _ (record { at = at; runs = st.runs; cells = dropped over st.cells }) same (run-dropped over s st.cells ∙ ap (cut_to (named lay)) is)

  -- the end of a part
  pub closes : {end rest : Code} {big lay : Layout} {high low : Frame} {d : Value} {r : Run} {s : State} (n skip : ℕ) (more : Code)
      → EndAt n skip end more
      → Stands way.plan way.who end big high s → Over n big lay high low → drop skip more ≡ rest → s.dot ≡ d → run_of big s ≡ r
      → Onward rest lay low d (cut_to (named lay) r) → Leading s
  closes zero zero more e st over far same is k = closed (st.at ∙ e ∙ far) st over same is k
  closes {s = s} n skip more e st over far same is k =
      does st.runs (st.at ∙ e) (let deep = st.cells.deep in omega (arith, over.size)) (closed (jump s.place skip (st.at ∙ e) ∙ far) st over same is k)
