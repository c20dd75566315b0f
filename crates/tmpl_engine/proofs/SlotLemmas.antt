-- For the law `comes_to_meaning`: the slots of a layout are the variables of the meaning, and a part leaves all other cells equal.
use Rattle.std.proofs.Common.{arith, ◌≡◌, ◌∙◌, ◌+◌, ◌-◌, ◌≤◌, ℕ, zero, suc, List, [], ◌∷◌, length, drop, set, refl, ap, sym, Option, Some}
use Rattle.std.proofs.Common.{None, drop-drop, length-drop}
use Rattle.std.specs.Prelude.{map}
use Rattle.std.specs.List.{drop-map}
use Rattle.std.proofs.lemmas.List.{length-map, length-set}
use Rattle.tmpl_values.specs.Value.{Value, nothing}
use Rattle.tmpl_meaning.specs.Pipeline.{Environment, lookup}
use Rattle.tmpl_meaning.specs.Meaning.{Run, assign_variable}
use Rattle.tmpl_meaning.proofs.PartLemmas.{oldest}
use Rattle.tmpl_grammar.specs.Tree.{Binding, unbound, declare, assign, declare_pair}
use Rattle.tmpl_grammar.specs.Need.{declared_count}
use Rattle.tmpl_syntax.specs.Tree as tree
use Rattle.tmpl_syntax.specs.Tree.{NodeKind, text, action, Nodes}
use Rattle.tmpl_syntax.specs.Need.{left_after}
use Rattle.tmpl_code.specs.Layout.{Layout, bound_on, declared_in, after_node, slot_named}
use Rattle.tmpl_engine.specs.Cell.{Cell, fresh, slot}
use Rattle.tmpl_engine.specs.State.{State}

-- the slots under this many operands are the variables
pub record Slots (n : ℕ) (lay : Layout) (cs : List Cell) (env : Environment) : Type 0 where
  pub found : (x : List ℕ) (k : ℕ) → slot_named x lay ≡ Some k → slot (n + k) cs ≡ lookup x env
  pub none : (x : List ℕ) → slot_named x lay ≡ None → lookup x env ≡ nothing
  pub deep : n + length lay ≤ length cs

pub slots-more : {n : ℕ} {lay : Layout} {cs : List Cell} {env : Environment} (v : Value) → Slots n lay cs env → Slots (suc n) lay (fresh v ∷ cs) env
slots-more {n} {cs = cs} v h = record {
  found = λ x k e. (let one : suc n + k ≡ suc (n + k) = omega arith in ap (λ m. slot m (fresh v ∷ cs)) one ∙ h.found x k e);
  none = h.none;
  deep = (let deep = h.deep in omega arith);
}

-- the variables that the cells hold
abbrev pub env_of : Layout → List Cell → Environment
env_of [] cs = []
env_of (p ∷ ps) [] = []
env_of (None ∷ ps) (c ∷ cs) = env_of ps cs
env_of (Some x ∷ ps) (c ∷ cs) = (x, c.val) ∷ env_of ps cs

-- the cells apart from the values of the variables
abbrev pub Frame : Type 0
Frame = List (Option Cell)

abbrev pub below : List Cell → Frame
below cs = map (λ c. Some c) cs

abbrev pub frame_of : Layout → List Cell → Frame
frame_of [] cs = below cs
frame_of (p ∷ ps) [] = []
frame_of (None ∷ ps) (c ∷ cs) = Some c ∷ frame_of ps cs
frame_of (Some x ∷ ps) (c ∷ cs) = None ∷ frame_of ps cs

-- how many variables there are
abbrev pub named : Layout → ℕ
named [] = 0
named (None ∷ ps) = named ps
named (Some x ∷ ps) = suc (named ps)

-- after what binds variables, after a node, and after nodes
abbrev pub bound_in : Binding → Frame → Frame
bound_in unbound fr = fr
bound_in (declare x) fr = None ∷ fr
bound_in (assign x) fr = fr
bound_in (declare_pair k x) fr = None ∷ None ∷ fr

abbrev pub grown_in : NodeKind → Frame → Frame
grown_in (action h) fr = bound_in h.binding fr
grown_in _ fr = fr

abbrev pub all_grown_in : Nodes → Frame → Frame
all_grown_in tree.none fr = fr
all_grown_in (tree.then line n ns) fr = all_grown_in ns (grown_in n fr)

abbrev pub all_grown : Nodes → Layout → Layout
all_grown tree.none lay = lay
all_grown (tree.then line n ns) lay = all_grown ns (after_node n lay)

-- the run that a machine stands for
abbrev pub run_of : Layout → State → Run
run_of lay s = record { env = env_of lay s.cells; text = s.text; left = s.left; made_text = s.made_text }

-- what is made of the slot of a name, if there is one
abbrev by_slot : {A : Type 0} → Option ℕ → A → (ℕ → A) → A
by_slot None a f = a
by_slot (Some k) a f = f k

-- by the slot of a name: the value of the variable, the variables after an assignment to it, and that this leaves the other cells
record Slotted (lay : Layout) (cs : List Cell) (o : Option ℕ) (v value : Value) (env : Environment) : Type 0 where
  pub found : value ≡ by_slot o nothing (λ k. slot k cs)
  pub write : env ≡ env_of lay (by_slot o cs (λ k. set cs k (fresh v)))
  pub others : frame_of lay (by_slot o cs (λ k. set cs k (fresh v))) ≡ frame_of lay cs

slotted : (x : List ℕ) (lay : Layout) (cs : List Cell) (v : Value) → length lay ≤ length cs
    → Slotted lay cs (slot_named x lay) v (lookup x (env_of lay cs)) (assign_variable x v (env_of lay cs))
slotted x [] cs v h = record { found = refl; write = refl; others = refl }
slotted x (p ∷ ps) [] v h = absurd (omega arith)
slotted x (p ∷ ps) (c ∷ cs) v h =
    let f = slotted x ps cs v (omega arith) in
    record { found = grind (arith, f.found); write = grind (arith, f.write); others = grind (arith, f.others) }

pub slots-are : (lay : Layout) (cs : List Cell) → length lay ≤ length cs → Slots 0 lay cs (env_of lay cs)
slots-are lay cs h = record {
  found = λ x k e. (let f = slotted x lay cs nothing h in grind (arith, f.found));
  none = λ x e. (let f = slotted x lay cs nothing h in grind (arith, f.found));
  deep = omega arith;
}

module _ (x : List ℕ) (lay : Layout) (cs : List Cell) where
  -- an assignment to a variable is a write to its slot
  pub stored : (k : ℕ) (v : Value) → slot_named x lay ≡ Some k → length lay ≤ length cs → env_of lay (set cs k (fresh v)) ≡ assign_variable x v (env_of lay cs)
  stored k v e h = sym ((slotted x lay cs v h).write ∙ ap (λ o. env_of lay (by_slot o cs (λ k. set cs k (fresh v)))) e)

  pub stored-none : (v : Value) → slot_named x lay ≡ None → length lay ≤ length cs → assign_variable x v (env_of lay cs) ≡ env_of lay cs
  stored-none v e h = (slotted x lay cs v h).write ∙ ap (λ o. env_of lay (by_slot o cs (λ k. set cs k (fresh v)))) e

pub length-frame : (lay : Layout) (cs : List Cell) → length lay ≤ length cs → length (frame_of lay cs) ≡ length cs
length-frame [] cs h = length-map cs (λ c. Some c)
length-frame (p ∷ ps) [] h = absurd (omega arith)
length-frame (p ∷ ps) (c ∷ cs) h = grind (arith, length-frame ps cs)

pub length-env : (lay : Layout) (cs : List Cell) → length lay ≤ length cs → length (env_of lay cs) ≡ named lay
length-env [] cs h = refl
length-env (p ∷ ps) [] h = absurd (omega arith)
length-env (p ∷ ps) (c ∷ cs) h = grind (arith, length-env ps cs)

-- cells of a layout, which are these apart from the values of the variables
pub record Cells (lay : Layout) (fr : Frame) (cs : List Cell) : Type 0 where
  pub frame : frame_of lay cs ≡ fr
  pub deep : length lay ≤ length cs

pub length-cells : {lay : Layout} {fr : Frame} {cs : List Cell} → Cells lay fr cs → length cs ≡ length fr
length-cells {lay} {fr} {cs} c = sym (length-frame lay cs c.deep) ∙ ap length c.frame

-- a write to the slot of a variable leaves the others
pub cells-set : {fr : Frame} (x : List ℕ) (lay : Layout) (cs : List Cell) (k : ℕ) (v : Value) → slot_named x lay ≡ Some k → Cells lay fr cs
    → Cells lay fr (set cs k (fresh v))
cells-set x lay cs k v e c = record {
  frame = ap (λ o. frame_of lay (by_slot o cs (λ k. set cs k (fresh v)))) (sym e) ∙ (slotted x lay cs v c.deep).others ∙ c.frame;
  deep = (let deep = c.deep in omega (arith, length-set cs k (fresh v)));
}

-- ---- newer cells are dropped

named-drop : (n : ℕ) (big : Layout) → named (drop n big) ≤ named big
named-drop zero big = omega arith
named-drop (suc n) [] = omega arith
named-drop (suc n) (p ∷ big) = grind (arith, named-drop n big)

env-drop : (n : ℕ) (big : Layout) (cs : List Cell) → length big ≤ length cs → oldest (named (drop n big)) (env_of big cs) ≡ env_of (drop n big) (drop n cs)
env-drop zero big cs h =
    let e : length (env_of big cs) - named big ≡ 0 = (let long = length-env big cs h in omega arith) in ap (λ n. drop n (env_of big cs)) e
env-drop (suc n) [] cs h = refl
env-drop (suc n) (p ∷ big) [] h = absurd (omega arith)
env-drop (suc n) (None ∷ big) (c ∷ cs) h = env-drop n big cs (omega arith)
env-drop (suc n) (Some x ∷ big) (c ∷ cs) h =
    let one : suc (length (env_of big cs)) - named (drop n big) ≡ suc (length (env_of big cs) - named (drop n big)) =
    (let long = length-env big cs (omega arith) in let few = named-drop n big in omega arith) in
    ap (λ n. drop n ((x, c.val) ∷ env_of big cs)) one ∙ env-drop n big cs (omega arith)

frame-drop : (n : ℕ) (big : Layout) (cs : List Cell) → length big ≤ length cs → frame_of (drop n big) (drop n cs) ≡ drop n (frame_of big cs)
frame-drop zero big cs h = refl
frame-drop (suc n) [] cs h = sym (drop-map (λ c. Some c) (suc n) cs)
frame-drop (suc n) (p ∷ big) [] h = absurd (omega arith)
frame-drop (suc n) (p ∷ big) (c ∷ cs) h = grind (arith, frame-drop n big cs)

-- this many of the newest cells lie above those of another layout and frame
pub record Over (n : ℕ) (big lay : Layout) (high low : Frame) : Type 0 where
  pub rest : drop n big ≡ lay
  pub size : n + length lay ≡ length big
  pub frame : drop n high ≡ low
  pub tall : n + length low ≡ length high

module _ {n : ℕ} {big lay : Layout} {high low : Frame} (o : Over n big lay high low) where
  pub named-less : named lay ≤ named big
  named-less = let less = named-drop n big in let same = ap named o.rest in omega arith

  module _ {cs : List Cell} (c : Cells big high cs) where
    pub dropped : Cells lay low (drop n cs)
    dropped = record {
      frame = ap (λ l. frame_of l (drop n cs)) (sym o.rest) ∙ frame-drop n big cs c.deep ∙ ap (drop n) c.frame ∙ o.frame;
      deep = (let size = o.size in let deep = c.deep in omega (arith, length-drop n cs));
    }

    -- to drop them is to cut the environment
    pub env-dropped : env_of lay (drop n cs) ≡ oldest (named lay) (env_of big cs)
    env-dropped = sym ((λ j. oldest (named (sym o.rest j)) (env_of big cs)) ∙ env-drop n big cs c.deep ∙ ap (λ l. env_of l (drop n cs)) o.rest)

  -- a cell more
  pub over-more : (p : Option (List ℕ)) (c : Option Cell) → Over (suc n) (p ∷ big) lay (c ∷ high) low
  over-more p c = record { rest = o.rest; size = (let size = o.size in omega arith); frame = o.frame; tall = (let tall = o.tall in omega arith) }

-- all of a layout, and one above another that is above a third
pub over-none : (lay : Layout) (fr : Frame) → Over 0 lay lay fr fr
over-none lay fr = record { rest = refl; size = omega arith; frame = refl; tall = omega arith }

over-all : {n m : ℕ} {big mid lay : Layout} {high fr low : Frame} → Over n big mid high fr → Over m mid lay fr low → Over (m + n) big lay high low
over-all {n} {m} {big} {mid} {lay} {high} {fr} {low} o p =
    let sum : n + m ≡ m + n = omega arith in
    record {
      rest = sym (drop-drop m n big ∙ ap (λ k. drop k big) sum) ∙ ap (drop m) o.rest ∙ p.rest;
      size = (let a = o.size in let b = p.size in omega arith);
      frame = sym (drop-drop m n high ∙ ap (λ k. drop k high) sum) ∙ ap (drop m) o.frame ∙ p.frame;
      tall = (let a = o.tall in let b = p.tall in omega arith);
    }

-- what is bound, what a node leaves, and what nodes do
pub over-binding : (b : Binding) (lay : Layout) (fr : Frame) → Over (declared_count b) (bound_on b lay) lay (bound_in b fr) fr
over-binding unbound lay fr = over-none lay fr
over-binding _ lay fr = record { rest = refl; size = omega arith; frame = refl; tall = omega arith }

pub over-node : (n : NodeKind) (lay : Layout) (fr : Frame) → Over (left_after n) (after_node n lay) lay (grown_in n fr) fr
over-node (action h) lay fr = over-binding h.binding lay fr
over-node _ lay fr = over-none lay fr

pub over-after_node : (ns : Nodes) (lay : Layout) (fr : Frame) → Over (declared_in ns) (all_grown ns lay) lay (all_grown_in ns fr) fr
over-after_node tree.none lay fr = over-none lay fr
over-after_node (tree.then line n ns) lay fr = over-all (over-after_node ns (after_node n lay) (grown_in n fr)) (over-node n lay fr)

-- .. and nodes above what a header binds
pub over-bound : (b : Binding) (ns : Nodes) (lay : Layout) (fr : Frame)
    → Over (declared_count b + declared_in ns) (all_grown ns (bound_on b lay)) lay (all_grown_in ns (bound_in b fr)) fr
over-bound b ns lay fr = over-all (over-after_node ns (bound_on b lay) (bound_in b fr)) (over-binding b lay fr)

-- what lies under the variables: a cell that a control saves
pub record First (lay : Layout) (cs : List Cell) (c : Cell) (fr : Frame) : Type 0 where
  pub rest : List Cell
  pub cells : cs ≡ c ∷ rest
  pub under : Cells lay fr rest
  pub env : env_of (None ∷ lay) cs ≡ env_of lay rest

pub first-saved : (lay : Layout) (cs : List Cell) (c : Cell) (fr : Frame) → Cells (None ∷ lay) (Some c ∷ fr) cs → First lay cs c fr
first-saved lay [] c fr h = absurd (let deep = h.deep in omega arith)
first-saved lay (d ∷ cs) c fr h =
    let e : Some d ∷ frame_of lay cs ≡ Some c ∷ fr = h.frame in
    let same : d ≡ c = cc in
    record { rest = cs; cells = ap (λ x. x ∷ cs) same; under = record { frame = ap (drop 1) e; deep = (let deep = h.deep in omega arith) }; env = refl }

-- the cells of a frame of no variables are known
pub below-same : (cs ds : List Cell) → below cs ≡ below ds → cs ≡ ds
below-same [] [] e = refl
below-same (c ∷ cs) (d ∷ ds) e = grind (arith, below-same cs ds)
below-same _ _ e = cc
