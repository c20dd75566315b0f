-- That nodes of which the parts of a copy loop are found are that loop.
use Rattle.std.proofs.Common.{◌≡◌, ◌∙◌, ◌&&◌, ℕ, eqb-true, get_or, Bool, true, false, not, List, [], ◌∷◌, Option, Some, None, refl, sym, subst, ap, pos, if◌then◌else◌}
use Rattle.std.proofs.lemmas.Bool.{and_parts, false≢true}
use Rattle.std.proofs.lemmas.Option.{option_and_then_some}
use Rattle.std.proofs.lemmas.Slice.Eq.{bytes_eq-Decides}
use Rattle.std.specs.Prelude.{bytes_eq}
use Rattle.std.specs.Option.{option_and_then, option_map, option_map_or}
use Rattle.tmpl_funcs.specs.declared.func.Func.{Func}
use Rattle.tmpl_funcs.specs.declared.func.Func.TheVariants.{Index, Len, Not, Slice}
use Rattle.tmpl_grammar.specs.Tree.{Operand, dot, bool_constant, number_constant, function, Operands, operand, Pipeline, no_command, command, Binding, unbound, declare, assign}
use Rattle.tmpl_grammar.specs.declared.tree.Control.TheVariants as control
use Rattle.tmpl_syntax.specs.Tree as tree
use Rattle.tmpl_syntax.specs.Tree.{NodeKind, action, control_node, Nodes}
use Rattle.tmpl_loops.specs.Form.{AreApart, Before, Loop, before_nodes, constants_after, copy_loop, does, end_nodes, if_so, indexes, indexing, lone, loop_nodes, named, one, says, slices, texts, turn_nodes}
use Rattle.tmpl_loops.specs.computed.Find.{FindsLoops, Parts, Start, Wanted, the_dot, the_no, the_variable, the_zero, after_texts, are_apart, assigned, assigned_so, assigns, begins, begun_so, byte_so, counts, declared, declared_so, declares, differ, ended_so}
use Rattle.tmpl_loops.specs.computed.Find.{first_assigned, first_begun, first_byte, first_declared, first_ended, first_range, ifs, is_call, is_dot, is_end, is_no, is_rest, is_wanted, is_zero, names_of, negates, parts_after, parts_in, parts_of, plain, ranged_so, ranges, rest_so, shows, start_of}
use Rattle.tmpl_loops.proofs.TestLemmas.{lone-is, tested, indexes-are, slices-are, variable-is, variables-are, variables_from}

-- ---- tests

not-so : (b : Bool) → not b ≡ true → b ≡ false
not-so false e = refl
not-so true e = absurd (false≢true e)

-- a `Some` that comes where a test is passed
abbrev Chosen : {T : Type 0} → Bool → T → T → Type 0
Chosen b x y = (b ≡ true) × (x ≡ y)

chosen : {T : Type 0} → (b : Bool) (x y : T) → (if b then Some x else None) ≡ Some y → Chosen b x y
chosen true x y e = (refl, cc)
chosen false x y e = cc

counts-are : (ns : List (List ℕ)) (f : Func) (os : Operands) → counts ns f os ≡ true → (f ≡ Len) × (os ≡ variables_from ns)
counts-are ns Len os e = (refl, variables-are ns os e)
counts-are ns _ os e = absurd (false≢true e)

negates-are : (ns : List (List ℕ)) (f : Func) (os : Operands) → negates ns f os ≡ true → (f ≡ Not) × (os ≡ variables_from ns)
negates-are ns Not os e = (refl, variables-are ns os e)
negates-are ns _ os e = absurd (false≢true e)

wanted-lone : (w : Wanted) (p : Pipeline) → is_wanted w (lone p) ≡ true → (o : Operand) × (p ≡ one (o ∷ [])) × (is_wanted w (Some o) ≡ true)
wanted-lone w p e = by (lone p) refl e
  where
    by : (x : Option Operand) → lone p ≡ x → is_wanted w x ≡ true → (o : Operand) × (p ≡ one (o ∷ [])) × (is_wanted w (Some o) ≡ true)
    by None is e = absurd (false≢true e)
    by (Some o) is e = (o, lone-is p o is, e)

dot-is : (o : Operand) → is_dot o ≡ true → o ≡ dot
dot-is dot e = refl
dot-is _ e = absurd (false≢true e)

zero-is : (o : Operand) → is_zero o ≡ true → o ≡ number_constant (pos 0)
zero-is (number_constant (pos n)) e = ap (λ n. number_constant (pos n)) (eqb-true n 0 e)
zero-is _ e = absurd (false≢true e)

no-is : (o : Operand) → is_no o ≡ true → o ≡ bool_constant false
no-is (bool_constant b) e = ap bool_constant (not-so b e)
no-is _ e = absurd (false≢true e)

-- ---- nodes

declared-is : (b : Binding) (q : Pipeline) (name : List ℕ) (p : Pipeline) → declared b q ≡ Some (name, p) → (b ≡ declare name) × (q ≡ p)
declared-is (declare m) q name p e = let same : (m, q) ≡ (name, p) = cc in (ap (λ (x : List ℕ × Pipeline). declare x.0) same, ap (λ (x : List ℕ × Pipeline). x.1) same)
declared-is _ q name p e = cc

declares-is : (x : NodeKind) (name : List ℕ) (p : Pipeline) → declares x ≡ Some (name, p) → x ≡ action (record { binding = declare name; pipeline = p })
declares-is (action h) name p e = let d = declared-is h.binding h.pipeline name p e in λ i. action (record { binding = d.0 i; pipeline = d.1 i })
declares-is _ name p e = cc

assigned-is : (b : Binding) (q : Pipeline) (name : List ℕ) (p : Pipeline) → assigned b q ≡ Some (name, p) → (b ≡ assign name) × (q ≡ p)
assigned-is (assign m) q name p e = let same : (m, q) ≡ (name, p) = cc in (ap (λ (x : List ℕ × Pipeline). assign x.0) same, ap (λ (x : List ℕ × Pipeline). x.1) same)
assigned-is _ q name p e = cc

assigns-is : (x : NodeKind) (name : List ℕ) (p : Pipeline) → assigns x ≡ Some (name, p) → x ≡ action (record { binding = assign name; pipeline = p })
assigns-is (action h) name p e = let d = assigned-is h.binding h.pipeline name p e in λ i. action (record { binding = d.0 i; pipeline = d.1 i })
assigns-is _ name p e = cc

plain-is : (b : Binding) (q p : Pipeline) → plain b q ≡ Some p → (b ≡ unbound) × (q ≡ p)
plain-is unbound q p e = (refl, cc)
plain-is _ q p e = cc

shows-is : (x : NodeKind) (p : Pipeline) → shows x ≡ Some p → x ≡ action (record { binding = unbound; pipeline = p })
shows-is (action h) p e = let d = plain-is h.binding h.pipeline p e in λ i. action (record { binding = d.0 i; pipeline = d.1 i })
shows-is _ p e = cc

bodied : (b : Binding) (q : Pipeline) (ns : Nodes) (p : Pipeline) (body : Nodes) → option_map {U = Pipeline × Nodes} (λ p. (p, ns)) (plain b q) ≡ Some (p, body)
    → (b ≡ unbound) × (q ≡ p) × (ns ≡ body)
bodied unbound q ns p body e = let same : (q, ns) ≡ (p, body) = cc in (refl, ap (λ (x : Pipeline × Nodes). x.0) same, ap (λ (x : Pipeline × Nodes). x.1) same)
bodied _ q ns p body e = cc

ifs-is : (x : NodeKind) (p : Pipeline) (body : Nodes) → ifs x ≡ Some (p, body) → x ≡ control_node control.If (record { binding = unbound; pipeline = p }) body tree.none
ifs-is (control_node control.If h ns tree.none) p body e =
    let d = bodied h.binding h.pipeline ns p body e in λ i. control_node control.If (record { binding = d.0 i; pipeline = d.1 i }) (d.2 i) tree.none
ifs-is (control_node control.If h ns (tree.then line y ys)) p body e = cc
ifs-is (control_node control.With h ns other) p body e = cc
ifs-is (control_node control.Range h ns other) p body e = cc
ifs-is _ p body e = cc

bodied-range : (b : Binding) (q : Pipeline) (ns : Nodes) (name : List ℕ) (p : Pipeline) (body : Nodes) → option_map {U = (List ℕ × Pipeline) × Nodes} (λ d. (d, ns)) (declared b q) ≡ Some ((name, p), body)
    → (b ≡ declare name) × (q ≡ p) × (ns ≡ body)
bodied-range (declare m) q ns name p body e =
    let same : ((m, q), ns) ≡ ((name, p), body) = cc in
    (ap (λ (x : (List ℕ × Pipeline) × Nodes). declare x.0.0) same, ap (λ (x : (List ℕ × Pipeline) × Nodes). x.0.1) same, ap (λ (x : (List ℕ × Pipeline) × Nodes). x.1) same)
bodied-range _ q ns name p body e = cc

ranges-is : (x : NodeKind) (name : List ℕ) (p : Pipeline) (body : Nodes) → ranges x ≡ Some ((name, p), body)
    → x ≡ control_node control.Range (record { binding = declare name; pipeline = p }) body tree.none
ranges-is (control_node control.Range h ns tree.none) name p body e =
    let d = bodied-range h.binding h.pipeline ns name p body e in λ i. control_node control.Range (record { binding = d.0 i; pipeline = d.1 i }) (d.2 i) tree.none
ranges-is (control_node control.Range h ns (tree.then line y ys)) name p body e = cc
ranges-is (control_node control.With h ns other) name p body e = cc
ranges-is (control_node control.If h ns other) name p body e = cc
ranges-is _ name p body e = cc

-- ---- the first of some nodes

abbrev Begins : Nodes → NodeKind → Nodes → Type 0
Begins ns x xs = (line : ℕ) × (ns ≡ tree.then line x xs)

declared-first : (w : Wanted) (ns : Nodes) (name : List ℕ) (xs : Nodes) → first_declared w ns ≡ Some (name, xs)
    → (o : Operand) × (is_wanted w (Some o) ≡ true) × Begins ns (does (declare name) (o ∷ [])) xs
declared-first w tree.none name xs e = cc
declared-first w (tree.then line x ys) name xs e = by (declares x) refl e
  where
    by : (d : Option (List ℕ × Pipeline)) → declares x ≡ d → declared_so w ys d ≡ Some (name, xs)
        → (o : Operand) × (is_wanted w (Some o) ≡ true) × Begins (tree.then line x ys) (does (declare name) (o ∷ [])) xs
    by None is e = cc
    by (Some (m, p)) is e =
        let c = chosen (is_wanted w (lone p)) (m, ys) (name, xs) e in
        let l = wanted-lone w p c.0 in
        let x-is = declares-is x m p is in
        (l.0, l.2, (line, λ i. tree.then line ((x-is ∙ (λ j. action (record { binding = declare (c.1 j).0; pipeline = l.1 j }))) i) (c.1 i).1))

assigned-first : (to : List ℕ) (w : Wanted) (ns xs : Nodes) → first_assigned to w ns ≡ Some xs
    → (o : Operand) × (is_wanted w (Some o) ≡ true) × Begins ns (does (assign to) (o ∷ [])) xs
assigned-first to w tree.none xs e = cc
assigned-first to w (tree.then line x ys) xs e = by (assigns x) refl e
  where
    by : (d : Option (List ℕ × Pipeline)) → assigns x ≡ d → assigned_so to w ys d ≡ Some xs
        → (o : Operand) × (is_wanted w (Some o) ≡ true) × Begins (tree.then line x ys) (does (assign to) (o ∷ [])) xs
    by None is e = cc
    by (Some (m, p)) is e =
        let c = chosen (bytes_eq m to && is_wanted w (lone p)) ys xs e in
        let t = and_parts (bytes_eq m to) (is_wanted w (lone p)) c.0 in
        let l = wanted-lone w p t.1 in
        let same : m ≡ to = (bytes_eq-Decides m to).0 t.0 in
        let x-is = assigns-is x m p is in
        (l.0, l.2, (line, λ i. tree.then line ((x-is ∙ (λ j. action (record { binding = assign (same j); pipeline = l.1 j }))) i) (c.1 i)))

abbrev calling : Func → List (List ℕ) → Pipeline
calling f ns = command (operand (function f) (variables_from ns)) no_command

range-first : (words : List ℕ) (ns : Nodes) (name : List ℕ) (body xs : Nodes) → first_range words ns ≡ Some (name, body, xs)
    → Begins ns (control_node control.Range (record { binding = declare name; pipeline = calling Len (words ∷ []) }) body tree.none) xs
range-first words tree.none name body xs e = cc
range-first words (tree.then line x ys) name body xs e = by (ranges x) refl e
  where
    by : (r : Option ((List ℕ × Pipeline) × Nodes)) → ranges x ≡ r → ranged_so words ys r ≡ Some (name, body, xs)
        → Begins (tree.then line x ys) (control_node control.Range (record { binding = declare name; pipeline = calling Len (words ∷ []) }) body tree.none) xs
    by None is e = cc
    by (Some ((m, p), b)) is e =
        let c = chosen (is_call (counts (words ∷ [])) p) (m, b, ys) (name, body, xs) e in
        let p-is = tested (counts (words ∷ [])) Len (variables_from (words ∷ [])) (counts-are (words ∷ [])) p c.0 in
        let x-is = ranges-is x m p b is in
        (line, λ i. tree.then line ((x-is ∙ (λ j. control_node control.Range (record { binding = declare (c.1 j).0; pipeline = p-is j }) (c.1 j).1 tree.none)) i) (c.1 i).2)

byte-first : (words index : List ℕ) (ns : Nodes) (name : List ℕ) (xs : Nodes) → first_byte words index ns ≡ Some (name, xs)
    → Begins ns (action (record { binding = declare name; pipeline = calling Index (words ∷ index ∷ []) })) xs
byte-first words index tree.none name xs e = cc
byte-first words index (tree.then line x ys) name xs e = by (declares x) refl e
  where
    by : (d : Option (List ℕ × Pipeline)) → declares x ≡ d → byte_so (words ∷ index ∷ []) ys d ≡ Some (name, xs)
        → Begins (tree.then line x ys) (action (record { binding = declare name; pipeline = calling Index (words ∷ index ∷ []) })) xs
    by None is e = cc
    by (Some (m, p)) is e =
        let ns = words ∷ index ∷ [] in
        let c = chosen (is_call (indexes ns) p) (m, ys) (name, xs) e in
        let p-is = tested (indexes ns) Index (variables_from ns) (indexes-are ns) p c.0 in
        let x-is = declares-is x m p is in
        (line, λ i. tree.then line ((x-is ∙ (λ j. action (record { binding = declare (c.1 j).0; pipeline = p-is j }))) i) (c.1 i).1)

end-is : (ns : Nodes) → is_end ns ≡ true → ns ≡ tree.none
end-is tree.none e = refl
end-is (tree.then line x xs) e = absurd (false≢true e)

-- {{$from = $i}}{{$is_new = false}}
abbrev Taken : List ℕ → List ℕ → List ℕ → Nodes → Type 0
Taken from new index ns = (l m : ℕ) × (ns ≡ tree.then l (does (assign from) (named index ∷ [])) (tree.then m (does (assign new) (bool_constant false ∷ [])) tree.none))

begins-so : (from new index : List ℕ) (ns : Nodes) → begins from new index ns ≡ true → Taken from new index ns
begins-so from new index ns e = by (first_assigned from (the_variable index) ns) refl e
  where
    behind : (xs : Nodes) → first_assigned from (the_variable index) ns ≡ Some xs → (o : Option Nodes) → first_assigned new the_no xs ≡ o → option_map_or is_end o false ≡ true
        → Taken from new index ns
    behind xs is None was e = absurd (false≢true e)
    behind xs is (Some ys) was e =
        let a = assigned-first from (the_variable index) ns xs is in
        let b = assigned-first new the_no xs ys was in
        let one-is = variable-is index a.0 a.1 in
        let no-one = no-is b.0 b.1 in
        let ys-is = end-is ys e in
        (a.2.0, b.2.0, a.2.1 ∙ (λ i. tree.then a.2.0 (does (assign from) (one-is i ∷ [])) ((b.2.1 ∙ (λ j. tree.then b.2.0 (does (assign new) (no-one j ∷ [])) (ys-is j))) i)))

    by : (o : Option Nodes) → first_assigned from (the_variable index) ns ≡ o → option_map_or is_end (option_and_then (first_assigned new the_no) o) false ≡ true
        → Taken from new index ns
    by None is e = absurd (false≢true e)
    by (Some xs) is e = behind xs is (first_assigned new the_no xs) refl e

-- {{if $is_new}}{{$from = $i}}{{$is_new = false}}{{end}}
abbrev Begun : List ℕ → List ℕ → List ℕ → Nodes → Nodes → Type 0
Begun from new index ns xs = (k l m : ℕ) × (ns ≡ tree.then k (if_so (named new ∷ [])
    (tree.then l (does (assign from) (named index ∷ [])) (tree.then m (does (assign new) (bool_constant false ∷ [])) tree.none))) xs)

begun-first : (from new index : List ℕ) (ns xs : Nodes) → first_begun from new index ns ≡ Some xs → Begun from new index ns xs
begun-first from new index tree.none xs e = cc
begun-first from new index (tree.then line x ys) xs e = by (ifs x) refl e
  where
    by : (d : Option (Pipeline × Nodes)) → ifs x ≡ d → begun_so from new index ys d ≡ Some xs → Begun from new index (tree.then line x ys) xs
    by None is e = cc
    by (Some (p, body)) is e =
        let c = chosen (is_wanted (the_variable new) (lone p) && begins from new index body) ys xs e in
        let t = and_parts (is_wanted (the_variable new) (lone p)) (begins from new index body) c.0 in
        let l = wanted-lone (the_variable new) p t.0 in
        let new-is = variable-is new l.0 l.2 in
        let b = begins-so from new index body t.1 in
        let p-is = l.1 ∙ ap (λ (o : Operand). one (o ∷ [])) new-is in
        let x-is = ifs-is x p body is in
        (line, b.0, b.1, λ i. tree.then line ((x-is ∙ (λ j. control_node control.If (record { binding = unbound; pipeline = p-is j }) (b.2 j) tree.none)) i) (c.1 i))

-- {{slice $text $from}}
rest-is : (words from : List ℕ) (ns : Nodes) → is_rest words from ns ≡ true
    → (l : ℕ) × (ns ≡ tree.then l (does unbound (function Slice ∷ named words ∷ named from ∷ [])) tree.none)
rest-is words from tree.none e = absurd (false≢true e)
rest-is words from (tree.then line x ys) e = by (shows x) refl e
  where
    by : (d : Option Pipeline) → shows x ≡ d → rest_so (words ∷ from ∷ []) ys d ≡ true
        → (l : ℕ) × (tree.then line x ys ≡ tree.then l (does unbound (function Slice ∷ named words ∷ named from ∷ [])) tree.none)
    by None is e = absurd (false≢true e)
    by (Some p) is e =
        let ns = words ∷ from ∷ [] in
        let t = and_parts (is_end ys) (is_call (slices ns) p) e in
        let p-is = tested (slices ns) Slice (variables_from ns) (slices-are ns) p t.1 in
        let ys-is = end-is ys t.0 in
        let x-is = shows-is x p is in
        (line, λ i. tree.then line ((x-is ∙ (λ j. action (record { binding = unbound; pipeline = p-is j }))) i) (ys-is i))

-- {{if not $is_new}}{{slice $text $from}}{{end}}
abbrev Ended : List ℕ → List ℕ → List ℕ → Nodes → Nodes → Type 0
Ended words from new ns xs = (k l : ℕ) × (ns ≡ tree.then k (if_so (function Not ∷ named new ∷ [])
    (tree.then l (does unbound (function Slice ∷ named words ∷ named from ∷ [])) tree.none)) xs)

ended-first : (words from new : List ℕ) (ns xs : Nodes) → first_ended words from new ns ≡ Some xs → Ended words from new ns xs
ended-first words from new tree.none xs e = cc
ended-first words from new (tree.then line x ys) xs e = by (ifs x) refl e
  where
    by : (d : Option (Pipeline × Nodes)) → ifs x ≡ d → ended_so words from new ys d ≡ Some xs → Ended words from new (tree.then line x ys) xs
    by None is e = cc
    by (Some (p, body)) is e =
        let c = chosen (is_call (negates (new ∷ [])) p && is_rest words from body) ys xs e in
        let t = and_parts (is_call (negates (new ∷ [])) p) (is_rest words from body) c.0 in
        let p-is = tested (negates (new ∷ [])) Not (variables_from (new ∷ [])) (negates-are (new ∷ [])) p t.0 in
        let b = rest-is words from body t.1 in
        let x-is = ifs-is x p body is in
        (line, b.0, λ i. tree.then line ((x-is ∙ (λ j. control_node control.If (record { binding = unbound; pipeline = p-is j }) (b.1 j) tree.none)) i) (c.1 i))

-- ---- texts

texts-are : (ns : Nodes) → (ts : List (ℕ × List ℕ)) × (ns ≡ texts ts (after_texts ns))
texts-are (tree.then line (tree.text bytes) xs) = let r = texts-are xs in ((line, bytes) ∷ r.0, ap (tree.then line (tree.text bytes)) r.1)
texts-are _ = ([], refl)

abbrev said : List (ℕ × List ℕ) → List Before
said [] = []
said (t ∷ ts) = says t.0 t.1 ∷ said ts

said-nodes : (ts : List (ℕ × List ℕ)) (ns : Nodes) → texts ts ns ≡ before_nodes (said ts) ns
said-nodes [] ns = refl
said-nodes (t ∷ ts) ns = ap (tree.then t.0 (tree.text t.1)) (said-nodes ts ns)

said-constants : (ts : List (ℕ × List ℕ)) → constants_after (said ts) [] ≡ Some []
said-constants [] = refl
said-constants (t ∷ ts) = said-constants ts

-- ---- the whole

-- nodes are a loop of these parts, without constants
abbrev pub IsMade : Nodes → Parts → Type 0
IsMade ns p = (c : Loop) × (ns ≡ copy_loop c) × (constants_after c.before [] ≡ Some []) × (c.names ≡ names_of p) × (c.by_byte ≡ p.steps)

-- .. where they begin so
abbrev Starts : Nodes → Start → Type 0
Starts ns s = (l m n : ℕ) × (ts : List (ℕ × List ℕ)) × (ns ≡ tree.then l (does (declare s.0) (dot ∷ []))
    (tree.then m (does (declare s.1) (number_constant (pos 0) ∷ [])) (tree.then n (does (declare s.2) (bool_constant false ∷ [])) (texts ts s.3))))

starts : (ns : Nodes) (s : Start) → start_of ns ≡ Some s → Starts ns s
starts ns s e =
    option_and_then_some _ (first_declared the_dot ns) s e (λ a is-a more.
    option_and_then_some _ (first_declared the_zero a.1) s more (λ b is-b rest. last a is-a b is-b (first_declared the_no b.1) refl rest))
  where
    last : (a : List ℕ × Nodes) → first_declared the_dot ns ≡ Some a → (b : List ℕ × Nodes) → first_declared the_zero a.1 ≡ Some b
        → (o : Option (List ℕ × Nodes)) → first_declared the_no b.1 ≡ o → option_map (λ c. (a.0, b.0, c.0, after_texts c.1)) o ≡ Some s → Starts ns s
    last a is-a b is-b None is-c e = cc
    last a is-a b is-b (Some c) is-c e =
        let same : (a.0, b.0, c.0, after_texts c.1) ≡ s = cc in
        let x = declared-first the_dot ns a.0 a.1 is-a in
        let y = declared-first the_zero a.1 b.0 b.1 is-b in
        let z = declared-first the_no b.1 c.0 c.1 is-c in
        let t = texts-are c.1 in
        let one-is = dot-is x.0 x.1 in
        let two-is = zero-is y.0 y.1 in
        let three-is = no-is z.0 z.1 in
        subst (λ (s : Start). Starts ns s) same (
          x.2.0,
          y.2.0,
          z.2.0,
          t.0,
          x.2.1 ∙ (λ i. tree.then x.2.0 (does (declare a.0) (one-is i ∷ []))
              ((y.2.1 ∙ (λ j. tree.then y.2.0 (does (declare b.0) (two-is j ∷ []))
              ((z.2.1 ∙ (λ k. tree.then z.2.0 (does (declare c.0) (three-is k ∷ [])) (t.1 k))) j))) i)),
        )

made : (ns : Nodes) (s : Start) (p : Parts) → Starts ns s → parts_after s ≡ Some p → is_end (after_texts p.tail) ≡ true → IsMade ns p
made ns s p begun e closed =
    option_and_then_some (parts_in s) (first_range s.0 s.3) p e (λ r is-r more.
    option_and_then_some _ (first_byte s.0 r.0 r.1) p more (λ b is-b rest.
    option_and_then_some _ (first_begun s.1 s.2 r.0 b.1) p rest (λ steps is-steps end.
    last r is-r b is-b steps is-steps (first_ended s.0 s.1 s.2 r.2) refl end)))
  where
    last : (r : List ℕ × Nodes × Nodes) → first_range s.0 s.3 ≡ Some r → (b : List ℕ × Nodes) → first_byte s.0 r.0 r.1 ≡ Some b
        → (steps : Nodes) → first_begun s.1 s.2 r.0 b.1 ≡ Some steps → (o : Option Nodes) → first_ended s.0 s.1 s.2 r.2 ≡ o
        → option_map (λ tail. record { text = s.0; from = s.1; new = s.2; index = r.0; byte = b.0; steps = steps; tail = tail }) o ≡ Some p → IsMade ns p
    last r is-r b is-b steps is-steps None is-tail e = cc
    last r is-r b is-b steps is-steps (Some tail) is-tail e =
        let q : Parts = record { text = s.0; from = s.1; new = s.2; index = r.0; byte = b.0; steps = steps; tail = tail } in
        let same : q ≡ p = cc in
        let range = range-first s.0 s.3 r.0 r.1 r.2 is-r in
        let byte = byte-first s.0 r.0 r.1 b.0 b.1 is-b in
        let begin = begun-first s.1 s.2 r.0 b.1 steps is-steps in
        let end = ended-first s.0 s.1 s.2 r.2 tail is-tail in
        let last = texts-are tail in
        let none = end-is (after_texts tail) (ap (λ (q : Parts). is_end (after_texts q.tail)) same ∙ closed) in
        let c : Loop = record {
          names = names_of q;
          line = λ k. get_or (begun.0 ∷ begun.1 ∷ begun.2 ∷ byte.0 ∷ begin.0 ∷ begin.1 ∷ begin.2 ∷ end.0 ∷ end.1 ∷ range.0 ∷ []) k 0;
          before = said begun.3;
          by_byte = steps;
          after = last.0;
        } in
        let turn : r.1 ≡ turn_nodes c = byte.1 ∙ ap (tree.then byte.0 (action (record { binding = declare b.0; pipeline = indexing (names_of q) }))) begin.3 in
        let behind : r.2 ≡ end_nodes c = end.2 ∙ ap (tree.then end.0 (if_so (function Not ∷ named s.2 ∷ [])
        (tree.then end.1 (does unbound (function Slice ∷ named s.0 ∷ named s.1 ∷ [])) tree.none))) (last.1 ∙ ap (texts last.0) none) in
        let loop : s.3 ≡ loop_nodes c = range.1 ∙ (λ i. tree.then range.0 (control_node control.Range (record { binding = declare r.0; pipeline = calling Len (s.0 ∷ []) }) (turn i) tree.none) (behind i)) in
        let all : ns ≡ copy_loop c = begun.4 ∙ (λ i. tree.then begun.0 (does (declare s.0) (dot ∷ []))
        (tree.then begun.1 (does (declare s.1) (number_constant (pos 0) ∷ [])) (tree.then begun.2 (does (declare s.2) (bool_constant false ∷ []))
        ((said-nodes begun.3 s.3 ∙ ap (before_nodes (said begun.3)) loop) i)))) in
        subst (λ (p : Parts). IsMade ns p) same (c, all, said-constants begun.3, refl, refl)

pub found-made : (ns : Nodes) (p : Parts) → parts_of ns ≡ Some p → is_end (after_texts p.tail) ≡ true → IsMade ns p
found-made ns p e closed =
    option_and_then_some parts_after (start_of ns) p e (λ s is-s more. made ns s p (starts ns s is-s) more closed)

-- names that differ do as a loop wants them to
pub apart-found : (c : Loop) (p : Parts) → c.names ≡ names_of p → are_apart p ≡ true → AreApart c []
apart-found c p names e =
    let a = and_parts (differ p.byte p.text) _ e in
    let b = and_parts (differ p.byte p.from) _ a.1 in
    let d = and_parts (differ p.byte p.new) _ b.1 in
    let f = and_parts (differ p.byte p.index) _ d.1 in
    let g = and_parts (differ p.from p.text) _ f.1 in
    let h = and_parts (differ p.new p.text) _ g.1 in
    let i = and_parts (differ p.new p.from) _ h.1 in
    let j = and_parts (differ p.index p.text) _ i.1 in
    let k = and_parts (differ p.index p.from) (differ p.index p.new) j.1 in
    let named-so : AreApart (record c { names = names_of p }) [] = record {
      text = record { constant = refl; byte = not-so (bytes_eq p.byte p.text) a.0 };
      from = record { constant = refl; byte = not-so (bytes_eq p.byte p.from) b.0 };
      new = record { constant = refl; byte = not-so (bytes_eq p.byte p.new) d.0 };
      index = record { constant = refl; byte = not-so (bytes_eq p.byte p.index) f.0 };
      from_text = not-so (bytes_eq p.from p.text) g.0;
      new_text = not-so (bytes_eq p.new p.text) h.0;
      new_from = not-so (bytes_eq p.new p.from) i.0;
      index_text = not-so (bytes_eq p.index p.text) j.0;
      index_from = not-so (bytes_eq p.index p.from) k.0;
      index_new = not-so (bytes_eq p.index p.new) k.1;
    } in
    subst (λ (n : _). AreApart (record c { names = n }) []) (sym names) named-so

pub finds_loops : FindsLoops
finds_loops ns p e closed apart =
    let m = found-made ns p e closed in (m.0, m.1, m.2, apart-found m.0 p m.3 apart, m.3, m.4)
