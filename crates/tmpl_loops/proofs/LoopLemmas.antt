-- For the law `copies`: the turns of a copy loop, and the whole of it.
use Rattle.std.proofs.Common.{◌≡◌, ◌∙◌, ◌-◌, ◌+◌, ◌++◌, ◌||◌, ℕ, not, Bool, true, false, List, [], ◌∷◌, length, drop, map, Option, Some, None, Result, Ok, Err}
use Rattle.std.proofs.Common.{refl, sym, subst, ap, pos, append_assoc, append-nil, arith, length-append}
use Rattle.std.specs.Prelude.{flat_map, slice_get}
use Rattle.std.specs.List.{range_with_len}
use Rattle.std.specs.Result.{result_map_both}
use Rattle.std.proofs.lemmas.List.{flat_map_more}
use Rattle.tmpl_values.specs.Value.{Value, boolean, number, string}
use Rattle.tmpl_values.specs.Elements.{Element}
use Rattle.tmpl_funcs.specs.Slice.{slice_between}
use Rattle.tmpl_funcs.specs.declared.func.Func.TheVariants.{Len, Not, Slice}
use Rattle.tmpl_funcs.specs.declared.fault.CallFault.{CallFault}
use Rattle.tmpl_grammar.specs.Tree.{Operand, Pipeline, unbound, declare, assign, bool_constant, function, no_command}
use Rattle.tmpl_grammar.specs.declared.tree.Control.TheVariants as control
use Rattle.tmpl_syntax.specs.Tree as tree
use Rattle.tmpl_syntax.specs.Tree.{NodeKind, Nodes, action, control_node, text}
use Rattle.tmpl_meaning.specs.Fault.{Cause, call_failed, no_template, steps_spent}
use Rattle.tmpl_meaning.specs.Pipeline.{Environment, Place, commands_value, given_then, lookup, without_null}
use Rattle.tmpl_meaning.specs.Meaning.{End, Next, Parts, Run, Setting, control_run, done, meanings, over, scope, show, spend, stepped, turns, with_bound, with_pipeline}
use Rattle.tmpl_loops.specs.Form.{AreApart, Loop, Names, Turn, byte_as, byte_nodes, does, end_nodes, going, if_so, indexing, joined, loop_nodes, named, one, put_by, put_for, refused, stopped, texts, turn_nodes, turn_of, value_at}
use Rattle.tmpl_loops.specs.Law.{Each}
use Rattle.tmpl_loops.proofs.RunLemmas as run
use Rattle.tmpl_loops.proofs.RunLemmas.{at}
use Rattle.tmpl_loops.proofs.StepLemmas as steps
use Rattle.tmpl_loops.proofs.StateLemmas as st
use Rattle.tmpl_loops.proofs.ValueLemmas.{applied, byte-value, indexing-value}
use Rattle.tmpl_loops.proofs.TextLemmas.{byte_there, slices, slices_to_end}

abbrev ok : Value → Result Value Cause
ok v = Ok v

module _ (May : Cause → Type 0) (spent : (n : ℕ) → May (steps_spent n)) (s : Setting) (c : Loop) (constants : Environment) (bytes : List ℕ) (given : Value) (apart : AreApart c constants) (base : List ℕ) where
  abbrev n : Names
  n = c.names

  abbrev pub state : Bool → ℕ → Environment
  state = st.state c constants bytes given apart

  abbrev in_turn : ℕ → Bool → ℕ → Environment
  in_turn = st.in_turn c constants bytes given apart

  abbrev at_byte : ℕ → ℕ → Bool → ℕ → Environment
  at_byte = st.at_byte c constants bytes given apart

  abbrev place : Value → Environment → Place
  place d env = record { missing_key = s.rules.missing_key; dot = d; env = env }

  abbrev pub Ends : (Environment → List ℕ → Type 0) → Run × End → Type 0
  Ends = run.Ends May spent

  abbrev Are : Environment → List ℕ → Environment → List ℕ → Type 0
  Are = run.Are May spent

  -- the bytes m of those before this place are still to be put, and begin where `$from` says
  abbrev Pending : Bool → ℕ → List ℕ → List ℕ → Type 0
  Pending false f front m = (a : List ℕ) × (front ≡ a ++ m) × (f ≡ length a)
  Pending true f front m = m ≡ []

  -- between turns, or in one, where the variables stand around the state so: before the next turn these bytes are behind
  abbrev Between : (Bool → ℕ → Environment) → List ℕ → Environment → List ℕ → Type 0
  Between around front env t = (new : Bool) × (f : ℕ) × (m : List ℕ) × (env ≡ around new f) × (t ++ m ≡ base ++ flat_map (put_for c constants) front) × Pending new f front m

  abbrev pub IsGoing : Turn → Type 0
  IsGoing (going None false) = Unit {0}
  IsGoing (going (Some t) true) = Unit {0}
  IsGoing (stopped name) = (s.calls name ≡ Err (no_template name)) × May (no_template name)
  IsGoing turn = ⊥

  faulty : (P : Environment → List ℕ → Type 0) → run.HoldsAtFaults May spent (Ends P)
  faulty P = run.faulty May spent P

  -- ---- a turn

  module _ (b : ℕ) (front rest : List ℕ) (is : bytes ≡ front ++ b ∷ rest) (d : Value) where
    abbrev i : ℕ
    i = length front

    abbrev there : Bool → ℕ → Environment
    there = at_byte b i

    abbrev Over : Environment → List ℕ → Type 0
    Over = Between there (front ++ b ∷ [])

    there-it-is : slice_get bytes i ≡ Some b
    there-it-is = ap (λ (bs : List ℕ). slice_get bs i) is ∙ byte_there front b rest

    abbrev values : (f : ℕ) (anew : Bool) (p : Pipeline) (v : Value) → value_at n constants b p ≡ Some v → (commands_value (place d (at_byte b i anew f)) p None).result ≡ Ok v
    values f anew p v e = byte-value c constants bytes given apart s.rules.missing_key d b i anew f there-it-is p v e

    -- what a turn comes to, by what is done by the byte
    outcome : (t : Turn) (f : ℕ) (t0 a m : List ℕ) → front ≡ a ++ m → f ≡ length a → t0 ++ m ≡ base ++ flat_map (put_for c constants) front
        → put_for c constants b ≡ put_by b t → (sliced : slice_between (string bytes) (Some (number (pos f))) (Some (number (pos i))) ≡ Ok (string m))
        → IsGoing t → (x : Run × End) → steps.Good May spent s c constants bytes given apart b i f t0 m d sliced (value_at n constants b) (values f) t x → Ends Over x
    outcome (going None false) f t0 a m split from so_far puts sliced good x h =
        run.map-ends May spent (Are (there false f) t0) Over x (λ env text are. (
          false,
          f,
          m ++ b ∷ [],
          are.0,
          ap (λ l. l ++ (m ++ b ∷ [])) are.1 ∙ sym (append_assoc t0 m (b ∷ [])) ∙ (λ k. so_far k ++ b ∷ []) ∙ (λ k. (base ++ flat_map (put_for c constants) front) ++ sym puts k)
              ∙ flat_map_more (put_for c constants) base front b,
          (a, (λ k. split k ++ b ∷ []) ∙ append_assoc a m (b ∷ []), from),
        )) h
    outcome (going (Some t) true) f t0 a m split from so_far puts sliced good x h =
        run.map-ends May spent (Are (there true f) ((t0 ++ m) ++ t)) Over x (λ env text are. (
          true,
          f,
          [],
          are.0,
          append-nil text ∙ are.1 ∙ (λ k. so_far k ++ t) ∙ (λ k. (base ++ flat_map (put_for c constants) front) ++ sym puts k)
              ∙ flat_map_more (put_for c constants) base front b,
          refl,
        )) h
    outcome (stopped name) f t0 a m split from so_far puts sliced good x h = run.faults-end May spent Over x.0.env x.0.text x.1 (h good.0 good.1)
    outcome (going None true) f t0 a m split from so_far puts sliced good x h = absurd good
    outcome (going (Some t) false) f t0 a m split from so_far puts sliced good x h = absurd good
    outcome refused f t0 a m split from so_far puts sliced good x h = absurd good

    by-byte : IsGoing (turn_of c constants b) → (f : ℕ) (t0 a m : List ℕ) → front ≡ a ++ m → f ≡ length a → t0 ++ m ≡ base ++ flat_map (put_for c constants) front
        → (left : ℕ) (made : Bool) → Ends Over (meanings s c.by_byte d (at (there false f) t0 left made))
    by-byte good f t0 a m split from so_far left made =
        let all : bytes ≡ (a ++ m) ++ b ∷ rest = is ∙ ap (λ l. l ++ b ∷ rest) split in
        let sliced : slice_between (string bytes) (Some (number (pos f))) (Some (number (pos i))) ≡ Ok (string m) =
        (λ k. slice_between (string (all k)) (Some (number (pos (from k)))) (Some (number (pos (length (split k)))))) ∙ slices a m (b ∷ rest) in
        outcome (turn_of c constants b) f t0 a m split from so_far refl sliced good _
        (steps.nodes-good May spent s c constants bytes given apart b i f t0 m d sliced (value_at n constants b) (values f) c.by_byte None false left made)

    -- {{if $is_new}}{{$from = $i}}{{$is_new = false}}{{end}}
    abbrev asked : List Operand
    asked = named n.new ∷ []

    abbrev take_place : NodeKind
    take_place = does (assign n.from) (named n.index ∷ [])

    abbrev no_longer : NodeKind
    no_longer = does (assign n.new) (bool_constant false ∷ [])

    abbrev last_part : Nodes
    last_part = tree.then (c.line 6) no_longer tree.none

    abbrev begin_body : Nodes
    begin_body = tree.then (c.line 5) take_place last_part

    abbrev begin : NodeKind
    begin = if_so asked begin_body

    asked-value : (new : Bool) (f : ℕ) → (commands_value (place d (there new f)) (one asked) None).result ≡ Ok (boolean new)
    asked-value new f = ap (λ (v : Value). ok (without_null v)) (st.new-at c constants bytes given apart b i new f)

    begin-old : (line f : ℕ) (t : List ℕ) → run.Does May spent (stepped s line begin d) (there false f) t (Are (there false f) t)
    begin-old line f t = run.if-does May spent s line (one asked) begin_body tree.none d (there false f) t (there false f) t (boolean false) (asked-value false f) refl (λ left made. (refl, refl))

    take-place : (line f : ℕ) (t : List ℕ) → run.Does May spent (stepped s line take_place d) (there true f) t (Are (there true i) t)
    take-place line f t left made = run.value-ends May spent (Are (there true i) t) s line _ (number (pos i)) (show (assign n.from)) (at (there true f) t left (made || false))
        (ap (λ (v : Value). ok (without_null v)) (st.index-at c constants bytes given apart b i true f)) (st.assign-from c constants bytes given apart b i true f i, refl)

    begin-new : (line f : ℕ) (t : List ℕ) → run.Does May spent (stepped s line begin d) (there true f) t (Are (there false i) t)
    begin-new line f t = run.if-does May spent s line (one asked) begin_body tree.none d (there true f) t (there false i) t (boolean true) (asked-value true f)
        (st.long-at c constants bytes given apart b i false true i f)
        (run.then-has May spent (Ends (Are (there false i) t)) (faulty (Are (there false i) t)) s (c.line 5) take_place last_part d (there true f) t (there true i) t
        (take-place (c.line 5) f t)
        (run.then-has May spent (Ends (Are (there false i) t)) (faulty (Are (there false i) t)) s (c.line 6) no_longer tree.none d (there true i) t (there false i) t
        (λ left made. (st.assign-new c constants bytes given apart b i true false i, refl)) (λ left made. (refl, refl))))

    abbrev by_begin : Nodes
    by_begin = tree.then (c.line 4) begin c.by_byte

    -- where the byte is declared, if it is, and then
    byte-then : (G : Run × End → Type 0) → run.HoldsAtFaults May spent G → (o : Option (List ℕ)) (new : Bool) (f : ℕ) (t : List ℕ)
        → ((left : ℕ) (made : Bool) → G (meanings s by_begin d (at (byte_as b o ++ in_turn i new f) t left made)))
        → (left : ℕ) (made : Bool) → G (meanings s (byte_nodes (c.line 3) n o by_begin) d (at (in_turn i new f) t left made))
    byte-then G fine None new f t h left made = h left made
    byte-then G fine (Some name) new f t h left made =
        let env : Environment = (name, number (pos b)) ∷ in_turn i new f in
        run.then-has May spent G fine s (c.line 3) (action (record { binding = declare name; pipeline = indexing n })) by_begin d (in_turn i new f) t env t
        (λ left made. run.value-ends May spent (Are env t) s (c.line 3) _ (number (pos b)) (show (declare name)) (at (in_turn i new f) t left _)
        (ap (λ g. g.result) (indexing-value n (place d (in_turn i new f)) bytes i b (st.text-turn c constants bytes given apart i new f) (st.index-turn c constants bytes given apart i new f) there-it-is)) (refl, refl)) h left made

    turn-over : IsGoing (turn_of c constants b) → (new : Bool) (f : ℕ) (t m : List ℕ) → t ++ m ≡ base ++ flat_map (put_for c constants) front → Pending new f front m
        → (left : ℕ) (made : Bool) → Ends Over (meanings s (turn_nodes c) d (at (in_turn i new f) t left made))
    turn-over good new f t m so_far pending = byte-then (Ends Over) (faulty Over) n.byte new f t (by new m so_far pending)
      where
        by : (new : Bool) (m : List ℕ) → t ++ m ≡ base ++ flat_map (put_for c constants) front → Pending new f front m → (left : ℕ) (made : Bool)
            → Ends Over (meanings s by_begin d (at (there new f) t left made))
        by false m so_far p = run.then-has May spent (Ends Over) (faulty Over) s (c.line 4) begin c.by_byte d (there false f) t (there false f) t (begin-old (c.line 4) f t)
            (by-byte good f t p.0 m p.1 p.2 so_far)
        by true m so_far p = run.then-has May spent (Ends Over) (faulty Over) s (c.line 4) begin c.by_byte d (there true f) t (there false i) t (begin-new (c.line 4) f t)
            (by-byte good i t front [] (sym (append-nil front)) refl (ap (λ l. t ++ l) (sym p) ∙ so_far))

  -- ---- the turns

  abbrev body : Value → Next
  body = meanings s (turn_nodes c)

  -- the index of a turn
  abbrev element_of : ℕ → Element
  element_of i = (number (pos i), number (pos i))

  abbrev turn : Element → Next
  turn e = scope (λ q. body e.1 (with_bound (declare n.index) e q))

  turn-ends : (b : ℕ) (front rest : List ℕ) → bytes ≡ front ++ b ∷ rest → IsGoing (turn_of c constants b) → (q : Run) → Between state front q.env q.text
      → Ends (Between state (front ++ b ∷ [])) (turn (element_of (length front)) q)
  turn-ends b front rest is good q (new, f, m, env, so_far, pending) =
      let d : Value = number (pos (length front)) in
      run.from-these May spent (Ends (Between state (front ++ b ∷ []))) (faulty (Between state (front ++ b ∷ []))) (state new f) q.text (turn (element_of (length front)))
      (λ left made.
      run.scope-does May spent (Between (at_byte b (length front)) (front ++ b ∷ [])) (Between state (front ++ b ∷ []))
      (λ q. body d (with_bound (declare n.index) (element_of (length front)) q)) (at (state new f) q.text left made)
      (λ env text o. (o.0, o.1, o.2, ap (λ (e : Environment). drop (length e - length (state new f)) e) o.3 ∙ st.cut-turn c constants bytes given apart b (length front) o.0 new o.1 f, o.4, o.5))
      (turn-over b front rest is d good new f q.text m so_far pending left made)) q (env, refl)

  abbrev pub AllGoing : List ℕ → Type 0
  AllGoing = Each (λ b. IsGoing (turn_of c constants b))

  turns-end : (line : ℕ) (rest front : List ℕ) → bytes ≡ front ++ rest → AllGoing rest → (q : Run) → Between state front q.env q.text
      → Ends (Between state bytes) (turns s line (declare n.index) body (map element_of (range_with_len (length front) (length rest))) q)
  turns-end line [] front is good q h =
      subst (λ (bs : List ℕ). Between state bs q.env q.text) (sym (is ∙ append-nil front)) h
  turns-end line (b ∷ rest) front is good q h =
      let go = turns s line (declare n.index) body (map element_of (range_with_len (length front + 1) (length rest))) in
      let x = spend s line (turn (element_of (length front))) q in
      run.turn-has May spent (Ends (Between state bytes)) (faulty (Between state bytes)) (Between state (front ++ b ∷ [])) x.0 x.1 go
      (run.spend-has May spent (Ends (Between state (front ++ b ∷ []))) (faulty (Between state (front ++ b ∷ []))) s line (turn (element_of (length front))) q
      (λ left. turn-ends b front rest is good.0 (record q { left = left }) h))
      (λ q h. subst (λ (k : ℕ). Ends (Between state bytes) (turns s line (declare n.index) body (map element_of (range_with_len k (length rest))) q))
      (length-append front (b ∷ []))
      (turns-end line rest (front ++ b ∷ []) (is ∙ sym (append_assoc front (b ∷ []) rest)) good.1 q h))

  -- ---- the range

  abbrev counted : List Operand
  counted = function Len ∷ named n.text ∷ []

  over-same : (line : ℕ) (parts : Parts) (es : List Element) (q : Run) → ((q : Run) → parts.other q ≡ (q, done))
      → over s line parts (Some es) q ≡ turns s line parts.binding parts.body es q
  over-same line parts [] q is = is q
  over-same line parts (e ∷ es) q is = refl

  range-ends : (line : ℕ) (d : Value) → AllGoing bytes → (left : ℕ) (made : Bool)
      → Ends (Between state bytes) (stepped s line (control_node control.Range (record { binding = declare n.index; pipeline = one counted }) (turn_nodes c) tree.none) d (at (state false 0) base left made))
  range-ends line d good left made =
      let parts : Parts = record { binding = declare n.index; body = body; other = meanings s tree.none d } in
      let go = control_run s line control.Range parts d in
      let r = at (state false 0) base left made in
      let count : length bytes - 0 ≡ length bytes = omega arith in
      let begun : Between state [] (state false 0) base = (false, 0, [], refl, refl, ([], refl, refl)) in
      let q = at (state false 0) base left (made || (commands_value (place d (state false 0)) (one counted) None).made_text) in
      run.scope-does May spent (Between state bytes) (Between state bytes) (with_pipeline s line (one counted) d go) r
      (λ env text o. (o.0, o.1, o.2, ap (λ (e : Environment). drop (length e - length (state false 0)) e) o.3 ∙ st.cut-state c constants bytes given apart o.0 false o.1 0, o.4, o.5))
      (run.value-ends May spent (Between state bytes) s line _ (number (pos (length bytes))) go q
      (ap (λ (v : Value). (applied (place d (state false 0)) Len (v ∷ [])).result) (st.text-state c constants bytes given apart false 0))
      (subst (λ (x : Run × End). Ends (Between state bytes) x) (sym (over-same line parts (map element_of (range_with_len 0 (length bytes - 0))) q (λ q. refl)))
      (subst (λ (k : ℕ). Ends (Between state bytes) (turns s line (declare n.index) body (map element_of (range_with_len 0 k)) q)) (sym count)
      (turns-end line bytes [] refl good q begun))))

  -- ---- what comes after the range

  -- a run over texts
  pub texts-have : (G : Run × End → Type 0) → run.HoldsAtFaults May spent G → (ts : List (ℕ × List ℕ)) (ns : Nodes) (d : Value) (e : Environment) (t : List ℕ)
      → ((left : ℕ) (made : Bool) → G (meanings s ns d (at e (t ++ joined ts) left made))) → (left : ℕ) (made : Bool) → G (meanings s (texts ts ns) d (at e t left made))
  texts-have G fine [] ns d e t h left made = subst (λ (l : List ℕ). G (meanings s ns d (at e l left made))) (append-nil t) (h left made)
  texts-have G fine (x ∷ ts) ns d e t h left made =
      run.then-has May spent G fine s x.0 (text x.1) (texts ts ns) d e t e (t ++ x.1) (λ left made. (refl, refl))
      (texts-have G fine ts ns d e (t ++ x.1)
      (λ left made. subst (λ (l : List ℕ). G (meanings s ns d (at e l left made))) (sym (append_assoc t x.1 (joined ts))) (h left made))) left made

  abbrev pub whole : List ℕ
  whole = base ++ flat_map (put_for c constants) bytes

  -- this text, whatever the variables are
  abbrev pub HasText : List ℕ → Environment → List ℕ → Type 0
  HasText t env found = found ≡ t

  abbrev rest_operands : List Operand
  rest_operands = function Slice ∷ named n.text ∷ named n.from ∷ []

  abbrev put_rest : NodeKind
  put_rest = does unbound rest_operands

  abbrev rest_nodes : Nodes
  rest_nodes = tree.then (c.line 8) put_rest tree.none

  abbrev is_old : List Operand
  is_old = function Not ∷ named n.new ∷ []

  abbrev sliced : Place → Result Value CallFault → Result Value Cause
  sliced p a = (given_then (record { result = result_map_both (λ v. v) (call_failed Slice) a; made_text = false }) (λ v. commands_value p no_command (Some (without_null v)))).result

  rest-value : (p : Place) (a m : List ℕ) (f : ℕ) → lookup n.text p.env ≡ string bytes → lookup n.from p.env ≡ number (pos f) → bytes ≡ a ++ m → f ≡ length a
      → sliced p (slice_between (lookup n.text p.env) (Some (lookup n.from p.env)) None) ≡ Ok (string m)
  rest-value p a m f words from all start =
      (λ k. sliced p (slice_between (words k) (Some (from k)) None)) ∙ (λ k. sliced p (slice_between (string (all k)) (Some (number (pos (start k)))) None)) ∙ ap (sliced p) (slices_to_end a m)

  old-value : (d : Value) (new : Bool) (f : ℕ) → (commands_value (place d (state new f)) (one is_old) None).result ≡ Ok (boolean (not new))
  old-value d new f = ap (λ (v : Value). (applied (place d (state new f)) Not (v ∷ [])).result) (st.new-state c constants bytes given apart new f)

  finish : (line f : ℕ) (d : Value) (t a m : List ℕ) → bytes ≡ a ++ m → f ≡ length a
      → run.Does May spent (stepped s line (if_so is_old rest_nodes) d) (state false f) t (Are (state false f) (t ++ m))
  finish line f d t a m is from =
      let e = state false f in
      run.if-does May spent s line (one is_old) rest_nodes tree.none d e t e (t ++ m) (boolean true) (old-value d false f) refl
      (run.then-has May spent (Ends (Are e (t ++ m))) (faulty (Are e (t ++ m))) s (c.line 8) put_rest tree.none d e t e (t ++ m)
      (λ left made. run.value-ends May spent (Are e (t ++ m)) s (c.line 8) _ (string m) (show unbound) (at e t left _)
      (rest-value (place d e) a m f (st.text-state c constants bytes given apart false f) (st.from-state c constants bytes given apart false f) is from) (refl, refl))
      (λ left made. (refl, refl)))

  finish-new : (line f : ℕ) (d : Value) (t : List ℕ) → run.Does May spent (stepped s line (if_so is_old rest_nodes) d) (state true f) t (Are (state true f) t)
  finish-new line f d t =
      let e = state true f in run.if-does May spent s line (one is_old) rest_nodes tree.none d e t e t (boolean false) (old-value d true f) refl (λ left made. (refl, refl))

  abbrev pub Last : Environment → List ℕ → Type 0
  Last = HasText (whole ++ joined c.after)

  -- the nodes after the range, from where the text is so
  last-texts : (d : Value) (e : Environment) (t : List ℕ) → t ≡ whole → (left : ℕ) (made : Bool)
      → Ends Last (meanings s (texts c.after tree.none) d (at e t left made))
  last-texts d e t is = texts-have (Ends Last) (faulty Last) c.after tree.none d e t (λ left made. ap (λ l. l ++ joined c.after) is)

  end-ends : (d : Value) (q : Run) → Between state bytes q.env q.text → Ends Last (meanings s (end_nodes c) d q)
  end-ends d q (new, f, m, env, so_far, pending) =
      run.from-these May spent (Ends Last) (faulty Last) (state new f) q.text (meanings s (end_nodes c) d) (by new m so_far pending) q (env, refl)
    where
      by : (new : Bool) (m : List ℕ) → q.text ++ m ≡ whole → Pending new f bytes m → (left : ℕ) (made : Bool)
          → Ends Last (meanings s (end_nodes c) d (at (state new f) q.text left made))
      by false m so_far p = run.then-has May spent (Ends Last) (faulty Last) s (c.line 7) (if_so is_old rest_nodes) (texts c.after tree.none) d (state false f) q.text (state false f) (q.text ++ m)
          (finish (c.line 7) f d q.text p.0 m p.1 p.2) (last-texts d (state false f) (q.text ++ m) so_far)
      by true m so_far p = run.then-has May spent (Ends Last) (faulty Last) s (c.line 7) (if_so is_old rest_nodes) (texts c.after tree.none) d (state true f) q.text (state true f) q.text
          (finish-new (c.line 7) f d q.text) (last-texts d (state true f) q.text (sym (append-nil q.text) ∙ ap (λ l. q.text ++ l) (sym p) ∙ so_far))

  pub loop-ends : (d : Value) → AllGoing bytes → (left : ℕ) (made : Bool) → Ends Last (meanings s (loop_nodes c) d (at (state false 0) base left made))
  loop-ends d good left made =
      let n = control_node control.Range (record { binding = declare n.index; pipeline = one counted }) (turn_nodes c) tree.none in
      let r = at (state false 0) base left made in
      let x = spend s (c.line 9) (stepped s (c.line 9) n d) r in
      run.after-has May spent (Ends Last) (faulty Last) (Between state bytes) x.0 x.1 (meanings s (end_nodes c) d)
      (run.spend-has May spent (Ends (Between state bytes)) (faulty (Between state bytes)) s (c.line 9) (stepped s (c.line 9) n d) r (λ left. range-ends (c.line 9) d good left made))
      (end-ends d)
