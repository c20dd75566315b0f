-- For the law `runs_safely`: what is found to be a copy loop is one.
use Rattle.std.proofs.Common.{◌≡◌, ◌∙◌, ◌||◌, ℕ, Bool, true, false, List, [], ◌∷◌, Option, Some, None, Result, Ok, Err, refl, sym, subst, ap, if◌then◌else◌}
use Rattle.std.proofs.lemmas.Bool.{and_parts, false≢true, not-false, not-true, or_right}
use Rattle.std.specs.Prelude.{◌&&◌, bytes_eq, MatchOption}
use Rattle.std.specs.Option.{is_some}
use Rattle.std.specs.Result.{result_ok}
use Rattle.tmpl_values.specs.Value.{Value, nothing}
use Rattle.tmpl_values.specs.Text.{text_of}
use Rattle.tmpl_values.specs.Truth.{truth}
use Rattle.tmpl_funcs.specs.declared.func.Func.TheVariants.{Slice}
use Rattle.tmpl_grammar.specs.Tree.{Operand, dot, fields, variable, group, function, Operands, no_operand, operand, Pipeline, no_command, command, Binding, unbound, assign, Header}
use Rattle.tmpl_grammar.specs.declared.tree.Control.{Control}
use Rattle.tmpl_grammar.specs.declared.tree.Control.TheVariants as control
use Rattle.tmpl_syntax.specs.Tree as tree
use Rattle.tmpl_syntax.specs.Tree.{Tree, action, control_node, template_node, Nodes}
use Rattle.tmpl_syntax.specs.Set.{Template}
use Rattle.tmpl_meaning.specs.Fault.{Cause}
use Rattle.tmpl_meaning.specs.Pipeline.{Environment, commands_value}
use Rattle.tmpl_meaning.specs.declared.missing_key.MissingKey.TheVariants.{Zero}
use Rattle.tmpl_loops.specs.Form.{Names, Turn, after_nodes, acting, alone, are_all_seen, are_seen, branching, byte_variable, choosing, going, going_on, has_name, is_indexing, is_seen, is_slicing, is_yes, keeping, lone, named, one, putting, refused, showing, stopped, value_at}
use Rattle.tmpl_loops.specs.Law.{IsCopyLoop, IsTurn}
use Rattle.tmpl_loops.specs.computed.Find.{Parts, differ, names_of, parts_of}
use Rattle.tmpl_loops.proofs.FindLemmas.{finds_loops}
use Rattle.tmpl_loops.proofs.TestLemmas.{slicing-is}
use Rattle.tmpl_shape.specs.Shape.{Shape, Names as Stands}
use Rattle.tmpl_shape.specs.computed.Means.{Means}
use Rattle.tmpl_shape.specs.computed.Shapes.{Base}
use Rattle.tmpl_schema.proofs.FieldLemmas.{Gives}
use Rattle.tmpl_schema.specs.computed.Check.{State, pipeline_shape}
use Rattle.tmpl_schema.specs.computed.Loops.{Acts, AreLoop, Chooses, EndsWell, HasValue, IsFound, byte_state}
use Rattle.tmpl_schema.proofs.VariableLemmas.{place, pipeline-gives}

-- a pipeline that is made of the byte alone is so by any other tests that the byte passes
module _ (sees more : List ℕ → Bool) (is_byte : Pipeline → Bool) (passes : (name : List ℕ) → sees name ≡ true → more name ≡ true) where
  mutual
    operand-seen : (o : Operand) → is_seen sees (λ p. false) o ≡ true → is_seen more is_byte o ≡ true
    operand-seen (variable name []) e = passes name e
    operand-seen (group cs []) e = or_right (is_byte cs) (are_all_seen more is_byte cs) (commands-seen cs e)
    operand-seen (variable name (f ∷ fs)) e = absurd (false≢true e)
    operand-seen (group cs (f ∷ fs)) e = absurd (false≢true e)
    operand-seen dot e = absurd (false≢true e)
    operand-seen (fields names) e = absurd (false≢true e)
    operand-seen _ e = refl

    operands-seen : (os : Operands) → are_seen sees (λ p. false) os ≡ true → are_seen more is_byte os ≡ true
    operands-seen no_operand e = refl
    operands-seen (operand o os) e =
        let p = and_parts (is_seen sees (λ p. false) o) (are_seen sees (λ p. false) os) e in
        λ i. operand-seen o p.0 i && operands-seen os p.1 i

    commands-seen : (cs : Pipeline) → are_all_seen sees (λ p. false) cs ≡ true → are_all_seen more is_byte cs ≡ true
    commands-seen no_command e = refl
    commands-seen (command os cs) e =
        let p = and_parts (are_seen sees (λ p. false) os) (are_all_seen sees (λ p. false) cs) e in
        λ i. operands-seen os p.0 i && commands-seen cs p.1 i

module _ (base : Base) (N : Stands) (means : Means base.defs N) (set : List Template) (stops : List (List ℕ)) (p : Parts) (apart : bytes_eq p.byte p.text ≡ false) where
  abbrev n : Names
  n = names_of p

  abbrev k : State
  k = byte_state p

  abbrev Valued : Pipeline → Type 0
  Valued = HasValue base set stops n p.byte k

  -- such a pipeline has a value at each number
  value-there : (q : Pipeline) → Valued q → (b : ℕ) → (v : Value) × (value_at n [] b q ≡ Some v)
  value-there q h b =
      by (pipeline_shape base Zero k q) h.1 (commands_value (place base N means nothing Zero nothing env) q None).result refl
      ((pipeline-gives base N means nothing) Zero k nothing env (tt, (refl, tt, (refl, tt, (refl, tt, tt, tt), tt), tt), tt) q)
    where
      env : Environment
      env = alone n [] b

      sees : List ℕ → Bool
      sees name = has_name name (byte_variable n b)

      all : are_all_seen (λ name. has_name name (byte_variable n b)) (is_indexing n) q ≡ true
      all = commands-seen (λ name. bytes_eq p.byte name) (λ name. has_name name (byte_variable n b)) (is_indexing n) (λ name e. ap (λ c. c || false) e) q h.0

      by : (o : Option Shape) → is_some o ≡ true → (r : Result Value Cause) → (commands_value (place base N means nothing Zero nothing env) q None).result ≡ r → (Gives base N means) o r
          → (v : Value) × (value_at n [] b q ≡ Some v)
      by None e r is g = absurd (false≢true e)
      by (Some s) e (Ok v) is g = (v, (λ i. if all i then result_ok (commands_value (place base N means nothing Zero nothing env) q None).result else None) ∙ ap result_ok is)
      by (Some s) e (Err cause) is g = absurd g

  -- a pipeline of the byte is no part of the text
  no-slice : (q : Pipeline) → Valued q → is_slicing n q ≡ false
  no-slice q h = by (is_slicing n q) refl
    where
      by : (b : Bool) → is_slicing n q ≡ b → is_slicing n q ≡ false
      by false is = is
      by true is =
          let whole : are_all_seen (λ name. bytes_eq p.byte name) (λ p. false) (one (function Slice ∷ named p.text ∷ named p.from ∷ named p.index ∷ [])) ≡ true =
          subst (λ (q : Pipeline). are_all_seen (λ name. bytes_eq p.byte name) (λ p. false) q ≡ true) (slicing-is n q is) h.0 in
          let parts = and_parts (bytes_eq p.byte p.text && (bytes_eq p.byte p.from && (bytes_eq p.byte p.index && true))) true whole in
          let first = and_parts (bytes_eq p.byte p.text) (bytes_eq p.byte p.from && (bytes_eq p.byte p.index && true)) parts.0 in
          absurd (false≢true (sym apart ∙ first.0))

  abbrev IsFine : Turn → Type 0
  IsFine = IsTurn set stops

  module _ (b : ℕ) where
    abbrev value : Pipeline → Option Value
    value = value_at n [] b

    stay : (t : Turn) → IsFine t → IsFine (going_on t (λ put anew. going put anew))
    stay (going None false) h = h
    stay (going (Some t) true) h = h
    stay (stopped name) h = h
    stay _ h = absurd h

    chosen : (q : Pipeline) → Valued q → (t u : Turn) → IsFine t → IsFine u → IsFine (choosing (value q) t u)
    chosen q h t u ft fu =
        let v = value-there q h b in
        subst (λ (o : Option Value). IsFine (choosing o t u)) (sym v.1) (by (truth v.0))
      where
        by : (c : Bool) → IsFine (if c then t else u)
        by true = ft
        by false = fu

    at-end : (put : Option (List ℕ)) (kept anew : Bool) → is_some put ≡ kept → kept ≡ anew → IsFine (going put anew)
    at-end None kept false e same = tt
    at-end (Some t) kept true e same = tt
    at-end None kept true e same = absurd (false≢true (e ∙ same))
    at-end (Some t) kept false e same = absurd (false≢true (sym (e ∙ same)))

    -- what is put after what was
    abbrev More : Nodes → Type 0
    More xs = (kept anew : Bool) → EndsWell base set stops n p.byte k xs kept anew → (put : Option (List ℕ)) → is_some put ≡ kept
        → IsFine (after_nodes n value xs put anew)

    put-more : (xs : Nodes) → More xs → (bs : List ℕ) (kept anew : Bool) → kept ≡ true → EndsWell base set stops n p.byte k xs kept anew
        → (put : Option (List ℕ)) → is_some put ≡ kept → IsFine (going_on (putting bs put anew) (after_nodes n value xs))
    put-more xs more bs kept anew is h None e = absurd (false≢true (e ∙ is))
    put-more xs more bs kept anew is h (Some t) e = more kept anew h (Some _) e

    show-more : (xs : Nodes) → More xs → (q : Pipeline) → Valued q → (anew : Bool) → EndsWell base set stops n p.byte k xs true anew
        → (put : Option (List ℕ)) → is_some put ≡ true
        → IsFine (going_on (if is_slicing n q then keeping put anew else showing (value q) put anew) (after_nodes n value xs))
    show-more xs more q v anew h put e =
        let w = value-there q v b in
        subst (λ (c : Bool). IsFine (going_on (if c then keeping put anew else showing (value q) put anew) (after_nodes n value xs))) (sym (no-slice q v))
        (subst (λ (o : Option Value). IsFine (going_on (showing o put anew) (after_nodes n value xs))) (sym w.1)
        (put-more xs more (text_of w.0) true anew refl h put e))

    keep-more : (xs : Nodes) → More xs → (q : Pipeline) → is_slicing n q ≡ true → (anew : Bool) → EndsWell base set stops n p.byte k xs true anew
        → (put : Option (List ℕ)) → is_some put ≡ false
        → IsFine (going_on (if is_slicing n q then keeping put anew else showing (value q) put anew) (after_nodes n value xs))
    keep-more xs more q is anew h None e =
        subst (λ (c : Bool). IsFine (going_on (if c then keeping None anew else showing (value q) None anew) (after_nodes n value xs))) (sym is)
        (more true anew h (Some []) refl)
    keep-more xs more q is anew h (Some t) e = absurd (false≢true (sym e))

    act-more : (xs : Nodes) → More xs → (bound : Binding) (q : Pipeline) (kept anew : Bool) → Acts base set stops n p.byte k bound q kept anew (EndsWell base set stops n p.byte k xs)
        → (put : Option (List ℕ)) → is_some put ≡ kept → IsFine (going_on (acting n value bound q put anew) (after_nodes n value xs))
    act-more xs more unbound q false anew h put e = keep-more xs more q h.0 anew h.1 put e
    act-more xs more unbound q true anew h put e = show-more xs more q h.0 anew h.1 put e
    act-more xs more (assign name) q kept anew h put e =
        let test : (bytes_eq p.new name && is_yes (lone q)) ≡ true = λ i. not-false (bytes_eq p.new name) h.0 i && h.1 i in
        subst (λ (c : Bool). IsFine (going_on (if c then going put true else refused) (after_nodes n value xs))) (sym test) (more kept true h.2 put e)
    act-more xs more _ q kept anew h put e = absurd h

    choice-more : (c : Control) (h : Header) (xs body other : Nodes) (kept anew : Bool) → More body → More other
        → Chooses base set stops n p.byte k c h xs (EndsWell base set stops n p.byte k body kept anew) (EndsWell base set stops n p.byte k other kept anew)
        → (put : Option (List ℕ)) → is_some put ≡ kept
        → IsFine (going_on (branching c h.binding (choosing (value h.pipeline) (after_nodes n value body put anew) (after_nodes n value other put anew))) (after_nodes n value xs))
    choice-more control.If h tree.none body other kept anew f g e put is =
        let turn = choosing (value h.pipeline) (after_nodes n value body put anew) (after_nodes n value other put anew) in
        subst (λ (bound : Binding). IsFine (going_on (branching control.If bound turn) (after_nodes n value tree.none))) (sym e.0)
        (stay turn (chosen h.pipeline e.1 (after_nodes n value body put anew) (after_nodes n value other put anew) (f kept anew e.2 put is) (g kept anew e.3 put is)))
    choice-more _ h xs body other kept anew f g e put is = absurd e

    ends-fine : (ns : Nodes) → More ns
    ends-fine tree.none kept anew h put e = at-end put kept anew e h
    ends-fine (tree.then line (tree.text bs) xs) kept anew h put e = put-more xs (ends-fine xs) bs kept anew h.0 h.1 put e
    ends-fine (tree.then line (action h) xs) kept anew g put e = act-more xs (ends-fine xs) h.binding h.pipeline kept anew g put e
    ends-fine (tree.then line (control_node c h body other) xs) kept anew g put e =
        choice-more c h xs body other kept anew (ends-fine body) (ends-fine other) g put e
    ends-fine (tree.then line (template_node name given) xs) kept anew g put e = g
    ends-fine (tree.then line _ xs) kept anew g put e = absurd g

module _ (base : Base) (N : Stands) (means : Means base.defs N) (set : List Template) (stops : List (List ℕ)) (t : Tree) where
  of-parts : (p : Parts) → parts_of t.nodes ≡ Some p → AreLoop base set stops p → IsCopyLoop set stops t
  of-parts p is h =
      let found = finds_loops t.nodes p is h.closed h.apart in
      let differs = not-true (bytes_eq p.byte p.text) (and_parts (differ p.byte p.text) _ h.apart).0 in (
        found.0,
        [],
        record {
          tree = found.1;
          known = found.2;
          apart = found.3;
          turns = λ b. subst (λ (m : Names). IsTurn set stops (after_nodes m (value_at m [] b) found.0.by_byte None false)) (sym found.4)
              (subst (λ (ns : Nodes). IsTurn set stops (after_nodes (names_of p) (value_at (names_of p) [] b) ns None false)) (sym found.5)
              (ends-fine base N means set stops p differs b p.steps false false h.turns None refl));
        },
      )

  pub found-loop : IsFound base set stops t.nodes → IsCopyLoop set stops t
  found-loop h = by (parts_of t.nodes) refl h
    where
      by : (o : Option Parts) → parts_of t.nodes ≡ o → MatchOption o ⊥ (AreLoop base set stops) → IsCopyLoop set stops t
      by None is h = absurd h
      by (Some p) is h = of-parts p is h
