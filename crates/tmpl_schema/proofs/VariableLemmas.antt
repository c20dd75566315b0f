-- For the law `runs_safely`: the variables of a run have the shapes that are computed, and so have pipelines.
use Rattle.std.proofs.Common.{arith, ◌≡◌, ◌∙◌, ◌+◌, ◌-◌, ◌≤◌, ◌<◌, ◌&&◌, ◌||◌, pos, nat_lt, ◌==◌, ◌++◌, ◌⊎◌, inl, inr, not, option_to_list, unwrap_or, ℕ, zero, suc, Bool, true, false, List, [], ◌∷◌, Option, Some, None, Result, Ok, Err, length, drop, map, ap, refl, sym, subst, ok_or, if◌then◌else◌}
use Rattle.std.proofs.lemmas.List.{append-nil, drop-drop, length-drop}
use Rattle.std.proofs.lemmas.Bool.{false≢true, and_parts, or_right, eqb-true, ltb-true, ltb-false}
use Rattle.std.proofs.lemmas.Bool.Decides.{Decides-eqb, Decides-int_eq}
use Rattle.std.specs.Ordering.{int_eq}
use Rattle.std.specs.Option.{option_map, option_map_or, option_and_then}
use Rattle.std.specs.List.{enumerate_from, find}
use Rattle.std.specs.Prelude.{IsSome}
use Rattle.std.specs.Str.{bytes_eq}
use Rattle.tmpl_values.specs.Value.{Value, nothing, null, boolean, number, string, sequence, mapping, Items, no_item, item, Entries, no_entry, entry}
use Rattle.tmpl_values.specs.Field.{found, missing, entry_at}
use Rattle.tmpl_values.specs.Stage.{and_then}
use Rattle.tmpl_funcs.specs.Index.{element_at, indexed_by}
use Rattle.tmpl_funcs.specs.declared.fault.CallFault.{CallFault}
use Rattle.tmpl_funcs.specs.declared.fault.CallFault.TheVariants.{WrongKind}
use Rattle.std.specs.Result.{result_map_both}
use Rattle.tmpl_values.specs.Elements.{Element, elements_of_entries, values_of_items}
use Rattle.tmpl_values.specs.Item.{size_of}
use Rattle.tmpl_values.specs.Compare.{equality, is_nothing, order}
use Rattle.tmpl_values.specs.Truth.{truth}
use Rattle.tmpl_funcs.specs.Compare.{at_most, comparison_answer, equal_to_one}
use Rattle.tmpl_grammar.specs.Tree.{Operand, dot, fields, variable, nil, bool_constant, number_constant, text_constant, function, group, Operands, no_operand, operand, Pipeline, no_command, command}
use Rattle.tmpl_grammar.specs.Tree.{Binding, unbound, declare, assign, declare_pair}
use Rattle.tmpl_meaning.specs.Fault.{Cause, call_failed}
use Rattle.tmpl_meaning.specs.Pipeline.{Environment, Given, Place, chain, field_value, lookup, as_given, given_then, go_on, without_null, operand_value, command_value, commands_value}
use Rattle.tmpl_meaning.specs.Meaning.{assign_variable, bind, elements_visited}
use Rattle.tmpl_meaning.specs.declared.missing_key.MissingKey.{MissingKey}
use Rattle.tmpl_meaning.specs.declared.missing_key.MissingKey.TheVariants as mode
use Rattle.tmpl_shape.specs.Shape.{Fields, Shape, never, nothings, nulls, texts, list_of, record_of, either, named, HasShape, IsField, Names}
use Rattle.tmpl_shape.specs.declared.kind.Kind.TheVariants.{Blank, Number}
use Rattle.tmpl_shape.specs.computed.Formats.{printf_shape}
use Rattle.tmpl_shape.specs.computed.Means.{Means}
use Rattle.tmpl_shape.specs.computed.Shapes.{Base, Test, has_least, is_among, is_apart, least_of, lets_value, is_constant, is_named, is_same, within, both, any_field, fill, has_kind, join, keyed_shape, null_gone, refine, chain_shape, entry_shape, index_shape, index_shape_by}
use Rattle.tmpl_shape.specs.computed.Shapes.{Key, of_name, of_text, of_place, item_shape, part_shape, Visit, visit_of}
use Rattle.tmpl_shape.specs.computed.Calls.{call_shape, shape_by_function}
use Rattle.tmpl_schema.specs.computed.Check.{Fact, call_counts, call_fact, command_call, count_of, counts_in, first_fact, least_by, length_fact, mirror, more_than, one_of}
use Rattle.tmpl_schema.specs.computed.Check.{operand_counts, are_constants, is_nil_alone, equal_test, constant_test, pair_fact, compare_fact, turned_fact, piped_fact, tells, narrow_all, narrow_as, narrow_by, narrow_command, narrow_operand, narrow_to}
use Rattle.tmpl_schema.specs.computed.Check.{are_texts, bounds_of, sliced_shape, call_place, chain_place, index_place, texts_in, deciding_shape, passing_shape, passed, operand_shapes, junction_shape, commands_shape}
use Rattle.tmpl_schema.specs.computed.Check as check
use Rattle.tmpl_schema.specs.computed.Check.{Origin, Tie, keyed, key_tie, narrow_from, narrow_root, operand_origin, own_entry, path_of, tie_of, tie_within, pipeline_origin, pipeline_place, place_of, place_origin, refine_all, refine_from, rest_of, root_origin}
use Rattle.tmpl_schema.proofs.OriginLemmas.{HasOrigin, HasTie, IsAt, IsKeyOf, at-chain, at-gone, at-joined, at-rest, at-root, path-has, rest_of-is, tie_within-has, tied, ties-has}
use Rattle.tmpl_schema.specs.computed.Check.{Known, State, Variable, find_variable, assigned_shape, bound_shapes, refine_variable, all_within, is_split, join_all, join_ties, join_parts, join_to, last_of}
use Rattle.tmpl_schema.specs.computed.Check.{absent_field, after_both, entry_along, entry_by, operand_shape, indexed_shape, printed_shape, command_shape, pipeline_shape, narrow}
use Rattle.tmpl_shape.proofs.KindLemmas.{has_kind-has}
use Rattle.tmpl_shape.proofs.ShapeLemmas.{bytes-turned, same_name, within-has}
use Rattle.tmpl_schema.proofs.NullLemmas.{null_gone-has}
use Rattle.tmpl_schema.proofs.FormatLemmas.{printf-gives}
use Rattle.tmpl_schema.proofs.FieldLemmas.{Each, Ends, Gives, IsVisit, Passes, Shows, Visits, any-has, at-entry, both-give, join-has, entry-gives, chain-gives, fill-has, full-thing, only-there, refine-has, visit-gives}
use Rattle.tmpl_schema.proofs.PartLemmas.{item-at, part-gives, part_told}
use Rattle.tmpl_schema.proofs.CallLemmas.{HaveShapes, call-gives}
use Rattle.tmpl_funcs.specs.Func.{takes}
use Rattle.tmpl_funcs.specs.declared.func.Func.{Func}
use Rattle.tmpl_funcs.specs.declared.func.Func.TheVariants as func
use Rattle.tmpl_grammar.specs.Tree.{operand_count}
use Rattle.tmpl_meaning.specs.Pipeline.{apply_function, by_function, decides, junction, operand_values}
use Rattle.tmpl_meaning.proofs.PartLemmas.{by_count, decided}

-- ---- numbers of items

-- a value has as many items, and so it is there
pub above-zero : (n : ℕ) → not (suc n == 0) ≡ true
above-zero n = by (suc n == 0) refl
  where
    by : (b : Bool) → (suc n == 0) ≡ b → not b ≡ true
    by true e = let same : suc n ≡ 0 = (Decides-eqb (suc n) 0).0 e in cc
    by false e = refl

none-below : (n : ℕ) → suc n ≤ 0 → ⊥
none-below n h = omega arith

full-string : (s : List ℕ) (i l : ℕ) → size_of (string s) ≡ Some i → l ≤ i → lets_value (has_least l) (string s) ≡ true
full-string s i zero e h = refl
full-string [] i (suc l) e h = let same : 0 ≡ i = cc in absurd (none-below l (subst (λ n. suc l ≤ n) (sym same) h))
full-string (x ∷ xs) i (suc l) e h = rw (above-zero (length xs)) (or_right (suc l == 0) true refl)

sized-there : (u : Value) (i l : ℕ) → size_of u ≡ Some i → l ≤ i → Shows (has_least l) u
sized-there (string s) i l e h = (λ x. refl, full-string s i l e h)
sized-there (mapping es) i l e h = (λ x. refl, tt)
sized-there (sequence vs) i l e h = let same : length (values_of_items vs) ≡ i = cc in (λ x. refl, omega arith)
sized-there _ i l e h = cc

full-number : (i : ℕ) → truth (number (pos i)) ≡ true → 1 ≤ i
full-number zero t = absurd (false≢true t)
full-number (suc i) t = omega arith

abbrev compare_told : Func → Option Bool → Result Value Cause
compare_told f o = result_map_both (λ v. v) (call_failed f) (comparison_answer o)

equality-turned : (s : List ℕ) (w : Value) → equality (string s) w ≡ equality w (string s)
equality-turned s (string t) = ap Some (bytes-turned s t)
equality-turned s _ = refl

told-truth : (f : Func) (o : Option Bool) (v : Value) (b : Bool) → compare_told f o ≡ Ok v → truth v ≡ b → o ≡ Some b
told-truth f None v b e t = cc
told-truth f (Some c) v b e t = let same : boolean c ≡ v = cc in ap Some (ap truth same ∙ t)

one-equal : (o : Option Bool) → option_and_then (λ equal. if equal then Some true else Some false) o ≡ o
one-equal None = refl
one-equal (Some true) = refl
one-equal (Some false) = refl

opposite-of : (o : Option Bool) (b : Bool) → option_map not o ≡ Some b → o ≡ Some (not b)
opposite-of None b e = cc
opposite-of (Some true) b e = let same : false ≡ b = cc in ap (λ c. Some (not c)) same
opposite-of (Some false) b e = let same : true ≡ b = cc in ap (λ c. Some (not c)) same

abbrev whole : ℕ → Value
whole n = number (pos n)

-- what a comparison of two values gives
abbrev compared : Func → Value → Value → Result Value Cause
compared f v w = (apply_function f (v ∷ w ∷ [])).result

eq-told : (u w v : Value) (c : Bool) → compared func.Eq u w ≡ Ok v → truth v ≡ c → equality u w ≡ Some c
eq-told u w v c e t = sym (one-equal (equality u w)) ∙ told-truth func.Eq (equal_to_one u (w ∷ [])) v c e t

ne-told : (u w v : Value) (c : Bool) → compared func.Ne u w ≡ Ok v → truth v ≡ c → equality u w ≡ Some (not c)
ne-told u w v c e t = opposite-of (equality u w) c (told-truth func.Ne (option_map not (equality u w)) v c e t)

lt-told : (u w v : Value) (c : Bool) → compared func.Lt u w ≡ Ok v → truth v ≡ c → order u w ≡ Some c
lt-told u w v c e t = told-truth func.Lt (order u w) v c e t

ge-told : (u w v : Value) (c : Bool) → compared func.Ge u w ≡ Ok v → truth v ≡ c → order u w ≡ Some (not c)
ge-told u w v c e t = opposite-of (order u w) c (told-truth func.Ge (option_map not (order u w)) v c e t)

le-told : (u w v : Value) (c : Bool) → compared func.Le u w ≡ Ok v → truth v ≡ c → at_most u w ≡ Some c
le-told u w v c e t = told-truth func.Le (at_most u w) v c e t

gt-told : (u w v : Value) (c : Bool) → compared func.Gt u w ≡ Ok v → truth v ≡ c → at_most u w ≡ Some (not c)
gt-told u w v c e t = opposite-of (at_most u w) c (told-truth func.Gt (option_map not (at_most u w)) v c e t)

below-true : (i n : ℕ) → order (whole i) (whole n) ≡ Some true → i < n
below-true i n e = let is : nat_lt i n ≡ true = cc in ltb-true i n is

below-false : (i n : ℕ) → order (whole i) (whole n) ≡ Some false → n ≤ i
below-false i n e = let is : nat_lt i n ≡ false = cc in ltb-false i n is

same-true : (i n : ℕ) → equality (whole i) (whole n) ≡ Some true → i ≡ n
same-true i n e =
    let is : int_eq (pos i) (pos n) ≡ true = cc in
    let same : pos i ≡ pos n = (Decides-int_eq (pos i) (pos n)).0 is in cc

same-false : (i n : ℕ) → equality (whole i) (whole n) ≡ Some false → i ≡ n → ⊥
same-false i n e same =
    let is : int_eq (pos i) (pos n) ≡ false = cc in
    false≢true (sym is ∙ (Decides-int_eq (pos i) (pos n)).1 (ap pos same))

upto-true : (i n : ℕ) → at_most (whole i) (whole n) ≡ Some true → i ≤ n
upto-true i n e = by (nat_lt i n) refl (int_eq (pos i) (pos n)) refl e
  where
    by : (b : Bool) → nat_lt i n ≡ b → (c : Bool) → int_eq (pos i) (pos n) ≡ c → (if b then Some true else Some c) ≡ Some true → i ≤ n
    by true p c q e = let h = ltb-true i n p in omega arith
    by false p true q e = let h = same-true i n (ap Some q) in omega arith
    by false p false q e = cc

upto-false : (i n : ℕ) → at_most (whole i) (whole n) ≡ Some false → n < i
upto-false i n e = by (nat_lt i n) refl (int_eq (pos i) (pos n)) refl e
  where
    by : (b : Bool) → nat_lt i n ≡ b → (c : Bool) → int_eq (pos i) (pos n) ≡ c → (if b then Some true else Some c) ≡ Some false → n < i
    by true p c q e = cc
    by false p true q e = cc
    by false p false q e =
        let h = ltb-false i n p in
        let apart : i ≡ n → ⊥ = same-false i n (ap Some q) in omega (arith, apart)

more_than-least : (i n l : ℕ) → (i ≡ n → ⊥) → more_than n ≡ Some l → l ≤ i
more_than-least i n l apart is = by (n == 0) refl is
  where
    by : (b : Bool) → (n == 0) ≡ b → (if b then Some 1 else None) ≡ Some l → l ≤ i
    by true e told = let none : n ≡ 0 = eqb-true n 0 e in let one : 1 ≡ l = cc in omega (arith, apart)
    by false e told = cc

-- what a number of items, compared with a number, tells
counted-least : (f : Func) (c : Bool) (i n l : ℕ) (v : Value) → compared f (whole i) (whole n) ≡ Ok v → truth v ≡ c → least_by c f n ≡ Some l → l ≤ i
counted-least func.Eq true i n l v e t is = let same = same-true i n (eq-told (whole i) (whole n) v true e t) in let one : n ≡ l = cc in omega arith
counted-least func.Eq false i n l v e t is = more_than-least i n l (same-false i n (eq-told (whole i) (whole n) v false e t)) is
counted-least func.Ne true i n l v e t is = more_than-least i n l (same-false i n (ne-told (whole i) (whole n) v true e t)) is
counted-least func.Ne false i n l v e t is = let same = same-true i n (ne-told (whole i) (whole n) v false e t) in let one : n ≡ l = cc in omega arith
counted-least func.Lt false i n l v e t is = let h = below-false i n (lt-told (whole i) (whole n) v false e t) in let one : n ≡ l = cc in omega arith
counted-least func.Le false i n l v e t is = let h = upto-false i n (le-told (whole i) (whole n) v false e t) in let one : n + 1 ≡ l = cc in omega arith
counted-least func.Gt true i n l v e t is = let h = upto-false i n (gt-told (whole i) (whole n) v true e t) in let one : n + 1 ≡ l = cc in omega arith
counted-least func.Ge true i n l v e t is = let h = below-false i n (ge-told (whole i) (whole n) v true e t) in let one : n ≡ l = cc in omega arith
counted-least _ true i n l v e t is = cc
counted-least _ false i n l v e t is = cc

-- .. and a number, compared with it
mirror-least : (f : Func) (c : Bool) (i n l : ℕ) (v : Value) → compared f (whole n) (whole i) ≡ Ok v → truth v ≡ c → least_by c (mirror f) n ≡ Some l → l ≤ i
mirror-least func.Eq true i n l v e t is = let same = same-true n i (eq-told (whole n) (whole i) v true e t) in let one : n ≡ l = cc in omega arith
mirror-least func.Eq false i n l v e t is =
    let apart : n ≡ i → ⊥ = same-false n i (eq-told (whole n) (whole i) v false e t) in more_than-least i n l (λ same. apart (sym same)) is
mirror-least func.Ne true i n l v e t is =
    let apart : n ≡ i → ⊥ = same-false n i (ne-told (whole n) (whole i) v true e t) in more_than-least i n l (λ same. apart (sym same)) is
mirror-least func.Ne false i n l v e t is = let same = same-true n i (ne-told (whole n) (whole i) v false e t) in let one : n ≡ l = cc in omega arith
mirror-least func.Lt true i n l v e t is = let h = below-true n i (lt-told (whole n) (whole i) v true e t) in let one : n + 1 ≡ l = cc in omega arith
mirror-least func.Le true i n l v e t is = let h = upto-true n i (le-told (whole n) (whole i) v true e t) in let one : n ≡ l = cc in omega arith
mirror-least func.Gt false i n l v e t is = let h = upto-true n i (gt-told (whole n) (whole i) v false e t) in let one : n ≡ l = cc in omega arith
mirror-least func.Ge false i n l v e t is = let h = below-true n i (ge-told (whole n) (whole i) v false e t) in let one : n + 1 ≡ l = cc in omega arith
mirror-least _ true i n l v e t is = cc
mirror-least _ false i n l v e t is = cc

-- .. also where it is piped
piped-least : (f : Func) (c : Bool) (i n l : ℕ) (all both any : Given Value) (v : Value) → all.result ≡ compared f (whole n) (whole i)
    → (by_function f all both any).result ≡ Ok v → truth v ≡ c → least_by c (mirror f) n ≡ Some l → l ≤ i
piped-least func.And true i n l all both any v same e t is = cc
piped-least func.And false i n l all both any v same e t is = cc
piped-least func.Or true i n l all both any v same e t is = cc
piped-least func.Or false i n l all both any v same e t is = cc
piped-least f c i n l all both any v same e t is = mirror-least f c i n l v (sym same ∙ e) t is

module _ (base : Base) (N : Names) (means : Means base.defs N) (top : Value) where
  -- the variables have these names, shapes and origins
  abbrev pub HasKnown : Known → Environment → Type 0
  HasKnown [] [] = Unit {0}
  HasKnown (k ∷ ks) (v ∷ env) = (v.0 ≡ k.0) × HasShape N k.1 v.1 × HasKnown ks env × HasTie top k.2 v.1
  HasKnown ks env = ⊥

  pub known-length : (ks : Known) (env : Environment) → HasKnown ks env → length ks ≡ length env
  known-length [] [] h = refl
  known-length (k ∷ ks) (v ∷ env) h = ap suc (known-length ks env h.2)
  known-length _ _ h = absurd h

  drop-known : (n : ℕ) (ks : Known) (env : Environment) → HasKnown ks env → HasKnown (drop n ks) (drop n env)
  drop-known zero ks env h = h
  drop-known (suc n) [] [] h = tt
  drop-known (suc n) (k ∷ ks) (v ∷ env) h = drop-known n ks env h.2
  drop-known (suc n) _ _ h = absurd h

  pub last-known : (n : ℕ) (ks : Known) (env : Environment) → HasKnown ks env → HasKnown (last_of n ks) (last_of n env)
  last-known n ks env h =
      subst (λ (i : ℕ). HasKnown (drop (length ks - n) ks) (drop (i - n) env)) (known-length ks env h) (drop-known (length ks - n) ks env h)

  -- the last of the last
  pub last-last : {T : Type 0} → (m n : ℕ) (xs : List T) → m ≤ n → last_of m (last_of n xs) ≡ last_of m xs
  last-last m n xs h =
      let l = length-drop (length xs - n) xs in
      let e : (length xs - n) + (length (drop (length xs - n) xs) - m) ≡ length xs - m = omega arith in
      drop-drop (length (drop (length xs - n) xs) - m) (length xs - n) xs ∙ ap (λ i. drop i xs) e

  pub within-known : (a b : Known) (env : Environment) → all_within base a b ≡ true → HasKnown a env → HasKnown b env
  within-known [] [] env e h = h
  within-known (a ∷ more) (b ∷ bs) (v ∷ env) e h =
      let p = and_parts (bytes_eq a.0 b.0) (within base a.1 b.1 && (tie_within a.2 b.2 && all_within base more bs)) e in
      let q = and_parts (within base a.1 b.1) (tie_within a.2 b.2 && all_within base more bs) p.1 in
      let r = and_parts (tie_within a.2 b.2) (all_within base more bs) q.1 in (
        h.0 ∙ same_name a.0 b.0 p.0,
        (within-has base N means) a.1 b.1 v.1 q.0 h.1,
        within-known more bs env r.1 h.2,
        tie_within-has top a.2 b.2 v.1 r.0 h.3,
      )
  within-known (a ∷ more) (b ∷ bs) [] e h = absurd h
  within-known _ _ env e h = absurd (false≢true e)

  was_joined : (b : Bool) (j : Variable) (o : Option Known) (c : Known) → (if b then option_map (λ js. j ∷ js) o else None) ≡ Some c
      → (js : Known) × (b ≡ true) × (o ≡ Some js) × ((j ∷ js) ≡ c)
  was_joined true j (Some js) c e = (js, refl, refl, cc)
  was_joined true j None c e = cc
  was_joined false j o c e = cc

  -- what is known of one of two is known of both
  pub joined-has : (a b c : Known) (env : Environment) → join_all base a b ≡ Some c → HasKnown a env ⊎ HasKnown b env → HasKnown c env
  joined-has [] [] c env e h = let same : [] ≡ c = cc in subst (λ (y : Known). HasKnown y env) same (elim h [ inl x ↦ x | inr x ↦ x ])
  joined-has (k ∷ ks) (l ∷ ls) c [] e h = elim h [ inl x ↦ absurd x | inr x ↦ absurd x ]
  joined-has (k ∷ ks) (l ∷ ls) c (v ∷ env) e h =
      let p = was_joined (bytes_eq k.0 l.0) (k.0, join base k.1 l.1, join_ties k.2 l.2) (join_all base ks ls) c e in
      subst (λ (y : Known). HasKnown y (v ∷ env)) p.3 (elim h [
        | inl x ↦ (x.0, (join-has base N means) k.1 l.1 v.1 (inl x.1), joined-has ks ls p.0 env p.2 (inl x.2), ties-has top k.2 l.2 v.1 (inl x.3))
        | inr x ↦ (x.0 ∙ sym (same_name k.0 l.0 p.1), (join-has base N means) k.1 l.1 v.1 (inr x.1), joined-has ks ls p.0 env p.2 (inr x.2), ties-has top k.2 l.2 v.1 (inr x.3))
      ])
  joined-has _ _ c env e h = cc

  part-has : (r s t : Shape) (v : Value) → HasShape N s v ⊎ HasShape N t v → HasShape N (join_to base r s t) v
  part-has r s t v h = by (is_split base r s t) refl
    where
      among : (within base s r && within base t r) ≡ true → HasShape N r v
      among e =
          let p = and_parts (within base s r) (within base t r) e in
          elim h [
            | inl x ↦ (within-has base N means) s r v p.0 x
            | inr x ↦ (within-has base N means) t r v p.1 x
          ]

      by : (b : Bool) → is_split base r s t ≡ b → HasShape N (if b then r else join base s t) v
      by true e = among (and_parts (not (within base s t || within base t s)) (within base s r && within base t r) e).1
      by false e = (join-has base N means) s t v h

  parted-has : (rs a b c : Known) (env : Environment) → join_parts base rs a b ≡ Some c → HasKnown a env ⊎ HasKnown b env → HasKnown c env
  parted-has [] [] [] c env e h = let same : [] ≡ c = cc in subst (λ (y : Known). HasKnown y env) same (elim h [ inl x ↦ x | inr x ↦ x ])
  parted-has (r ∷ rs) (k ∷ ks) (l ∷ ls) c [] e h = elim h [ inl x ↦ absurd x | inr x ↦ absurd x ]
  parted-has (r ∷ rs) (k ∷ ks) (l ∷ ls) c (v ∷ env) e h =
      let p = was_joined (bytes_eq k.0 l.0) (k.0, join_to base r.1 k.1 l.1, join_ties k.2 l.2) (join_parts base rs ks ls) c e in
      subst (λ (y : Known). HasKnown y (v ∷ env)) p.3 (elim h [
        | inl x ↦ (x.0, part-has r.1 k.1 l.1 v.1 (inl x.1), parted-has rs ks ls p.0 env p.2 (inl x.2), ties-has top k.2 l.2 v.1 (inl x.3))
        | inr x ↦ (x.0 ∙ sym (same_name k.0 l.0 p.1), part-has r.1 k.1 l.1 v.1 (inr x.1), parted-has rs ks ls p.0 env p.2 (inr x.2), ties-has top k.2 l.2 v.1 (inr x.3))
      ])
  parted-has _ _ _ c env e h = cc

  -- after two parts the variables that were there before are known
  pub both-known : (rs a b c : Known) → after_both base rs a b ≡ Some c → (env : Environment)
      → HasKnown (last_of (length rs) a) env ⊎ HasKnown (last_of (length rs) b) env → HasKnown c env
  both-known rs a b c e env h = parted-has rs (last_of (length rs) a) (last_of (length rs) b) c env e h

  -- ---- variables

  -- a variable that is found has its value
  abbrev IsFound : Option Variable → Value → Type 0
  IsFound None v = Unit {0}
  IsFound (Some k) v = HasShape N k.1 v × HasTie top k.2 v

  found-has : (name : List ℕ) (ks : Known) (env : Environment) → HasKnown ks env → IsFound (find_variable name ks) (lookup name env)
  found-has name [] env h = tt
  found-has name (k ∷ ks) [] h = absurd h
  found-has name (k ∷ ks) (v ∷ env) h = rw h.0 (by (bytes_eq k.0 name) (found-has name ks env h.2))
    where
      by : (b : Bool) → IsFound (find_variable name ks) (lookup name env)
          → IsFound (if b then Some k else find_variable name ks) (option_map_or (λ v. v.1) (if b then Some (k.0, v.1) else find (λ v. bytes_eq v.0 name) env) nothing)
      by true more = (h.1, h.3)
      by false more = more

  assigned-known : (name : List ℕ) (s : Shape) (t : Tie) (x : Value) → HasShape N s x → HasTie top t x → (ks : Known) (env : Environment) → HasKnown ks env
      → HasKnown (assigned_shape name s t ks) (assign_variable name x env)
  assigned-known name s t x f i [] [] h = tt
  assigned-known name s t x f i (k ∷ ks) (v ∷ env) h = rw h.0 (by (bytes_eq k.0 name) (assigned-known name s t x f i ks env h.2))
    where
      by : (b : Bool) → HasKnown (assigned_shape name s t ks) (assign_variable name x env)
          → HasKnown (if b then (k.0, s, t) ∷ ks else k ∷ assigned_shape name s t ks) (if b then (k.0, x) ∷ env else (k.0, v.1) ∷ assign_variable name x env)
      by true more = (refl, f, h.2, i)
      by false more = (refl, h.1, more, h.3)
  assigned-known name s t x f i _ _ h = absurd h

  pub bound-known : (b : Binding) (k s : Shape) (over o : Origin) (e : Element) → HasShape N k e.0 → HasShape N s e.1 → HasTie top (key_tie over) e.0
      → HasOrigin top o e.1 → (ks : Known) (env : Environment) → HasKnown ks env → HasKnown (bound_shapes b k s over o ks) (bind b e env)
  bound-known unbound k s over o e f g j i ks env h = h
  bound-known (declare name) k s over o e f g j i ks env h = (refl, g, h, tied top o e.1 i)
  bound-known (assign name) k s over o e f g j i ks env h = assigned-known name s (tie_of o) e.1 g (tied top o e.1 i) ks env h
  bound-known (declare_pair key name) k s over o e f g j i ks env h = (refl, g, (refl, f, h, j), tied top o e.1 i)

  -- .. to a value that is no element
  pub value-known : (b : Binding) (s : Shape) (o : Origin) (v : Value) → HasShape N s v → HasOrigin top o v → (ks : Known) (env : Environment) → HasKnown ks env
      → HasKnown (bound_shapes b nothings s None o ks) (bind b (nothing, v) env)
  value-known b s o v g i ks env h = bound-known b nothings s None o (nothing, v) tt g tt i ks env h

  refine-known : (test : Test) (name : List ℕ) (ns : List (List ℕ)) (ks : Known) (env : Environment) → HasKnown ks env
      → Ends test ns (lookup name env) → HasKnown (refine_variable base test name ns ks) env
  refine-known test name ns [] [] h e = tt
  refine-known test name ns (k ∷ ks) (v ∷ env) h e = by (bytes_eq k.0 name) (rw h.0 at e) (refine-known test name ns ks env h.2)
    where
      by : (b : Bool) → Ends test ns (option_map_or (λ v. v.1) (if b then Some (k.0, v.1) else find (λ v. bytes_eq v.0 name) env) nothing)
          → (Ends test ns (lookup name env) → HasKnown (refine_variable base test name ns ks) env)
          → HasKnown (if b then (k.0, refine base test ns k.1, k.2) ∷ ks else k ∷ refine_variable base test name ns ks) (v ∷ env)
      by true y more = (h.0, (refine-has base N means) test k.1 ns v.1 h.1 y, h.2, h.3)
      by false y more = (h.0, h.1, more y, h.3)
  refine-known test name ns _ _ h e = absurd h

  -- what a test shows of what is at a place, it shows of the chain to it, and of what is left of the chain after a part of it
  at-ends : (test : Test) (ps : List (List ℕ)) (u x : Value) → IsAt ps u x → Shows test x → Ends test ps u
  at-ends test ps u x i t = (λ e. (x, i.1 (t.0 e) mode.Error, t.0 e), λ w e k. subst (Passes test) (sym (i.0 mode.Error w e k)) t.1)

  rest-ends : (test : Test) (ps ms : List (List ℕ)) (y : Value) → IsAt ps top y → Ends test (ps ++ ms) top → Ends test ms y
  rest-ends test ps ms y i t = (
    λ e. let x = t.0 e in (x.0, at-rest mode.Error ps ms top y x.0 i x.1 x.2, x.2),
    λ x e k. t.1 x ((at-joined ps ms top y x i (at-chain mode.Error ms y x e)).1 k mode.Error) k,
  )

  -- where a test shows what it does of a chain from the data of the template, so it does of what has its origin
  along-has : (test : Test) (ns : List (List ℕ)) → Ends test ns top → (o : Origin) (s : Shape) (y : Value) → HasShape N s y → HasOrigin top o y
      → HasShape N (refine_from base test ns o s) y
  along-has test ns t None s y h i = h
  along-has test ns t (Some ps) s y h i = by (rest_of ps ns) refl
    where
      by : (r : Option (List (List ℕ))) → rest_of ps ns ≡ r → HasShape N (option_map_or (λ ms. refine base test ms s) r s) y
      by None is = h
      by (Some ms) is =
          (refine-has base N means) test s ms y h (rest-ends test ps ms y i (subst (λ (qs : List (List ℕ)). Ends test qs top) (rest_of-is ps ns ms is) t))

  all-along : (test : Test) (ns : List (List ℕ)) → Ends test ns top → (ks : Known) (env : Environment) → HasKnown ks env → HasKnown (refine_all base test ns ks) env
  all-along test ns t [] [] h = tt
  all-along test ns t (k ∷ ks) (v ∷ env) h = (h.0, along-has test ns t (path_of k.2) k.1 v.1 h.1 (path-has top k.2 v.1 h.3), all-along test ns t ks env h.2, h.3)
  all-along test ns t _ _ h = absurd h

  -- ---- pipelines

  found-gives : (f : Shape → Option Shape) (g : Value → Result Value Cause) → ((s : Shape) (v : Value) → HasShape N s v → (Gives base N means) (f s) (g v))
      → (o : Option Variable) (v : Value) → IsFound o v → (Gives base N means) (option_and_then (λ k. f k.1) o) (g v)
  found-gives f g h None v i = tt
  found-gives f g h (Some k) v i = h k.1 v i.0

  go-gives : (f : Shape → Option Shape) (g : Value → Given Value) (o : Option Shape) (r : Result Value Cause) (b : Bool) → (Gives base N means) o r
      → ((s : Shape) (v : Value) → r ≡ Ok v → HasShape N s v → (Gives base N means) (f s) (g v).result) → (Gives base N means) (option_and_then f o) (go_on r b g).result
  go-gives f g None r b k h = tt
  go-gives f g (Some s) (Ok v) b k h = h s v refl k
  go-gives f g (Some s) (Err cause) b k h = absurd k

  -- .. and for values in a row
  abbrev GivesAll : Option (List Shape) → Result (List Value) Cause → Type 0
  GivesAll None r = Unit {0}
  GivesAll (Some ss) (Ok vs) = (HaveShapes base N means) ss vs
  GivesAll (Some ss) (Err cause) = ⊥

  more-give : (o : Option Shape) (r : Result Value Cause) (os : Option (List Shape)) (rs : Result (List Value) Cause) (a b : Bool) → (Gives base N means) o r → GivesAll os rs
      → GivesAll (option_and_then (λ s. option_map (λ ss. s ∷ ss) os) o) (go_on r a (λ v. go_on rs b (λ vs. as_given (Ok (v ∷ vs))))).result
  more-give None r os rs a b h g = tt
  more-give (Some s) (Ok v) None rs a b h g = tt
  more-give (Some s) (Ok v) (Some ss) (Ok vs) a b h g = (h, g)
  more-give (Some s) (Ok v) (Some ss) (Err cause) a b h g = absurd g
  more-give (Some s) (Err cause) os rs a b h g = absurd h

  -- what is piped, if anything is
  abbrev Piped : Option Shape → Option Value → Type 0
  Piped None None = Unit {0}
  Piped (Some s) (Some v) = HasShape N s v
  Piped o p = ⊥

  piped-or : (ps : Option Shape) (pv : Option Value) (s : Shape) (v : Value) → Piped ps pv → HasShape N s v → HasShape N (unwrap_or ps s) (unwrap_or pv v)
  piped-or None None s v p h = h
  piped-or (Some t) (Some w) s v p h = p
  piped-or _ _ s v p h = absurd p

  with-piped : (ps : Option Shape) (pv : Option Value) → Piped ps pv → (ss : List Shape) (vs : List Value) → (HaveShapes base N means) ss vs
      → (HaveShapes base N means) (ss ++ option_to_list ps) (vs ++ option_to_list pv)
  with-piped None None p [] [] h = tt
  with-piped (Some s) (Some v) p [] [] h = (p, tt)
  with-piped ps pv p (s ∷ ss) (v ∷ vs) h = (h.0, with-piped ps pv p ss vs h.1)
  with-piped _ _ p [] [] h = absurd p
  with-piped ps pv p _ _ h = absurd h

  piped-count : (ps : Option Shape) (pv : Option Value) → Piped ps pv → length (option_to_list pv) ≡ length (option_to_list ps)
  piped-count None None p = refl
  piped-count (Some s) (Some v) p = refl
  piped-count _ _ p = absurd p

  called-gives : (f : Func) (ps : Option Shape) (pv : Option Value) → Piped ps pv → (os : Option (List Shape)) (rs : Result (List Value) Cause) (b : Bool) → GivesAll os rs
      → (Gives base N means) (option_and_then (λ ss. call_shape base f (ss ++ option_to_list ps)) os) (go_on rs b (λ vs. apply_function f (vs ++ option_to_list pv))).result
  called-gives f ps pv p None rs b h = tt
  called-gives f ps pv p (Some ss) (Ok vs) b h = (call-gives base N means) f (ss ++ option_to_list ps) (vs ++ option_to_list pv) (with-piped ps pv p ss vs h)
  called-gives f ps pv p (Some ss) (Err cause) b h = absurd h

  by_function-gives : (f : Func) (a b c e q p : Option Shape) (x y z : Given Value) → (Gives base N means) a x.result → (Gives base N means) b y.result → (Gives base N means) c z.result
      → (f ≡ func.Index → (Gives base N means) e x.result) → (f ≡ func.Slice → (Gives base N means) q x.result) → (f ≡ func.Printf → (Gives base N means) p x.result)
      → (Gives base N means) (shape_by_function f a b c e q p) (by_function f x y z).result
  by_function-gives func.And a b c e q p x y z h i j k o l = i
  by_function-gives func.Or a b c e q p x y z h i j k o l = j
  by_function-gives func.Index a b c e q p x y z h i j k o l = k refl
  by_function-gives func.Slice a b c e q p x y z h i j k o l = o refl
  by_function-gives func.Printf a b c e q p x y z h i j k o l = l refl
  by_function-gives _ a b c e q p x y z h i j k o l = h

  -- ---- `index` by a key

  told-entry : (s : Option Shape) (n : List ℕ) (o : Option Value) → (Gives base N means) s (field_value mode.Zero n (option_map_or found o missing))
      → (Gives base N means) s (Ok (unwrap_or o null))
  told-entry s n None h = h
  told-entry s n (Some w) h = h

  abbrev told : Result Value CallFault → Result Value Cause
  told r = result_map_both (λ v. v) (call_failed func.Index) r

  -- the value of a key
  abbrev key_value : Key → List ℕ → Value
  key_value (of_name name) n = string name
  key_value of_text n = string n
  key_value (of_place i) n = number (pos i)

  -- of a map
  keyed-gives : (key : Key) (n : List ℕ) (fs : Fields) (es : Entries) → HasShape N (record_of fs) (mapping es)
      → (Gives base N means) (keyed_shape base key fs) (told (element_at (mapping es) (key_value key n)))
  keyed-gives (of_name name) n fs es h = told-entry (entry_shape base (absent_field mode.Zero) name fs) name (entry_at name es) ((entry-gives base N means) mode.Zero name fs es h.1 h.2)
  keyed-gives (of_place i) n fs es h = tt
  keyed-gives of_text n fs es h = by (entry_at n es) refl
    where
      by : (o : Option Value) → entry_at n es ≡ o → HasShape N (join base (any_field base fs) nulls) (unwrap_or o null)
      by None is = (join-has base N means) (any_field base fs) nulls null (inr tt)
      by (Some w) is =
          (join-has base N means) (any_field base fs) nulls w (inl ((any-has base N means) fs n w ((at-entry base N means) (IsField N fs) n w es is h.1)))

  -- of a list
  item-gives : (key : Key) (n : List ℕ) (least : ℕ) (s : Shape) (vs : Items) → HasShape N (list_of least s) (sequence vs)
      → (Gives base N means) (item_shape key least s) (told (element_at (sequence vs) (key_value key n)))
  item-gives (of_name name) n least s vs h = tt
  item-gives of_text n least s vs h = tt
  item-gives (of_place i) n least s vs h = by (nat_lt i least) refl
    where
      by : (c : Bool) → nat_lt i least ≡ c → (Gives base N means) (if c then Some s else None) (told (element_at (sequence vs) (number (pos i))))
      by true e = let less = ltb-true i least e in let at = item-at (HasShape N s) vs i h.1 (omega (arith, h.0)) in rw (at.1) at.2
      by false e = tt

  index-gives : (i : ℕ) (key : Key) (n : List ℕ) (s : Shape) (v : Value) → HasShape N s v
      → (Gives base N means) (index_shape_by base i key s) (told (element_at v (key_value key n)))
  index-gives zero key n s v h = tt
  index-gives (suc i) key n never v h = absurd h
  index-gives (suc i) key n (list_of least s) (sequence vs) h = item-gives key n least s vs h
  index-gives (suc i) key n (list_of least s) _ h = absurd h
  index-gives (suc i) key n (record_of fs) (mapping es) h = keyed-gives key n fs es h
  index-gives (suc i) key n (record_of fs) _ h = absurd h
  index-gives (suc i) key n (either s t) v h =
      (both-give base N means) (index_shape_by base i key s) (index_shape_by base i key t) (told (element_at v (key_value key n)))
      (elim h [ inl x ↦ inl (index-gives i key n s v x) | inr x ↦ inr (index-gives i key n t v x) ])
  index-gives (suc i) key n (named y) v h = by (base.defs y) refl (λ s. index-gives i key n s v)
    where
      by : (o : Option Shape) → base.defs y ≡ o
          → ((s : Shape) → HasShape N s v → (Gives base N means) (index_shape_by base i key s) (told (element_at v (key_value key n))))
          → (Gives base N means) (option_and_then (index_shape_by base i key) o) (told (element_at v (key_value key n)))
      by None is f = tt
      by (Some s) is f = f s (means.unfolds y s v is h)
  index-gives (suc i) key n _ v h = tt

  entry_by-gives : (key s : Shape) (w v : Value) → HasShape N key w → HasShape N s v → (Gives base N means) (entry_by base key s) (told (element_at v w))
  entry_by-gives key s w v g h = by (within base key texts) refl
    where
      text : (u : Value) → HasShape N texts u → (Gives base N means) (index_shape base of_text s) (told (element_at v u))
      text (string n) k = index-gives base.limit of_text n s v h
      text _ k = absurd k

      by : (c : Bool) → within base key texts ≡ c → (Gives base N means) (if c then index_shape base of_text s else None) (told (element_at v w))
      by true e = text w ((within-has base N means) key texts w e g)
      by false e = tt

  -- .. by one of its own keys, or by an index of a list
  list-at : (u : Visit) (vs : Items) (j i : ℕ) → (Each base N means) ((IsVisit base N means) u) (map (λ p. (number (pos p.0), p.1)) (enumerate_from j (values_of_items vs)))
      → i < length (values_of_items vs) → (Gives base N means) (Some u.element) (told (element_at (sequence vs) (number (pos i))))
  list-at u no_item j i h less = absurd (omega (arith, less))
  list-at u (item v vs) j zero h less = h.0.1
  list-at u (item v vs) j (suc i) h less = list-at u vs (j + 1) i h.1 (omega (arith, less))

  map-at : (u : Visit) (k : List ℕ) (es : Entries) → (Each base N means) ((IsVisit base N means) u) (elements_of_entries es) → IsSome (entry_at k es)
      → (Gives base N means) (Some u.element) (Ok (unwrap_or (entry_at k es) null))
  map-at u k no_entry h there = absurd (false≢true there)
  map-at u k (entry l v es) h there = by (bytes_eq l k) (map-at u k es h.1) there
    where
      by : (b : Bool) → (IsSome (entry_at k es) → (Gives base N means) (Some u.element) (Ok (unwrap_or (entry_at k es) null)))
          → IsSome (if b then Some v else entry_at k es) → (Gives base N means) (Some u.element) (Ok (unwrap_or (if b then Some v else entry_at k es) null))
      by true more there = h.0.1
      by false more there = more there

  own-gives : (s : Shape) (v w : Value) → HasShape N s v → (is_nothing v ≡ false → IsKeyOf v w) → (Gives base N means) (own_entry base s) (told (element_at v w))
  own-gives s v w h key = by (has_kind base Blank s) refl (has_kind base Number s) refl
    where
      visited : (o : Option Visit) → (Visits base N means) o (elements_visited unbound v) → has_kind base Blank s ≡ false → has_kind base Number s ≡ false
          → (Gives base N means) (option_map (λ u. u.element) o) (told (element_at v w))
      visited None seen blank count = tt
      visited (Some u) seen blank count = at v w h key seen
        where
          at : (v w : Value) → HasShape N s v → (is_nothing v ≡ false → IsKeyOf v w) → (Visits base N means) (Some u) (elements_visited unbound v)
              → (Gives base N means) (Some u.element) (told (element_at v w))
          at nothing w h key seen = absurd (false≢true (sym blank ∙ (has_kind-has base N means) s nothing h))
          at null w h key seen = absurd (false≢true (sym blank ∙ (has_kind-has base N means) s null h))
          at (number n) w h key seen = absurd (false≢true (sym count ∙ (has_kind-has base N means) s (number n) h))
          at (sequence vs) (number (pos i)) h key seen = list-at u vs 0 i seen (key refl)
          at (mapping es) (string k) h key seen = map-at u k es seen (key refl)
          at v w h key seen = absurd (key refl)

      by : (b : Bool) → has_kind base Blank s ≡ b → (c : Bool) → has_kind base Number s ≡ c
          → (Gives base N means) (if b || c then None else option_map (λ u. u.element) (visit_of base unbound s)) (told (element_at v w))
      by true e c f = tt
      by false e true f = tt
      by false e false f = visited (visit_of base unbound s) ((visit-gives base N means) unbound s v h) e f

  last-gives : (o : Option Shape) (r : Result Value CallFault) → (Gives base N means) o (told r) → (Gives base N means) o (told (and_then r (λ x. indexed_by x [])))
  last-gives None r h = tt
  last-gives (Some s) (Ok v) h = h
  last-gives (Some s) (Err e) h = h

  more-gives : (f : Shape → Option Shape) (g : Value → Result Value CallFault) (o : Option Shape) (r : Result Value CallFault) → (Gives base N means) o (told r)
      → ((s : Shape) (v : Value) → HasShape N s v → (Gives base N means) (f s) (told (g v))) → (Gives base N means) (option_and_then f o) (told (and_then r g))
  more-gives f g None r h k = tt
  more-gives f g (Some s) (Ok v) h k = k s v h
  more-gives f g (Some s) (Err e) h k = absurd h

  none-gives : (f : Shape → Option Shape) (c : Cause) (o : Option Shape) (r : Result Value CallFault) → (Gives base N means) o (told r)
      → ((s : Shape) (v : Value) → HasShape N s v → (Gives base N means) (f s) (Err c)) → (Gives base N means) (option_and_then f o) (Err c)
  none-gives f c None r h k = tt
  none-gives f c (Some s) (Ok v) h k = k s v h
  none-gives f c (Some s) (Err e) h k = absurd h

  -- what is found by the further keys, of which these are piped
  abbrev found_by : Result (List Value) Cause → Bool → List Value → Value → Result Value Cause
  found_by rs b ps v = (go_on rs b (λ vs. as_given (told (indexed_by v (vs ++ ps))))).result

  -- after a key
  key-gives : (f : Shape → Option Shape) (o : Option Shape) (rs : Result (List Value) Cause) (a b : Bool) (ps : List Value) (v w : Value)
      → (Gives base N means) o (told (element_at v w)) → ((s : Shape) (u : Value) → HasShape N s u → (Gives base N means) (f s) (found_by rs b ps u))
      → (Gives base N means) (option_and_then f o) (found_by (go_on rs a (λ vs. as_given (Ok (w ∷ vs)))).result b ps v)
  key-gives f o (Ok vs) a b ps v w h k = more-gives f (λ u. indexed_by u (vs ++ ps)) o (element_at v w) h k
  key-gives f o (Err c) a b ps v w h k = none-gives f c o (element_at v w) h k

  keys-give : (f : Shape → Option Shape) (g : Shape → Option Shape) (o : Option Shape) (x : Result Value Cause) (rs : Result (List Value) Cause) (a b c : Bool) (ps : List Value) (v : Value)
      → (Gives base N means) o x → ((key : Shape) (w : Value) → x ≡ Ok w → HasShape N key w → (Gives base N means) (g key) (told (element_at v w)))
      → ((s : Shape) (u : Value) → HasShape N s u → (Gives base N means) (f s) (found_by rs b ps u))
      → (Gives base N means) (option_and_then (λ key. option_and_then f (g key)) o) (found_by (go_on x c (λ w. go_on rs a (λ vs. as_given (Ok (w ∷ vs))))).result b ps v)
  keys-give f g None x rs a b c ps v h i k = tt
  keys-give f g (Some key) (Ok w) rs a b c ps v h i k = key-gives f (g key) rs a b ps v w (i key w refl h) k
  keys-give f g (Some key) (Err e) rs a b c ps v h i k = absurd h

  -- a value that is not nothing
  thing-gives : (f : Shape → Option Shape) (s : Shape) (v : Value) (rs : Result (List Value) Cause) (a b : Bool) (ps : List Value) → HasShape N s v
      → (Gives base N means) (f s) (found_by rs a ps v)
      → (Gives base N means) (if has_kind base Blank s then None else f s) (go_on (go_on rs b (λ vs. as_given (Ok (v ∷ vs)))).result a (λ us. apply_function func.Index (us ++ ps))).result
  thing-gives f s v rs a b ps h g = by (has_kind base Blank s) refl
    where
      thing : (w : Value) → has_kind base Blank s ≡ false → HasShape N s w → (vs : List Value) → told (indexed_by w (vs ++ ps)) ≡ (apply_function func.Index (w ∷ (vs ++ ps))).result
      thing nothing e k vs = absurd (false≢true (sym e ∙ (has_kind-has base N means) s nothing k))
      thing null e k vs = absurd (false≢true (sym e ∙ (has_kind-has base N means) s null k))
      thing _ e k vs = refl

      row : (rs : Result (List Value) Cause) → ((vs : List Value) → told (indexed_by v (vs ++ ps)) ≡ (apply_function func.Index (v ∷ (vs ++ ps))).result)
          → (Gives base N means) (f s) (found_by rs a ps v)
          → (Gives base N means) (f s) (go_on (go_on rs b (λ vs. as_given (Ok (v ∷ vs)))).result a (λ us. apply_function func.Index (us ++ ps))).result
      row (Ok vs) e k = subst (λ (r : Result Value Cause). (Gives base N means) (f s) r) (e vs) k
      row (Err c) e k = k

      by : (c : Bool) → has_kind base Blank s ≡ c
          → (Gives base N means) (if c then None else f s) (go_on (go_on rs b (λ vs. as_given (Ok (v ∷ vs)))).result a (λ us. apply_function func.Index (us ++ ps))).result
      by true e = tt
      by false e = row rs (thing v e h) g

  indexed-after : (f : Shape → Option Shape) (o : Option Shape) (x : Result Value Cause) (rs : Result (List Value) Cause) (a b c : Bool) (ps : List Value) → (Gives base N means) o x
      → ((s : Shape) (v : Value) → x ≡ Ok v → HasShape N s v → (Gives base N means) (f s) (found_by rs a ps v))
      → (Gives base N means) (option_and_then (λ s. if has_kind base Blank s then None else f s) o)
      (go_on (go_on x c (λ v. go_on rs b (λ vs. as_given (Ok (v ∷ vs))))).result a (λ us. apply_function func.Index (us ++ ps))).result
  indexed-after f None x rs a b c ps h k = tt
  indexed-after f (Some s) (Ok v) rs a b c ps h k = thing-gives f s v rs a b ps h (k s v refl h)
  indexed-after f (Some s) (Err e) rs a b c ps h k = absurd h

  printed-after : (format : List ℕ) (ps : Option Shape) (pv : Option Value) → Piped ps pv → (os : Option (List Shape)) (rs : Result (List Value) Cause) (a b : Bool) → GivesAll os rs
      → (Gives base N means) (option_and_then (λ ss. printf_shape base format (ss ++ option_to_list ps)) os)
      (go_on (go_on rs a (λ vs. as_given (Ok (string format ∷ vs)))).result b (λ us. apply_function func.Printf (us ++ option_to_list pv))).result
  printed-after format ps pv p None rs a b h = tt
  printed-after format ps pv p (Some ss) (Ok vs) a b h =
      (printf-gives base N means) format (ss ++ option_to_list ps) (vs ++ option_to_list pv) (with-piped ps pv p ss vs h)
  printed-after format ps pv p (Some ss) (Err c) a b h = absurd h

  by_count-gives : (f : Func) (t : Bool) (o : Option Shape) (g : Given Value) → (Gives base N means) o g.result → (Gives base N means) (if t then o else None) (by_count f t g).result
  by_count-gives f true o g h = h
  by_count-gives f false o g h = tt

  -- dot and the variables are as known
  abbrev pub Fits : State → Value → Environment → Type 0
  Fits k d env = HasShape N k.dot d × HasKnown k.env env × HasOrigin top k.from d

  abbrev pub place : MissingKey → Value → Environment → Place
  place m d env = record { missing_key = m; dot = d; env = env }

  -- ---- places

  -- the value from which a place goes on
  abbrev root_value : Value → Environment → Option (List ℕ) → Value
  root_value d env root = option_map_or (λ name. lookup name env) root d

  -- a value is at a place, but for nothing and null
  abbrev IsPlaced : Value → Environment → Option check.Place → Value → Type 0
  IsPlaced d env None v = Unit {0}
  IsPlaced d env (Some p) v = IsAt p.path (root_value d env p.root) v

  index-at : (n : List ℕ) (d v : Value) → element_at d (string n) ≡ Ok v → IsAt (n ∷ []) d v
  index-at n (mapping es) v e = at-chain mode.Zero (n ∷ []) (mapping es) v (by (entry_at n es) e)
    where
      by : (o : Option Value) → ◌≡◌ {A = Result Value CallFault} (Ok (unwrap_or o null)) (Ok v)
          → and_then (field_value mode.Zero n (option_map_or found o missing)) (chain mode.Zero []) ≡ Ok v
      by None e = let same : null ≡ v = cc in ap Ok same
      by (Some w) e = let same : w ≡ v = cc in ap Ok same
  index-at n _ v e = cc

  keys-at : (ns : List (List ℕ)) (d v : Value) → indexed_by d (map string ns) ≡ Ok v → IsAt ns d v
  keys-at [] d v e = let same : d ≡ v = cc in subst (λ (x : Value). IsAt [] d x) same (at-root d)
  keys-at (n ∷ ns) d v e = by (element_at d (string n)) refl e (λ w. keys-at ns w v)
    where
      by : (r : Result Value CallFault) → element_at d (string n) ≡ r → and_then r (λ w. indexed_by w (map string ns)) ≡ Ok v
          → ((w : Value) → indexed_by w (map string ns) ≡ Ok v → IsAt ns w v) → IsAt (n ∷ ns) d v
      by (Ok w) is e more = at-joined (n ∷ []) ns d w v (index-at n d w is) (more w e)
      by (Err fault) is e more = cc

  -- what an `index` of these operands gives
  abbrev index_value : MissingKey → Value → Environment → Operands → Result Value Cause
  index_value m d env os = (given_then (operand_values (place m d env) os) (λ vs. apply_function func.Index (vs ++ []))).result

  key-values : (m : MissingKey) (d : Value) (env : Environment) (os : Operands) → are_texts os ≡ true → (operand_values (place m d env) os).result ≡ Ok (map string (texts_in os))
  key-values m d env no_operand e = refl
  key-values m d env (operand (text_constant n) os) e = rw (key-values m d env os e) refl
  key-values m d env (operand _ os) e = absurd (false≢true e)

  -- a value and those that a function gets with it
  called-ok : (f : Func) (x : Result Value Cause) (rs : Result (List Value) Cause) (a b c : Bool) (v : Value)
      → (go_on (go_on x a (λ u. go_on rs b (λ vs. as_given (Ok (u ∷ vs))))).result c (λ vs. apply_function f (vs ++ []))).result ≡ Ok v
      → (u : Value) × (ws : List Value) × (x ≡ Ok u) × (rs ≡ Ok ws) × ((apply_function f (u ∷ ws)).result ≡ Ok v)
  called-ok f (Ok u) (Ok ws) a b c v e = (u, ws, refl, refl, subst (λ (js : List Value). (apply_function f (u ∷ js)).result ≡ Ok v) (append-nil ws) e)
  called-ok f (Ok u) (Err cause) a b c v e = cc
  called-ok f (Err cause) rs a b c v e = cc

  -- a value and its keys
  keys-ok : (x : Result Value Cause) (rs : Result (List Value) Cause) (a b c : Bool) (is : List Value) (v : Value) → rs ≡ Ok is
      → (go_on (go_on x a (λ u. go_on rs b (λ vs. as_given (Ok (u ∷ vs))))).result c (λ vs. apply_function func.Index (vs ++ []))).result ≡ Ok v
      → (u : Value) × (x ≡ Ok u) × (indexed_by u is ≡ Ok v)
  keys-ok x rs a b c is v same e =
      let g = called-ok func.Index x rs a b c v e in
      let keys : g.1 ≡ is = cc in (g.0, g.2, by g.0 (subst (λ (js : List Value). (apply_function func.Index (g.0 ∷ js)).result ≡ Ok v) keys g.4))
    where
      found-ok : (r : Result Value CallFault) → result_map_both (λ w. w) (call_failed func.Index) r ≡ Ok v → r ≡ Ok v
      found-ok (Ok w) e = let it : w ≡ v = cc in ap Ok it
      found-ok (Err fault) e = cc

      by : (w : Value) → (apply_function func.Index (w ∷ is)).result ≡ Ok v → indexed_by w is ≡ Ok v
      by nothing e = cc
      by null e = cc
      by w e = found-ok (indexed_by w is) e

  chain-placed : (m : MissingKey) (o : Operand) (ns : List (List ℕ)) (d : Value) (env : Environment) (u v : Value) → (operand_value (place m d env) o).result ≡ Ok u
      → IsAt ns u v → IsPlaced d env (chain_place o ns) v
  chain-placed m dot ns d env u v e i = let same : u ≡ d = cc in subst (λ (x : Value). IsAt ns x v) same i
  chain-placed m (fields names) ns d env u v e i = at-joined names ns d u v (at-chain m names d u e) i
  chain-placed m (variable name names) ns d env u v e i = at-joined names ns (lookup name env) u v (at-chain m names (lookup name env) u e) i
  chain-placed m _ ns d env u v e i = tt

  index-placed : (m : MissingKey) (os : Operands) (d : Value) (env : Environment) (v : Value) → index_value m d env os ≡ Ok v → IsPlaced d env (index_place os) v
  index-placed m no_operand d env v e = tt
  index-placed m (operand o os) d env v e = by (are_texts os) refl
    where
      by : (b : Bool) → are_texts os ≡ b → IsPlaced d env (if b then chain_place o (texts_in os) else None) v
      by false is = tt
      by true is =
          let x = operand_value (place m d env) o in
          let y = operand_values (place m d env) os in
          let g = keys-ok x.result y.result x.made_text y.made_text (operand_values (place m d env) (operand o os)).made_text (map string (texts_in os)) v
          (key-values m d env os is) e in
          chain-placed m o (texts_in os) d env g.0 v g.1 (keys-at (texts_in os) g.0 v g.2)

  by_count-ok : (f : Func) (t : Bool) (g : Given Value) (v : Value) → (by_count f t g).result ≡ Ok v → g.result ≡ Ok v
  by_count-ok f true g v e = e
  by_count-ok f false g v e = cc

  call-placed : (m : MissingKey) (f : Func) (os : Operands) (d : Value) (env : Environment) (v : Value)
      → (command_value (place m d env) (operand (function f) os) None).result ≡ Ok v → IsPlaced d env (call_place f os) v
  call-placed m func.Index os d env v e =
      index-placed m os d env v
      (by_count-ok func.Index (takes func.Index (operand_count os + 0)) (given_then (operand_values (place m d env) os) (λ vs. apply_function func.Index (vs ++ []))) v e)
  call-placed m _ os d env v e = tt

  gone-placed : (d : Value) (env : Environment) (o : Option check.Place) (v : Value) → IsPlaced d env o v → IsPlaced d env o (without_null v)
  gone-placed d env None v h = tt
  gone-placed d env (Some p) v h = at-gone p.path (root_value d env p.root) v h

  -- a command whose null is nothing
  without-ok : (r : Result Value Cause) (b : Bool) (v : Value) → (go_on r b (λ w. as_given (Ok (without_null w)))).result ≡ Ok v → (w : Value) × (r ≡ Ok w) × (without_null w ≡ v)
  without-ok (Ok w) b v e = (w, refl, cc)
  without-ok (Err cause) b v e = cc

  -- .. of a pipeline in parentheses
  inner-ok : (r : Result Value Cause) (b : Bool) (m : MissingKey) (v : Value) → (go_on r b (λ w. as_given (chain m [] w))).result ≡ Ok v → r ≡ Ok v
  inner-ok (Ok w) b m v e = e
  inner-ok (Err cause) b m v e = cc

  operand-placed : (m : MissingKey) (o : Operand) (d : Value) (env : Environment) (v : Value) → (operand_value (place m d env) o).result ≡ Ok v → IsPlaced d env (place_of o) v
  operand-placed m (group _ (_ ∷ _)) d env v e = tt
  operand-placed m (group (command (operand (function f) os) no_command) []) d env v e =
      let c = command_value (place m d env) (operand (function f) os) None in
      let p = commands_value (place m d env) (command (operand (function f) os) no_command) None in
      let g = without-ok c.result c.made_text v (inner-ok p.result p.made_text m v e) in
      subst (λ (x : Value). IsPlaced d env (call_place f os) x) g.2 (gone-placed d env (call_place f os) g.0 (call-placed m f os d env g.0 g.1))
  operand-placed m (group (command _ (command _ _)) []) d env v e = tt
  operand-placed m (group _ []) d env v e = tt
  operand-placed m o d env v e = chain-placed m o [] d env v v e (at-root v)

  pipeline-placed : (m : MissingKey) (p : Pipeline) (d : Value) (env : Environment) (v : Value) → (commands_value (place m d env) p None).result ≡ Ok v
      → IsPlaced d env (pipeline_place p) v
  pipeline-placed m (command (operand (function f) os) no_command) d env v e =
      let c = command_value (place m d env) (operand (function f) os) None in
      let g = without-ok c.result c.made_text v e in
      subst (λ (x : Value). IsPlaced d env (call_place f os) x) g.2 (gone-placed d env (call_place f os) g.0 (call-placed m f os d env g.0 g.1))
  pipeline-placed m (command (operand nil no_operand) no_command) d env v e = tt
  pipeline-placed m (command (operand o no_operand) no_command) d env v e =
      let c = operand_value (place m d env) o in
      let g = without-ok c.result c.made_text v e in
      subst (λ (x : Value). IsPlaced d env (place_of o) x) g.2 (gone-placed d env (place_of o) g.0 (operand-placed m o d env g.0 g.1))
  pipeline-placed m (command (operand _ (operand _ _)) no_command) d env v e = tt
  pipeline-placed m (command (operand _ _) (command _ _)) d env v e = tt
  pipeline-placed m _ d env v e = tt

  root-has : (k : State) (d : Value) (env : Environment) (root : Option (List ℕ)) → Fits k d env → HasOrigin top (root_origin k root) (root_value d env root)
  root-has k d env None h = h.2
  root-has k d env (Some name) h = by (find_variable name k.env) (found-has name k.env env h.1)
    where
      by : (o : Option Variable) → IsFound o (lookup name env) → HasOrigin top (option_and_then (λ v. path_of v.2) o) (lookup name env)
      by None i = tt
      by (Some v) i = path-has top v.2 (lookup name env) i.1

  place-has : (k : State) (d : Value) (env : Environment) (o : Option check.Place) (v : Value) → Fits k d env → IsPlaced d env o v
      → HasOrigin top (option_and_then (place_origin k) o) v
  place-has k d env None v h i = tt
  place-has k d env (Some p) v h i = by (root_origin k p.root) (root-has k d env p.root h)
    where
      by : (o : Origin) → HasOrigin top o (root_value d env p.root) → HasOrigin top (option_map (λ ps. ps ++ p.path) o) v
      by None g = tt
      by (Some ps) g = at-joined ps p.path top (root_value d env p.root) v g i

  operand-has : (m : MissingKey) (o : Operand) (k : State) (d : Value) (env : Environment) (v : Value) → Fits k d env → (operand_value (place m d env) o).result ≡ Ok v
      → HasOrigin top (operand_origin k o) v
  operand-has m o k d env v h e = place-has k d env (place_of o) v h (operand-placed m o d env v e)

  pub pipeline-has : (m : MissingKey) (p : Pipeline) (k : State) (d : Value) (env : Environment) (v : Value) → Fits k d env → (commands_value (place m d env) p None).result ≡ Ok v
      → HasOrigin top (pipeline_origin k p) v
  pipeline-has m p k d env v h e = place-has k d env (pipeline_place p) v h (pipeline-placed m p d env v e)

  root-fits : (test : Test) (p : check.Place) (k : State) (d : Value) (env : Environment) → Fits k d env → Ends test p.path (root_value d env p.root)
      → Fits (narrow_root base test p k) d env
  root-fits test p k d env h e = by p.root e
    where
      by : (root : Option (List ℕ)) → Ends test p.path (root_value d env root)
          → Fits (option_map_or (λ name. record k { env = refine_variable base test name p.path k.env }) root
          (record k { dot = refine base test p.path k.dot })) d env
      by None e = ((refine-has base N means) test k.dot p.path d h.0 e, h.1, h.2)
      by (Some name) e = (h.0, refine-known test name p.path k.env env h.1 e, h.2)

  -- where a test shows what it does of the value of a place, what is known then holds
  placed-fits : (test : Test) (o : Option check.Place) (k : State) (d : Value) (env : Environment) (v : Value) → Fits k d env → IsPlaced d env o v → Shows test v
      → Fits (narrow_to base test o k) d env
  placed-fits test None k d env v h i t = h
  placed-fits test (Some p) k d env v h i t = by (place_origin k p) (place-has k d env (Some p) v h i)
    where
      by : (o : Origin) → HasOrigin top o v → Fits (option_map_or (λ ns. narrow_from base test ns k) o (narrow_root base test p k)) d env
      by None g = root-fits test p k d env h (at-ends test p.path (root_value d env p.root) v i t)
      by (Some ns) g =
          let e = at-ends test ns top v g t in (
            along-has test ns e k.from k.dot d h.0 h.2,
            all-along test ns e k.env env h.1,
            h.2,
          )

  index-fits : (test : Test) (m : MissingKey) (os : Operands) (k : State) (d : Value) (env : Environment) (v : Value) → Fits k d env
      → index_value m d env os ≡ Ok v → Shows test v → Fits (narrow_to base test (index_place os) k) d env
  index-fits test m os k d env v h e t = placed-fits test (index_place os) k d env v h (index-placed m os d env v e) t

  narrow_by-fits : (test : Test) (m : MissingKey) (o : Operand) (k : State) (d : Value) (env : Environment) (v : Value) → Fits k d env
      → (operand_value (place m d env) o).result ≡ Ok v → Shows test v → Fits (narrow_by base test o k) d env
  narrow_by-fits test m o k d env v h e t = placed-fits test (place_of o) k d env v h (operand-placed m o d env v e) t

  -- ---- narrowing by comparisons

  equality-left : (w : Value) → (equality nothing w ≡ Some (is_nothing w)) × (equality null w ≡ Some (is_nothing w))
  equality-left nothing = (refl, refl)
  equality-left _ = (refl, refl)

  -- what equals a value that is neither nothing nor null is neither
  equal-thing : (v w : Value) → is_nothing w ≡ false → equality v w ≡ Some true → is_nothing v ≡ false
  equal-thing nothing w t e = let l = (equality-left w).0 in let same : is_nothing w ≡ true = cc in absurd (false≢true (sym t ∙ same))
  equal-thing null w t e = let l = (equality-left w).1 in let same : is_nothing w ≡ true = cc in absurd (false≢true (sym t ∙ same))
  equal-thing _ w t e = refl

  -- what differs from nothing is neither
  unequal-thing : (v : Value) → equality v nothing ≡ Some false → is_nothing v ≡ false
  unequal-thing nothing e = cc
  unequal-thing null e = cc
  unequal-thing _ e = refl

  not_same : (b c : Bool) → not b ≡ c → b ≡ not c
  not_same true c e = ap not e
  not_same false c e = ap not e

  truth-same : (v : Value) → truth (without_null v) ≡ truth v
  truth-same null = refl
  truth-same _ = refl

  gone-ok : (r : Result Value Cause) (b : Bool) (v : Value) → (go_on r b (λ w. as_given (Ok (without_null w)))).result ≡ Ok v
      → (w : Value) × (r ≡ Ok w) × (truth w ≡ truth v)
  gone-ok r b v e = let g = without-ok r b v e in (g.0, g.1, sym (truth-same g.0) ∙ ap truth g.2)

  -- two values that a function gets, and one
  two-ok : (f : Func) (x y : Result Value Cause) (a b c e : Bool) (v : Value)
      → (go_on (go_on x a (λ u. go_on (go_on y b (λ w. as_given (Ok (w ∷ [])))).result c (λ vs. as_given (Ok (u ∷ vs))))).result e (λ vs. apply_function f (vs ++ []))).result ≡ Ok v
      → (u : Value) × (w : Value) × (x ≡ Ok u) × (y ≡ Ok w) × (compared f u w ≡ Ok v)
  two-ok f (Ok u) (Ok w) a b c e v h = (u, w, refl, refl, h)
  two-ok f (Ok u) (Err cause) a b c e v h = cc
  two-ok f (Err cause) y a b c e v h = cc

  values-ok : (x : Result Value Cause) (rs : Result (List Value) Cause) (a b : Bool) (ws : List Value)
      → (go_on x a (λ v. go_on rs b (λ vs. as_given (Ok (v ∷ vs))))).result ≡ Ok ws → (w : Value) × (vs : List Value) × (x ≡ Ok w) × (rs ≡ Ok vs) × ((w ∷ vs) ≡ ws)
  values-ok (Ok w) (Ok vs) a b ws e = let same : (w ∷ vs) ≡ ws = cc in (w, vs, refl, refl, same)
  values-ok (Ok w) (Err cause) a b ws e = cc
  values-ok (Err cause) rs a b ws e = cc

  length-ok : (x : Result Value Cause) (a b : Bool) (v : Value) → (go_on (go_on x a (λ w. as_given (Ok (w ∷ [])))).result b (λ vs. apply_function func.Len (vs ++ []))).result ≡ Ok v
      → (i : ℕ) × (u : Value) × (x ≡ Ok u) × (size_of u ≡ Some i) × (whole i ≡ v)
  length-ok (Err cause) a b v e = cc
  length-ok (Ok u) a b v e = by (size_of u) refl e
    where
      by : (o : Option ℕ) → size_of u ≡ o → result_map_both (λ v. v) (call_failed func.Len) (ok_or (option_map (λ n. whole n) o) WrongKind) ≡ Ok v
          → (i : ℕ) × (w : Value) × (◌≡◌ {A = Result Value Cause} (Ok u) (Ok w)) × (size_of w ≡ Some i) × (whole i ≡ v)
      by None is e = cc
      by (Some i) is e = (i, u, refl, is, cc)

  -- what a constant or `nil` tells of what equals it or not
  tell-thing : (c : Bool) (m : MissingKey) (d : Value) (env : Environment) (p : Operand) (u w : Value) → tells c p ≡ true → (operand_value (place m d env) p).result ≡ Ok w
      → equality u w ≡ Some c → is_nothing u ≡ false
  tell-thing true m d env (bool_constant q) u w is e h =
      let same : w ≡ boolean q = cc in equal-thing u (boolean q) refl (subst (λ (x : Value). equality u x ≡ Some true) same h)
  tell-thing true m d env (number_constant q) u w is e h =
      let same : w ≡ number q = cc in equal-thing u (number q) refl (subst (λ (x : Value). equality u x ≡ Some true) same h)
  tell-thing true m d env (text_constant q) u w is e h =
      let same : w ≡ string q = cc in equal-thing u (string q) refl (subst (λ (x : Value). equality u x ≡ Some true) same h)
  tell-thing true m d env _ u w is e h = absurd (false≢true is)
  tell-thing false m d env nil u w is e h =
      let same : w ≡ nothing = cc in unequal-thing u (subst (λ (x : Value). equality u x ≡ Some false) same h)
  tell-thing false m d env _ u w is e h = absurd (false≢true is)

  not-ok : (x : Result Value Cause) (a b : Bool) (c : Bool) (v : Value)
      → (go_on (go_on x a (λ w. as_given (Ok (w ∷ [])))).result b (λ vs. apply_function func.Not (vs ++ []))).result ≡ Ok v → truth v ≡ c
      → (w : Value) × (x ≡ Ok w) × (truth w ≡ not c)
  not-ok (Err cause) a b c v e t = cc
  not-ok (Ok w) a b c v e t = let same : boolean (not (truth w)) ≡ v = cc in (w, refl, not_same (truth w) c (ap truth same ∙ t))

  two_commands-ok : (x : Result Value Cause) (a : Bool) (g : Value → Given Value) (v : Value)
      → (go_on x a (λ u. given_then (g u) (λ w. as_given (Ok (without_null w))))).result ≡ Ok v
      → (u : Value) × (w : Value) × (x ≡ Ok u) × ((g u).result ≡ Ok w) × (truth w ≡ truth v)
  two_commands-ok (Err cause) a g v e = cc
  two_commands-ok (Ok u) a g v e = let r = gone-ok (g u).result (g u).made_text v e in (u, r.0, refl, r.1, r.2)

  -- the value of an operand that counts is a number
  count-ok : (m : MissingKey) (d : Value) (env : Environment) (p : Operand) (n : ℕ) (w : Value) → count_of p ≡ Some n → (operand_value (place m d env) p).result ≡ Ok w → whole n ≡ w
  count-ok m d env (number_constant (pos i)) n w is e = let same : i ≡ n = cc in let it : whole i ≡ w = cc in ap whole (sym same) ∙ it
  count-ok m d env _ n w is e = cc

  module _ (m : MissingKey) (d : Value) (env : Environment) where
    -- the value is the length of that of the operand
    abbrev IsLength : Operand → Value → Type 0
    IsLength o v = (i : ℕ) × (u : Value) × ((operand_value (place m d env) o).result ≡ Ok u) × (size_of u ≡ Some i) × (whole i ≡ v)

    call-counts : (f : Func) (os : Operands) (o : Operand) (v : Value) → call_counts f os ≡ Some o
        → (command_value (place m d env) (operand (function f) os) None).result ≡ Ok v → IsLength o v
    call-counts func.Len (operand q no_operand) o v is e =
        let same : q ≡ o = cc in
        let x = operand_value (place m d env) q in
        subst (λ (p : Operand). IsLength p v) same (length-ok x.result x.made_text (operand_values (place m d env) (operand q no_operand)).made_text v
        (by_count-ok func.Len (takes func.Len (operand_count (operand q no_operand) + 0))
        (given_then (operand_values (place m d env) (operand q no_operand)) (λ vs. apply_function func.Len (vs ++ []))) v e))
    call-counts _ os o v is e = cc

    command-counts : (os : Operands) (o : Operand) (v : Value) → counts_in (command_call os) ≡ Some o → (command_value (place m d env) os None).result ≡ Ok v → IsLength o v
    command-counts (operand (function f) os) o v is e = call-counts f os o v is e
    command-counts _ o v is e = cc

    operand-counts : (q o : Operand) (v : Value) → operand_counts q ≡ Some o → (operand_value (place m d env) q).result ≡ Ok v → IsLength o v
    operand-counts (group _ (_ ∷ _)) o v is e = cc
    operand-counts (group (command os no_command) []) o v is e =
        let c = command_value (place m d env) os None in
        let p = commands_value (place m d env) (command os no_command) None in
        let g = without-ok c.result c.made_text v (inner-ok p.result p.made_text m v e) in
        let l = command-counts os o g.0 is g.1 in
        (l.0, l.1, l.2, l.3, ap without_null l.4 ∙ g.2)
    operand-counts _ o v is e = cc

    -- where a fact holds of the value of its operand
    abbrev Holds : Operand → Test → Type 0
    Holds o test = (u : Value) × ((operand_value (place m d env) o).result ≡ Ok u) × Shows test u

    held-fits : (o : Operand) (test : Test) (k : State) → Fits k d env → Holds o test → Fits (narrow_by base test o k) d env
    held-fits o test k h x = narrow_by-fits test m o k d env x.0 h x.1 x.2

    length_fact-fits : (c : Bool) (f : Func) (counted : Option Operand) (counting : Option ℕ) (k : State) → Fits k d env
        → ((o : Operand) (n l : ℕ) → counted ≡ Some o → counting ≡ Some n → least_by c f n ≡ Some l → Holds o (has_least l))
        → Fits (narrow_as base (length_fact c f counted counting) k) d env
    length_fact-fits c f None counting k h g = h
    length_fact-fits c f (Some o) None k h g = h
    length_fact-fits c f (Some o) (Some n) k h g = by (least_by c f n) refl
      where
        by : (r : Option ℕ) → least_by c f n ≡ r → Fits (narrow_as base (option_map (λ l. record { test = has_least l; about = o }) r) k) d env
        by None is = h
        by (Some l) is = held-fits o (has_least l) k h (g o n l refl refl is)

    first_fact-fits : (a b : Option Fact) (k : State) → Fits (narrow_as base a k) d env → Fits (narrow_as base b k) d env → Fits (narrow_as base (first_fact a b) k) d env
    first_fact-fits None b k h g = g
    first_fact-fits (Some a) b k h g = h

    -- a value of which it is tested which constant it is
    passes-value : (test : Test) (u : Value) → least_of test ≡ 0 → lets_value test u ≡ true → Passes test u
    passes-value test (sequence vs) e f = omega (arith, e)
    passes-value test (mapping es) e f = tt
    passes-value test nothing e f = tt
    passes-value test null e f = tt
    passes-value test _ e f = f

    -- what equals a constant is it, and what differs is not
    same-told : (u w x : Value) (b : Bool) → w ≡ x → equality u w ≡ Some b → is_same u x ≡ b
    same-told u w x b same h = rw (subst (λ (y : Value). equality u y ≡ Some b) same h) refl

    constant-first : (u : Value) (o : Operand) (os : Operands) (w : Value) → tells true o ≡ true → (operand_value (place m d env) o).result ≡ Ok w
        → equality u w ≡ Some true → is_constant u (operand o os) ≡ true
    constant-first u (text_constant s) os w is e h = let same : w ≡ string s = cc in rw (same-told u w (string s) true same h) refl
    constant-first u (bool_constant q) os w is e h = let same : w ≡ boolean q = cc in rw (same-told u w (boolean q) true same h) refl
    constant-first u (number_constant q) os w is e h = let same : w ≡ number q = cc in rw (same-told u w (number q) true same h) refl
    constant-first u _ os w is e h = absurd (false≢true is)

    constant-apart : (u : Value) (o : Operand) (os : Operands) (w : Value) → (operand_value (place m d env) o).result ≡ Ok w → equality u w ≡ Some false
        → is_constant u os ≡ false → is_constant u (operand o os) ≡ false
    constant-apart u (text_constant s) os w e h more = let same : w ≡ string s = cc in rw (same-told u w (string s) false same h) more
    constant-apart u (bool_constant q) os w e h more = let same : w ≡ boolean q = cc in rw (same-told u w (boolean q) false same h) more
    constant-apart u (number_constant q) os w e h more = let same : w ≡ number q = cc in rw (same-told u w (number q) false same h) more
    constant-apart u _ os w e h more = more

    among-shown : (os : Operands) (ws : List Value) (u : Value) → are_constants os ≡ true → (operand_values (place m d env) os).result ≡ Ok ws
        → equal_to_one u ws ≡ Some true → (is_nothing u ≡ false) × (is_constant u os ≡ true)
    among-shown no_operand ws u a e h = let same : ws ≡ [] = cc in absurd (by (subst (λ (xs : List Value). equal_to_one u xs ≡ Some true) same h))
      where
        by : equal_to_one u [] ≡ Some true → ⊥
        by e = cc
    among-shown (operand o os) ws u a e h =
        let p = and_parts (tells true o) (are_constants os) a in
        let x = operand_value (place m d env) o in
        let y = operand_values (place m d env) os in
        let g = values-ok x.result y.result x.made_text y.made_text ws e in
        by g.0 g.1 p.0 g.2 (equality u g.0) refl (subst (λ (xs : List Value). equal_to_one u xs ≡ Some true) (sym g.4) h)
        (λ i. among-shown os g.1 u p.1 g.3 i)
      where
        by : (w : Value) (vs : List Value) → tells true o ≡ true → (operand_value (place m d env) o).result ≡ Ok w → (r : Option Bool) → equality u w ≡ r
            → option_and_then (λ equal. if equal then Some true else equal_to_one u vs) r ≡ Some true
            → (equal_to_one u vs ≡ Some true → (is_nothing u ≡ false) × (is_constant u os ≡ true)) → (is_nothing u ≡ false) × (is_constant u (operand o os) ≡ true)
        by w vs is e None at i more = cc
        by w vs is e (Some true) at i more = (tell-thing true m d env o u w is e at, constant-first u o os w is e at)
        by w vs is e (Some false) at i more = let r = more i in (r.0, rw r.1 (or_right (is_named u o) true refl))

    apart-shown : (os : Operands) (ws : List Value) (u : Value) → (operand_values (place m d env) os).result ≡ Ok ws → equal_to_one u ws ≡ Some false
        → is_constant u os ≡ false
    apart-shown no_operand ws u e h = refl
    apart-shown (operand o os) ws u e h =
        let x = operand_value (place m d env) o in
        let y = operand_values (place m d env) os in
        let g = values-ok x.result y.result x.made_text y.made_text ws e in
        by g.0 g.1 g.2 (equality u g.0) refl (subst (λ (xs : List Value). equal_to_one u xs ≡ Some false) (sym g.4) h)
        (λ i. apart-shown os g.1 u g.3 i)
      where
        by : (w : Value) (vs : List Value) → (operand_value (place m d env) o).result ≡ Ok w → (r : Option Bool) → equality u w ≡ r
            → option_and_then (λ equal. if equal then Some true else equal_to_one u vs) r ≡ Some false
            → (equal_to_one u vs ≡ Some false → is_constant u os ≡ false) → is_constant u (operand o os) ≡ false
        by w vs e None at i more = cc
        by w vs e (Some true) at i more = cc
        by w vs e (Some false) at i more = constant-apart u o os w e at (more i)

    nil-alone : (os : Operands) → is_nil_alone os ≡ true → os ≡ operand nil no_operand
    nil-alone (operand _ (operand _ _)) e = absurd (false≢true e)
    nil-alone (operand nil no_operand) e = refl
    nil-alone _ e = absurd (false≢true e)

    equal-one : (u w : Value) (vs : List Value) → equal_to_one u (w ∷ vs) ≡ Some false → equality u w ≡ Some false
    equal-one u w vs e = by (equality u w) e
      where
        by : (r : Option Bool) → option_and_then (λ equal. if equal then Some true else equal_to_one u vs) r ≡ Some false → r ≡ Some false
        by None e = cc
        by (Some true) e = cc
        by (Some false) e = refl

    equal_test-shown : (c : Bool) (os : Operands) (ws : List Value) (u : Value) (test : Test) → (operand_values (place m d env) os).result ≡ Ok ws
        → equal_to_one u ws ≡ Some c → equal_test c os ≡ Some test → Shows test u
    equal_test-shown true os ws u test e h is = by (are_constants os) refl is
      where
        by : (b : Bool) → are_constants os ≡ b → (if b then Some (is_among os) else None) ≡ Some test → Shows test u
        by false a is = cc
        by true a is =
            let same : is_among os ≡ test = cc in
            let r = among-shown os ws u a e h in subst (λ (x : Test). Shows x u) same (λ y. r.0, passes-value (is_among os) u refl r.1)
    equal_test-shown false os ws u test e h is = by (is_nil_alone os) refl is
      where
        by : (b : Bool) → is_nil_alone os ≡ b → (if b then Some (has_least 0) else Some (is_apart os)) ≡ Some test → Shows test u
        by true a is =
            let same : has_least 0 ≡ test = cc in
            let it = nil-alone os a in
            let given : ◌≡◌ {A = Result (List Value) Cause} (Ok (nothing ∷ [])) (Ok ws) = subst (λ (q : Operands). (operand_values (place m d env) q).result ≡ Ok ws) it e in
            let values : (nothing ∷ []) ≡ ws = cc in
            subst (λ (x : Test). Shows x u) same
            (only-there u (unequal-thing u (equal-one u nothing [] (subst (λ (xs : List Value). equal_to_one u xs ≡ Some false) (sym values) h))))
        by false a is =
            let same : is_apart os ≡ test = cc in
            subst (λ (x : Test). Shows x u) same (
              λ y. absurd (false≢true y),
              passes-value (is_apart os) u refl (ap not (apart-shown os ws u e h)),
            )

    constant_test-shown : (c : Bool) (f : Func) (os : Operands) (u : Value) (ws : List Value) (v : Value) (test : Test) → (operand_values (place m d env) os).result ≡ Ok ws
        → (apply_function f (u ∷ ws)).result ≡ Ok v → truth v ≡ c → constant_test c f os ≡ Some test → Shows test u
    constant_test-shown c func.Eq os u [] v test e h t is = cc
    constant_test-shown c func.Eq os u (w ∷ ws) v test e h t is =
        equal_test-shown c os (w ∷ ws) u test e (told-truth func.Eq (equal_to_one u (w ∷ ws)) v c h t) is
    constant_test-shown c func.Ne os u [] v test e h t is = cc
    constant_test-shown c func.Ne os u (w ∷ []) v test e h t is =
        equal_test-shown (not c) os (w ∷ []) u test e (one-equal (equality u w) ∙ ne-told u w v c h t) is
    constant_test-shown c func.Ne os u (w ∷ x ∷ ws) v test e h t is = cc
    constant_test-shown c _ os u ws v test e h t is = cc

    -- what a call of these operands gives
    abbrev call_value : Func → Operands → Result Value Cause
    call_value f os = (given_then (operand_values (place m d env) os) (λ vs. apply_function f (vs ++ []))).result

    first-counts : (c : Bool) (f : Func) (o p q : Operand) (n l : ℕ) (u w v : Value) → (operand_value (place m d env) o).result ≡ Ok u → (operand_value (place m d env) p).result ≡ Ok w
        → compared f u w ≡ Ok v → truth v ≡ c → operand_counts o ≡ Some q → count_of p ≡ Some n → least_by c f n ≡ Some l → Holds q (has_least l)
    first-counts c f o p q n l u w v x y e t counts counting is =
        let g = operand-counts o q u counts x in
        let same = count-ok m d env p n w counting y in
        let told : compared f (whole g.0) (whole n) ≡ Ok v = rw (g.4, same) e in
        (g.1, g.2, sized-there g.1 g.0 l g.3 (counted-least f c g.0 n l v told t is))

    second-counts : (c : Bool) (f : Func) (o p q : Operand) (n l : ℕ) (u w v : Value) → (operand_value (place m d env) o).result ≡ Ok u → (operand_value (place m d env) p).result ≡ Ok w
        → compared f u w ≡ Ok v → truth v ≡ c → operand_counts p ≡ Some q → count_of o ≡ Some n → least_by c (mirror f) n ≡ Some l → Holds q (has_least l)
    second-counts c f o p q n l u w v x y e t counts counting is =
        let g = operand-counts p q w counts y in
        let same = count-ok m d env o n u counting x in
        let told : compared f (whole n) (whole g.0) ≡ Ok v = rw (same, g.4) e in
        (g.1, g.2, sized-there g.1 g.0 l g.3 (mirror-least f c g.0 n l v told t is))

    pair_fact-fits : (c : Bool) (f : Func) (o p : Operand) (k : State) (v : Value) → Fits k d env → call_value f (operand o (operand p no_operand)) ≡ Ok v → truth v ≡ c
        → Fits (narrow_as base (pair_fact c f o p) k) d env
    pair_fact-fits c f o p k v h e t =
        let x = operand_value (place m d env) o in
        let y = operand_value (place m d env) p in
        let g = two-ok f x.result y.result x.made_text y.made_text (operand_values (place m d env) (operand p no_operand)).made_text
        (operand_values (place m d env) (operand o (operand p no_operand))).made_text v e in
        first_fact-fits (length_fact c f (operand_counts o) (count_of p)) (length_fact c (mirror f) (operand_counts p) (count_of o)) k
        (length_fact-fits c f (operand_counts o) (count_of p) k h (λ q n l counts counting is. first-counts c f o p q n l g.0 g.1 v g.2 g.3 g.4 t counts counting is))
        (length_fact-fits c (mirror f) (operand_counts p) (count_of o) k h (λ q n l counts counting is. second-counts c f o p q n l g.0 g.1 v g.2 g.3 g.4 t counts counting is))

    pairs-fit : (c : Bool) (f : Func) (o : Operand) (os : Operands) (k : State) (v : Value) → Fits k d env → call_value f (operand o os) ≡ Ok v → truth v ≡ c
        → Fits (narrow_as base (option_and_then (pair_fact c f o) (one_of os)) k) d env
    pairs-fit c f o (operand p no_operand) k v h e t = pair_fact-fits c f o p k v h e t
    pairs-fit c f o _ k v h e t = h

    turned-told : (c : Bool) (f : Func) (s : List ℕ) (w v : Value) (test : Test) → compared f (string s) w ≡ Ok v
        → constant_test c f (operand (text_constant s) no_operand) ≡ Some test → compared f w (string s) ≡ Ok v
    turned-told c func.Eq s w v test e is = rw (← equality-turned s w) e
    turned-told c func.Ne s w v test e is = rw (← equality-turned s w) e
    turned-told c _ s w v test e is = cc

    turned_fact-fits : (c : Bool) (f : Func) (o : Operand) (os : Operands) (k : State) (v : Value) → Fits k d env → call_value f (operand o os) ≡ Ok v → truth v ≡ c
        → Fits (narrow_as base (turned_fact c f o os) k) d env
    turned_fact-fits c f (text_constant s) (operand p no_operand) k v h e t = by (constant_test c f (operand (text_constant s) no_operand)) refl
      where
        by : (r : Option Test) → constant_test c f (operand (text_constant s) no_operand) ≡ r
            → Fits (narrow_as base (option_map (λ test. record { test = test; about = p }) r) k) d env
        by None is = h
        by (Some test) is =
            let x = operand_value (place m d env) (text_constant s) in
            let y = operand_value (place m d env) p in
            let g = two-ok f x.result y.result x.made_text y.made_text (operand_values (place m d env) (operand p no_operand)).made_text
            (operand_values (place m d env) (operand (text_constant s) (operand p no_operand))).made_text v e in
            let same : string s ≡ g.0 = cc in
            let told : compared f (string s) g.1 ≡ Ok v = subst (λ (u : Value). compared f u g.1 ≡ Ok v) (sym same) g.4 in
            held-fits p test k h
            (g.1, g.3, constant_test-shown c f (operand (text_constant s) no_operand) g.1 (string s ∷ []) v test refl (turned-told c f s g.1 v test told is) t is)
    turned_fact-fits c f o (operand p no_operand) k v h e t = h
    turned_fact-fits c f o (operand p (operand q os)) k v h e t = h
    turned_fact-fits c f o no_operand k v h e t = h

    compare_fact-fits : (c : Bool) (f : Func) (o : Operand) (os : Operands) (k : State) (v : Value) → Fits k d env → call_value f (operand o os) ≡ Ok v → truth v ≡ c
        → Fits (narrow_as base (compare_fact c f o os) k) d env
    compare_fact-fits c f o os k v h e t =
        let pairs = option_and_then (pair_fact c f o) (one_of os) in
        let constants : Option Fact = option_map (λ test. record { test = test; about = o }) (constant_test c f os) in
        first_fact-fits (turned_fact c f o os) (first_fact pairs constants) k (turned_fact-fits c f o os k v h e t)
        (first_fact-fits pairs constants k (pairs-fit c f o os k v h e t) (by (constant_test c f os) refl))
      where
        by : (r : Option Test) → constant_test c f os ≡ r → Fits (narrow_as base (option_map (λ test. record { test = test; about = o }) r) k) d env
        by None is = h
        by (Some test) is =
            let x = operand_value (place m d env) o in
            let y = operand_values (place m d env) os in
            let g = called-ok f x.result y.result x.made_text y.made_text (operand_values (place m d env) (operand o os)).made_text v e in
            held-fits o test k h (g.0, g.2, constant_test-shown c f os g.0 g.1 v test g.3 g.4 t is)

    full_length-fits : (o : Operand) (k : State) (v : Value) → Fits k d env → call_value func.Len (operand o no_operand) ≡ Ok v → truth v ≡ true → Fits (narrow_by base (has_least 1) o k) d env
    full_length-fits o k v h e t =
        let x = operand_value (place m d env) o in
        let g = length-ok x.result x.made_text (operand_values (place m d env) (operand o no_operand)).made_text v e in
        held-fits o (has_least 1) k h (g.1, g.2, sized-there g.1 g.0 1 g.3 (full-number g.0 (ap truth g.4 ∙ t)))

    call_fact-fits : (f : Func) (c : Bool) (os : Operands) (k : State) (v : Value) → Fits k d env → call_value f os ≡ Ok v → truth v ≡ c
        → Fits (narrow_as base (call_fact c f os) k) d env
    call_fact-fits func.Len true (operand o no_operand) k v h e t = full_length-fits o k v h e t
    call_fact-fits func.Len c os k v h e t = h
    call_fact-fits f c (operand o os) k v h e t = compare_fact-fits c f o os k v h e t
    call_fact-fits f c no_operand k v h e t = h

    -- a call to which the value of a command is piped
    abbrev piped_value : Operands → Value → Given Value
    piped_value us u = command_value (place m d env) us (Some (without_null u))

    piped-counts : (c : Bool) (os : Operands) (f : Func) (p o : Operand) (n l : ℕ) (u v : Value) → (command_value (place m d env) os None).result ≡ Ok u
        → (piped_value (operand (function f) (operand p no_operand)) u).result ≡ Ok v → truth v ≡ c
        → counts_in (command_call os) ≡ Some o → count_of p ≡ Some n → least_by c (mirror f) n ≡ Some l → Holds o (has_least l)
    piped-counts c os f (number_constant (pos j)) o n l u v x e t counts counting is =
        let g = command-counts os o u counts x in
        let same : j ≡ n = cc in
        let p : Operand = number_constant (pos j) in
        let all = given_then (operand_values (place m d env) (operand p no_operand)) (λ vs. apply_function f (vs ++ (without_null u ∷ []))) in
        let both = junction false (place m d env) nothing (operand p no_operand) (Some (without_null u)) in
        let any = junction true (place m d env) nothing (operand p no_operand) (Some (without_null u)) in
        let told = by_count-ok f (takes f (operand_count (operand p no_operand) + 1)) (by_function f all both any) v e in
        let it : without_null u ≡ whole g.0 = sym (ap without_null g.4) in
        let gives : all.result ≡ compared f (whole j) (whole g.0) = ap (λ (w : Value). compared f (whole j) w) it in
        (g.1, g.2, sized-there g.1 g.0 l g.3 (piped-least f c g.0 j l all both any v gives told t (ap (least_by c (mirror f)) same ∙ is)))
    piped-counts c os f _ o n l u v x e t counts counting is = cc

    piped_fact-fits : (c : Bool) (os us : Operands) (k : State) (u v : Value) → Fits k d env → (command_value (place m d env) os None).result ≡ Ok u
        → (piped_value us u).result ≡ Ok v → truth v ≡ c → Fits (narrow_as base (piped_fact c (counts_in (command_call os)) (command_call us)) k) d env
    piped_fact-fits c os (operand (function f) (operand p no_operand)) k u v h x e t =
        length_fact-fits c (mirror f) (counts_in (command_call os)) (count_of p) k h
        (λ o n l counts counting is. piped-counts c os f p o n l u v x e t counts counting is)
    piped_fact-fits c os (operand (function f) no_operand) k u v h x e t = length_fact-fits c (mirror f) (counts_in (command_call os)) None k h (λ o n l counts counting is. cc)
    piped_fact-fits c os (operand (function f) (operand _ (operand _ _))) k u v h x e t = length_fact-fits c (mirror f) (counts_in (command_call os)) None k h (λ o n l counts counting is. cc)
    piped_fact-fits c os _ k u v h x e t = h

    -- an operand of an `and` that is not empty is not empty, and one of an `or` that is empty is
    each-step : (c : Bool) (r : Result Value Cause) (b : Bool) (more : Value → Given Value) (v : Value)
        → (go_on r b (λ w. decided (decides (not c) w) w (more w))).result ≡ Ok v → truth v ≡ c → (w : Value) × (r ≡ Ok w) × (truth w ≡ c) × ((more w).result ≡ Ok v)
    each-step c (Err cause) b more v e t = cc
    each-step true (Ok w) b more v e t = by (truth w) refl e
      where
        by : (c : Bool) → truth w ≡ c → (decided (not c) w (more w)).result ≡ Ok v → (u : Value) × (◌≡◌ {A = Result Value Cause} (Ok w) (Ok u)) × (truth u ≡ true) × ((more u).result ≡ Ok v)
        by true is e = (w, refl, is, e)
        by false is e = let same : w ≡ v = cc in absurd (false≢true (sym is ∙ (ap truth same ∙ t)))
    each-step false (Ok w) b more v e t = by (truth w) refl e
      where
        by : (c : Bool) → truth w ≡ c → (decided c w (more w)).result ≡ Ok v → (u : Value) × (◌≡◌ {A = Result Value Cause} (Ok w) (Ok u)) × (truth u ≡ false) × ((more u).result ≡ Ok v)
        by false is e = (w, refl, is, e)
        by true is e = let same : w ≡ v = cc in absurd (false≢true (sym t ∙ (ap truth (sym same) ∙ is)))

    mutual
      -- where a value is not empty, or else is, what is known then holds
      operand-narrows : (o : Operand) (c : Bool) (k : State) (v : Value) → Fits k d env → (operand_value (place m d env) o).result ≡ Ok v → truth v ≡ c
          → Fits (narrow_operand base c o k) d env
      operand-narrows (group p []) c k v h e t =
          let r = commands_value (place m d env) p None in pipeline-narrows p c k v h (inner-ok r.result r.made_text m v e) t
      operand-narrows (group p (n ∷ ns)) c k v h e t = h
      operand-narrows o true k v h e t = narrow_by-fits (has_least 1) m o k d env v h e (full-thing v t)
      operand-narrows o false k v h e t = h

      all-narrow : (os : Operands) (c : Bool) (k : State) (last v : Value) → Fits k d env → (junction (not c) (place m d env) last os None).result ≡ Ok v → truth v ≡ c
          → Fits (narrow_all base c os k) d env
      all-narrow no_operand c k last v h e t = h
      all-narrow (operand o os) c k last v h e t =
          let x = operand_value (place m d env) o in
          let g = each-step c x.result x.made_text (λ w. junction (not c) (place m d env) w os None) v e t in
          all-narrow os c (narrow_operand base c o k) g.0 v (operand-narrows o c k g.0 h g.1 g.2) g.3 t

      command-narrows : (os : Operands) (c : Bool) (k : State) (v : Value) → Fits k d env → (command_value (place m d env) os None).result ≡ Ok v → truth v ≡ c
          → Fits (narrow_command base c os k) d env
      command-narrows (operand (function func.And) os) true k v h e t =
          all-narrow os true k nothing v h (by_count-ok func.And (takes func.And (operand_count os + 0)) (junction false (place m d env) nothing os None) v e) t
      command-narrows (operand (function func.And) os) false k v h e t = h
      command-narrows (operand (function func.Or) os) true k v h e t = h
      command-narrows (operand (function func.Or) os) false k v h e t =
          all-narrow os false k nothing v h (by_count-ok func.Or (takes func.Or (operand_count os + 0)) (junction true (place m d env) nothing os None) v e) t
      command-narrows (operand (function func.Not) (operand o no_operand)) c k v h e t =
          let x = operand_value (place m d env) o in
          let vs = operand_values (place m d env) (operand o no_operand) in
          let g = not-ok x.result x.made_text vs.made_text c v
          (by_count-ok func.Not (takes func.Not (operand_count (operand o no_operand) + 0)) (given_then vs (λ ws. apply_function func.Not (ws ++ []))) v e) t in
          operand-narrows o (not c) k g.0 h g.1 g.2
      command-narrows (operand (function func.Not) no_operand) c k v h e t = h
      command-narrows (operand (function func.Not) (operand _ (operand _ _))) c k v h e t = h
      command-narrows (operand (function func.Index) os) true k v h e t =
          index-fits (has_least 1) m os k d env v h (by_count-ok func.Index (takes func.Index (operand_count os + 0))
          (given_then (operand_values (place m d env) os) (λ vs. apply_function func.Index (vs ++ []))) v e) (full-thing v t)
      command-narrows (operand (function func.Index) os) false k v h e t = h
      command-narrows (operand (function f) os) c k v h e t =
          call_fact-fits f c os k v h (by_count-ok f (takes f (operand_count os + 0)) (given_then (operand_values (place m d env) os) (λ vs. apply_function f (vs ++ []))) v e) t
      command-narrows (operand nil no_operand) c k v h e t = cc
      command-narrows (operand o no_operand) c k v h e t = operand-narrows o c k v h e t
      command-narrows _ c k v h e t = h

      pipeline-narrows : (p : Pipeline) (c : Bool) (k : State) (v : Value) → Fits k d env → (commands_value (place m d env) p None).result ≡ Ok v → truth v ≡ c
          → Fits (narrow base c p k) d env
      pipeline-narrows (command os no_command) c k v h e t =
          let r = command_value (place m d env) os None in
          let g = gone-ok r.result r.made_text v e in command-narrows os c k g.0 h g.1 (g.2 ∙ t)
      pipeline-narrows (command os (command us no_command)) c k v h e t =
          let r = command_value (place m d env) os None in
          let g = two_commands-ok r.result r.made_text (piped_value us) v e in
          piped_fact-fits c os us k g.0 g.1 h g.2 g.3 (g.4 ∙ t)
      pipeline-narrows _ c k v h e t = h

  -- ---- `slice`

  -- a value and the bounds that are written out
  bound-values : (m : MissingKey) (d : Value) (env : Environment) (os : Operands) (b : ℕ × Option ℕ) → bounds_of None os ≡ Some b → (v : Value) (c : Bool)
      → (go_on (go_on (operand_values (place m d env) os).result (operand_values (place m d env) os).made_text (λ vs. as_given (Ok (v ∷ vs)))).result c
      (λ vs. apply_function func.Slice (vs ++ []))).result ≡ part_told base N means b.0 b.1 v
  bound-values m d env no_operand b e v c = let same : (0, None) ≡ b = cc in subst (λ (x : ℕ × Option ℕ). part_told base N means 0 None v ≡ part_told base N means x.0 x.1 v) same refl
  bound-values m d env (operand (number_constant (pos i)) no_operand) b e v c =
      let same : (i, None) ≡ b = cc in subst (λ (x : ℕ × Option ℕ). part_told base N means i None v ≡ part_told base N means x.0 x.1 v) same refl
  bound-values m d env (operand (number_constant (pos i)) (operand (number_constant (pos j)) no_operand)) b e v c =
      let same : (i, Some j) ≡ b = cc in subst (λ (x : ℕ × Option ℕ). part_told base N means i (Some j) v ≡ part_told base N means x.0 x.1 v) same refl
  bound-values m d env (operand (number_constant (pos i)) (operand _ no_operand)) b e v c = cc
  bound-values m d env (operand _ no_operand) b e v c = cc
  bound-values m d env (operand _ (operand _ no_operand)) b e v c = cc
  bound-values m d env (operand _ (operand _ (operand _ _))) b e v c = cc

  sliced-after : (m : MissingKey) (d : Value) (env : Environment) (os : Operands) (ps : Option Shape) (pv : Option Value) → Piped ps pv → (o : Option Shape) (x : Result Value Cause)
      (a c : Bool) → (Gives base N means) o x
      → (Gives base N means) (option_and_then (λ s. option_and_then (λ b. part_shape base b.0 b.1 s) (bounds_of ps os)) o)
      (go_on (go_on x a (λ v. given_then (operand_values (place m d env) os) (λ vs. as_given (Ok (v ∷ vs))))).result c
      (λ vs. apply_function func.Slice (vs ++ option_to_list pv))).result
  sliced-after m d env os ps pv p None x a c h = tt
  sliced-after m d env os ps pv p (Some s) (Err e) a c h = absurd h
  sliced-after m d env os (Some t) pv p (Some s) (Ok v) a c h = tt
  sliced-after m d env os None (Some w) p (Some s) (Ok v) a c h = absurd p
  sliced-after m d env os None None p (Some s) (Ok v) a c h = by (bounds_of None os) refl
    where
      r : Result Value Cause
      r = (go_on (go_on (operand_values (place m d env) os).result (operand_values (place m d env) os).made_text (λ vs. as_given (Ok (v ∷ vs)))).result c
          (λ vs. apply_function func.Slice (vs ++ []))).result

      by : (o : Option (ℕ × Option ℕ)) → bounds_of None os ≡ o → (Gives base N means) (option_and_then (λ b. part_shape base b.0 b.1 s) o) r
      by None e = tt
      by (Some b) e =
          subst (λ (q : Result Value Cause). (Gives base N means) (part_shape base b.0 b.1 s) q) (sym (bound-values m d env os b e v c))
          ((part-gives base N means) b.0 b.1 s v h)

  module _ (m : MissingKey) (d : Value) (env : Environment) where
    -- the entry of a variable that is one of the keys of what is indexed
    at-gives : (name : List ℕ) (k : State) (from : Origin) (key s : Shape) (w v : Value) → Fits k d env → (operand_value (place m d env) (variable name [])).result ≡ Ok w
        → HasShape N key w → HasShape N s v → HasOrigin top from v → (Gives base N means) (check.entry_at base k (variable name []) from key s) (told (element_at v w))
    at-gives name k None key s w v fits e g h i = entry_by-gives key s w v g h
    at-gives name k (Some ps) key s w v fits e g h i = by (find_variable name k.env) (found-has name k.env env fits.1)
      where
        here : lookup name env ≡ w
        here = cc

        by : (o : Option Variable) → IsFound o (lookup name env)
            → (Gives base N means) (if option_map_or (λ u. tie_within u.2 (keyed ps)) o false then own_entry base s else entry_by base key s) (told (element_at v w))
        by None t = entry_by-gives key s w v g h
        by (Some u) t = same (tie_within u.2 (keyed ps)) refl
          where
            same : (b : Bool) → tie_within u.2 (keyed ps) ≡ b → (Gives base N means) (if b then own_entry base s else entry_by base key s) (told (element_at v w))
            same false is = entry_by-gives key s w v g h
            same true is =
                own-gives s v w h (λ there. subst (λ (x : Value). IsKeyOf v x) here (tie_within-has top u.2 (keyed ps) (lookup name env) is t.1 v i there))

    junction-step : (is_or : Bool) (o : Operand) (os : Operands) (k : State) (ps : Option Shape) (pv : Option Value) → Fits k d env
        → ((u : State) (s : Shape) (v : Value) → Fits u d env → HasShape N s v → (Gives base N means) (junction_shape base is_or m u s os ps) (junction is_or (place m d env) v os pv).result)
        → (s : Shape) (v : Value) → (operand_value (place m d env) o).result ≡ Ok v → HasShape N s v
        → (Gives base N means) (both base (Some (deciding_shape base is_or s)) (junction_shape base is_or m (passed base is_or o k) (passing_shape base is_or s) os ps))
        (decided (decides is_or v) v (junction is_or (place m d env) v os pv)).result
    junction-step true o os k ps pv fits more s v e h = by (truth v) refl
      where
        by : (b : Bool) → truth v ≡ b → (Gives base N means) (both base (Some (fill base s)) (junction_shape base true m (narrow_operand base false o k) s os ps)) (decided b v (junction true (place m d env) v os pv)).result
        by true t = (both-give base N means) (Some (fill base s)) (junction_shape base true m (narrow_operand base false o k) s os ps) (Ok v) (inl ((fill-has base N means) s v h t))
        by false t =
            (both-give base N means) (Some (fill base s)) (junction_shape base true m (narrow_operand base false o k) s os ps) (junction true (place m d env) v os pv).result
            (inr (more (narrow_operand base false o k) s v (operand-narrows m d env o false k v fits e t) h))
    junction-step false o os k ps pv fits more s v e h = by (truth v) refl
      where
        by : (b : Bool) → truth v ≡ b → (Gives base N means) (both base (Some s) (junction_shape base false m (narrow_operand base true o k) (fill base s) os ps))
            (decided (not b) v (junction false (place m d env) v os pv)).result
        by false t = (both-give base N means) (Some s) (junction_shape base false m (narrow_operand base true o k) (fill base s) os ps) (Ok v) (inl h)
        by true t =
            (both-give base N means) (Some s) (junction_shape base false m (narrow_operand base true o k) (fill base s) os ps) (junction false (place m d env) v os pv).result
            (inr (more (narrow_operand base true o k) (fill base s) v (operand-narrows m d env o true k v fits e t) ((fill-has base N means) s v h t)))

    mutual
      operand-gives : (o : Operand) (k : State) → Fits k d env → (Gives base N means) (operand_shape base m k o) (operand_value (place m d env) o).result
      operand-gives dot k fits = fits.0
      operand-gives (fields names) k fits = (chain-gives base N means) m names k.dot d fits.0
      operand-gives (variable name names) k fits =
          found-gives (chain_shape base (absent_field m) names) (chain m names) ((chain-gives base N means) m names) (find_variable name k.env) (lookup name env) (found-has name k.env env fits.1)
      operand-gives (group p names) k fits =
          go-gives (chain_shape base (absent_field m) names) (λ v. as_given (chain m names v)) (commands_shape base m k p None) (commands_value (place m d env) p None).result
          (commands_value (place m d env) p None).made_text (commands-give p k None None fits tt) (λ s v e. (chain-gives base N means) m names s v)
      operand-gives (bool_constant c) k fits = refl
      operand-gives (text_constant []) k fits = refl
      operand-gives (text_constant (b ∷ bs)) k fits = tt
      operand-gives (function f) k fits = by_count-gives f (takes f 0) (call_shape base f []) (apply_function f []) ((call-gives base N means) f [] [] tt)
      operand-gives _ k fits = tt

      operands-give : (os : Operands) (k : State) → Fits k d env → GivesAll (operand_shapes base m k os) (operand_values (place m d env) os).result
      operands-give no_operand k fits = tt
      operands-give (operand o os) k fits =
          more-give (operand_shape base m k o) (operand_value (place m d env) o).result (operand_shapes base m k os) (operand_values (place m d env) os).result
          (operand_value (place m d env) o).made_text (operand_values (place m d env) os).made_text (operand-gives o k fits) (operands-give os k fits)

      junction-gives : (os : Operands) (is_or : Bool) (ps : Option Shape) (pv : Option Value) → Piped ps pv → (k : State) (s : Shape) (v : Value) → Fits k d env → HasShape N s v
          → (Gives base N means) (junction_shape base is_or m k s os ps) (junction is_or (place m d env) v os pv).result
      junction-gives no_operand is_or ps pv p k s v fits h = piped-or ps pv s v p h
      junction-gives (operand o os) is_or ps pv p k s v fits h =
          go-gives _ _ (operand_shape base m k o) (operand_value (place m d env) o).result (operand_value (place m d env) o).made_text (operand-gives o k fits)
          (junction-step is_or o os k ps pv fits (junction-gives os is_or ps pv p))

      along-gives : (os : Operands) (k : State) (ps : Option Shape) (pv : Option Value) (b : Bool) → Fits k d env → Piped ps pv → (from : Origin) (s : Shape) (v : Value)
          → HasShape N s v → HasOrigin top from v
          → (Gives base N means) (entry_along base m k os ps from s) (found_by (operand_values (place m d env) os).result b (option_to_list pv) v)
      along-gives no_operand k None None b fits p from s v h i = h
      along-gives no_operand k (Some key) (Some w) b fits p from s v h i = last-gives (entry_by base key s) (element_at v w) (entry_by-gives key s w v p h)
      along-gives no_operand k None (Some w) b fits p from s v h i = absurd p
      along-gives no_operand k (Some key) None b fits p from s v h i = absurd p
      along-gives (operand (text_constant n) os) k ps pv b fits p from s v h i =
          key-gives (entry_along base m k os ps None) (index_shape base (of_name n) s) (operand_values (place m d env) os).result (operand_values (place m d env) os).made_text b
          (option_to_list pv) v (string n) (index-gives base.limit (of_name n) n s v h) (λ t u g. along-gives os k ps pv b fits p None t u g tt)
      along-gives (operand (number_constant (pos i)) os) k ps pv b fits p from s v h j =
          key-gives (entry_along base m k os ps None) (index_shape base (of_place i) s) (operand_values (place m d env) os).result (operand_values (place m d env) os).made_text b
          (option_to_list pv) v (number (pos i)) (index-gives base.limit (of_place i) [] s v h) (λ t u g. along-gives os k ps pv b fits p None t u g tt)
      along-gives (operand (variable name []) os) k ps pv b fits p from s v h i =
          keys-give (entry_along base m k os ps None) (λ key. check.entry_at base k (variable name []) from key s) (operand_shape base m k (variable name []))
          (operand_value (place m d env) (variable name [])).result (operand_values (place m d env) os).result (operand_values (place m d env) os).made_text b
          (operand_value (place m d env) (variable name [])).made_text (option_to_list pv) v
          (operand-gives (variable name []) k fits) (λ key w e g. at-gives name k from key s w v fits e g h i) (λ t u g. along-gives os k ps pv b fits p None t u g tt)
      along-gives (operand o os) k ps pv b fits p from s v h i =
          keys-give (entry_along base m k os ps None) (λ key. entry_by base key s) (operand_shape base m k o) (operand_value (place m d env) o).result
          (operand_values (place m d env) os).result (operand_values (place m d env) os).made_text b (operand_value (place m d env) o).made_text (option_to_list pv) v
          (operand-gives o k fits) (λ key w e g. entry_by-gives key s w v g h) (λ t u g. along-gives os k ps pv b fits p None t u g tt)

      indexed-gives : (os : Operands) (k : State) (ps : Option Shape) (pv : Option Value) → Fits k d env → Piped ps pv
          → (Gives base N means) (indexed_shape base m k os ps) (given_then (operand_values (place m d env) os) (λ vs. apply_function func.Index (vs ++ option_to_list pv))).result
      indexed-gives no_operand k ps pv fits p = tt
      indexed-gives (operand o os) k ps pv fits p =
          indexed-after (entry_along base m k os ps (operand_origin k o)) (operand_shape base m k o) (operand_value (place m d env) o).result (operand_values (place m d env) os).result
          (operand_values (place m d env) (operand o os)).made_text (operand_values (place m d env) os).made_text (operand_value (place m d env) o).made_text (option_to_list pv)
          (operand-gives o k fits) (λ s v e h. along-gives os k ps pv _ fits p (operand_origin k o) s v h (operand-has m o k d env v fits e))

      sliced-gives : (os : Operands) (k : State) (ps : Option Shape) (pv : Option Value) → Fits k d env → Piped ps pv
          → (Gives base N means) (sliced_shape base m k os ps) (given_then (operand_values (place m d env) os) (λ vs. apply_function func.Slice (vs ++ option_to_list pv))).result
      sliced-gives no_operand k ps pv fits p = tt
      sliced-gives (operand o os) k ps pv fits p =
          sliced-after m d env os ps pv p (operand_shape base m k o) (operand_value (place m d env) o).result (operand_value (place m d env) o).made_text
          (operand_values (place m d env) (operand o os)).made_text (operand-gives o k fits)

      printed-gives : (os : Operands) (k : State) (ps : Option Shape) (pv : Option Value) → Fits k d env → Piped ps pv
          → (Gives base N means) (printed_shape base m k os ps) (given_then (operand_values (place m d env) os) (λ vs. apply_function func.Printf (vs ++ option_to_list pv))).result
      printed-gives no_operand k ps pv fits p = tt
      printed-gives (operand (text_constant format) os) k ps pv fits p =
          printed-after format ps pv p (operand_shapes base m k os) (operand_values (place m d env) os).result (operand_values (place m d env) os).made_text
          (operand_values (place m d env) (operand (text_constant format) os)).made_text (operands-give os k fits)
      printed-gives (operand _ os) k ps pv fits p = tt

      command-gives : (os : Operands) (k : State) (ps : Option Shape) (pv : Option Value) → Fits k d env → Piped ps pv
          → (Gives base N means) (command_shape base m k os ps) (command_value (place m d env) os pv).result
      command-gives (operand (function f) os) k ps pv fits p =
          rw (piped-count ps pv p) (by_count-gives f (takes f (operand_count os + length (option_to_list ps))) _ _
          (by_function-gives f _ _ _ _ _ _ _ _ _
          (called-gives f ps pv p (operand_shapes base m k os) (operand_values (place m d env) os).result (operand_values (place m d env) os).made_text (operands-give os k fits))
          (junction-gives os false ps pv p k nothings nothing fits tt) (junction-gives os true ps pv p k nothings nothing fits tt)
          (λ e. subst (λ (g : Func). (Gives base N means) (indexed_shape base m k os ps) (given_then (operand_values (place m d env) os) (λ vs. apply_function g (vs ++ option_to_list pv))).result)
          (sym e) (indexed-gives os k ps pv fits p))
          (λ e. subst (λ (g : Func). (Gives base N means) (sliced_shape base m k os ps) (given_then (operand_values (place m d env) os) (λ vs. apply_function g (vs ++ option_to_list pv))).result)
          (sym e) (sliced-gives os k ps pv fits p))
          (λ e. subst (λ (g : Func). (Gives base N means) (printed_shape base m k os ps) (given_then (operand_values (place m d env) os) (λ vs. apply_function g (vs ++ option_to_list pv))).result)
          (sym e) (printed-gives os k ps pv fits p))))
      command-gives (operand nil _) k ps pv fits p = tt
      command-gives (operand o no_operand) k None None fits p = operand-gives o k fits
      command-gives _ k None (Some v) fits p = absurd p
      command-gives _ k (Some s) None fits p = absurd p
      command-gives _ k _ _ fits p = tt

      commands-give : (cs : Pipeline) (k : State) (ps : Option Shape) (pv : Option Value) → Fits k d env → Piped ps pv
          → (Gives base N means) (commands_shape base m k cs ps) (commands_value (place m d env) cs pv).result
      commands-give no_command k ps pv fits p = piped-or ps pv nothings nothing p tt
      commands-give (command os cs) k ps pv fits p =
          go-gives _ _ (command_shape base m k os ps) (command_value (place m d env) os pv).result (command_value (place m d env) os pv).made_text (command-gives os k ps pv fits p)
          (λ s v e h. commands-give cs k (Some (null_gone base s)) (Some (without_null v)) fits ((null_gone-has base N means) s v h))

  pub pipeline-gives : (m : MissingKey) (k : State) (d : Value) (env : Environment) → Fits k d env → (p : Pipeline)
      → (Gives base N means) (pipeline_shape base m k p) (commands_value (place m d env) p None).result
  pipeline-gives m k d env fits p = commands-give m d env p k None None fits tt

  -- ---- narrowing

  -- where the value of a pipeline is not empty, or else is, what is known then holds
  pub narrow-fits : (c : Bool) (m : MissingKey) (p : Pipeline) (k : State) (d : Value) (env : Environment) (v : Value) → Fits k d env
      → (commands_value (place m d env) p None).result ≡ Ok v → truth v ≡ c → Fits (narrow base c p k) d env
  narrow-fits c m p k d env v h e t = pipeline-narrows m d env p c k v h e t
