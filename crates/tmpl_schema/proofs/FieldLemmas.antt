-- For the law `runs_safely`: fields and elements of values have the shapes that are computed, and a narrowed shape is the value's.
use Rattle.std.proofs.Common.{arith, ◌≡◌, ◌∙◌, ◌+◌, ◌≤◌, ◌||◌, ◌⊎◌, length, ℕ, zero, suc, pos, Bool, true, false, List, [], ◌∷◌, map, Option, Some, None, IsSome, Result, Ok, Err, inl, inr, ap, refl, sym, subst, if◌then◌else◌}
use Rattle.std.proofs.Math.Nat.{max-le}
use Rattle.std.proofs.lemmas.Bool.{false≢true}
use Rattle.std.proofs.lemmas.Slice.Eq.{bytes_eq-Decides}
use Rattle.std.specs.List.{enumerate_from}
use Rattle.std.specs.Option.{option_map, option_map_or, option_and_then}
use Rattle.std.specs.Str.{bytes_eq}
use Rattle.tmpl_values.specs.Value.{Value, nothing, null, boolean, number, string, sequence, mapping, Items, no_item, item, Entries, no_entry, entry}
use Rattle.tmpl_values.specs.Elements.{Element, elements, pairs, values_of_items, elements_of_entries}
use Rattle.tmpl_values.specs.Field.{found, missing, of_nothing, field_at, entry_at}
use Rattle.tmpl_values.specs.Stage.{and_then}
use Rattle.tmpl_values.specs.Compare.{is_nothing}
use Rattle.tmpl_values.specs.Truth.{truth}
use Rattle.tmpl_grammar.specs.Tree.{Binding, unbound, declare, assign, declare_pair}
use Rattle.tmpl_meaning.specs.Fault.{Cause}
use Rattle.tmpl_meaning.specs.Pipeline.{chain, field_value}
use Rattle.tmpl_meaning.specs.Meaning.{elements_visited}
use Rattle.tmpl_meaning.specs.declared.missing_key.MissingKey.{MissingKey}
use Rattle.tmpl_meaning.specs.declared.missing_key.MissingKey.TheVariants as mode
use Rattle.tmpl_shape.specs.Shape.{Shape, never, nothings, nulls, numbers, texts, exactly, list_of, record_of, either, named, Names, Fields, no_field, others, field}
use Rattle.tmpl_shape.specs.Shape.{EachItem, EachEntry, AreDistinct, HasRequired, HasShape, IsField, value_of}
use Rattle.tmpl_shape.specs.declared.constant.Constant.{Constant}
use Rattle.tmpl_shape.specs.declared.constant.Constant.TheVariants as constant
use Rattle.tmpl_shape.specs.computed.Means.{Means}
use Rattle.tmpl_shape.specs.computed.Shapes.{Base, Test, has_least, is_among, is_apart, shows_there, least_of, lets_value, shape_at, is_never, is_required, join, with_field, with_refined, both, blurred, refine_record, refine_constant, refine_by, refine, fill, absent_shape, of_field, entry_shape}
use Rattle.tmpl_shape.proofs.ConstantLemmas.{kind-has}
use Rattle.tmpl_shape.specs.computed.Shapes.{kind_shape, field_shape_by, field_shape, chain_shape, any_field, Visit, both_visits, visit_by, visit_of}
use Rattle.tmpl_schema.specs.computed.Check.{absent_field}
use Rattle.tmpl_shape.proofs.ShapeLemmas.{same_name, or_cases, required-has, blurred-has, join-left, join-right}

-- a value is as a test shows, but for being there
abbrev pub Passes : Test → Value → Type 0
Passes test (sequence vs) = least_of test ≤ length (values_of_items vs)
Passes test (mapping es) = Unit {0}
Passes test nothing = Unit {0}
Passes test null = Unit {0}
Passes test v = lets_value test v ≡ true

abbrev pub Shows : Test → Value → Type 0
Shows test v = (shows_there test ≡ true → is_nothing v ≡ false) × Passes test v

-- .. and so is what is at the end of a chain of fields
abbrev pub Ends : Test → List (List ℕ) → Value → Type 0
Ends test ns v = (shows_there test ≡ true → (x : Value) × (chain mode.Error ns v ≡ Ok x) × (is_nothing x ≡ false))
    × ((x : Value) → chain mode.Error ns v ≡ Ok x → is_nothing x ≡ false → Passes test x)

pub only-there : (v : Value) → is_nothing v ≡ false → Shows (has_least 0) v
only-there (sequence vs) t = (λ e. t, omega arith)
only-there nothing t = (λ e. t, tt)
only-there null t = (λ e. t, tt)
only-there (mapping es) t = (λ e. t, tt)
only-there _ t = (λ e. t, refl)

-- what is not empty is neither nothing nor null, and has an item if it is a list
pub full-thing : (v : Value) → truth v ≡ true → Shows (has_least 1) v
full-thing nothing t = absurd (false≢true t)
full-thing null t = absurd (false≢true t)
full-thing (sequence no_item) t = absurd (false≢true t)
full-thing (sequence (item v vs)) t = (λ e. refl, omega arith)
full-thing (mapping es) t = (λ e. refl, tt)
full-thing _ t = (λ e. refl, t)

module _ (base : Base) (N : Names) (means : Means base.defs N) where
  -- where a shape is computed there is a value, and it has the shape
  abbrev pub Gives : Option Shape → Result Value Cause → Type 0
  Gives None r = Unit {0}
  Gives (Some s) (Ok v) = HasShape N s v
  Gives (Some s) (Err cause) = ⊥

  pub join-has : (s t : Shape) (v : Value) → HasShape N s v ⊎ HasShape N t v → HasShape N (join base s t) v
  join-has s t v h = elim h [
    | inl x ↦ join-left base N means s t v x
    | inr x ↦ join-right base N means s t v x
  ]

  pub both-give : (o p : Option Shape) (r : Result Value Cause) → Gives o r ⊎ Gives p r → Gives (both base o p) r
  both-give None p r h = tt
  both-give (Some a) None r h = tt
  both-give (Some s) (Some t) (Ok v) h = join-has s t v h
  both-give (Some s) (Some t) (Err cause) h = elim h [
    | inl x ↦ x
    | inr x ↦ x
  ]

  pub then-gives : (f : Shape → Option Shape) (g : Value → Result Value Cause) → ((s : Shape) (v : Value) → HasShape N s v → Gives (f s) (g v))
      → (o : Option Shape) (r : Result Value Cause) → Gives o r → Gives (option_and_then f o) (and_then r g)
  then-gives f g h None r k = tt
  then-gives f g h (Some s) (Ok v) k = h s v k
  then-gives f g h (Some s) (Err cause) k = absurd k

  -- ---- fields

  absent-gives : (m : MissingKey) (n : List ℕ) → Gives (absent_shape (absent_field m)) (field_value m n missing)
  absent-gives mode.Error n = tt
  absent-gives mode.Zero n = tt
  absent-gives _ n = tt

  of_nothing-gives : (m : MissingKey) (n : List ℕ) → Gives (option_map (λ s. nothings) (absent_shape (absent_field m))) (field_value m n of_nothing)
  of_nothing-gives mode.Error n = tt
  of_nothing-gives mode.Zero n = tt
  of_nothing-gives _ n = tt

  none-some : IsSome {T = Value} None → ⊥
  none-some e = false≢true e

  missing-gives : (m : MissingKey) (n : List ℕ) (es : Entries) → entry_at n es ≡ None → (fs : Fields) → HasRequired fs es → Gives (entry_shape base (absent_field m) n fs) (field_value m n missing)
  missing-gives m n es e no_field h = absent-gives m n
  missing-gives m n es e (others s) h = both-give (Some (blurred base s)) (absent_shape (absent_field m)) (field_value m n missing) (inr (absent-gives m n))
  missing-gives m n es e (field name required s fs) h = by (bytes_eq n name) refl required h.0 (missing-gives m n es e fs h.1)
    where
      by : (c : Bool) → bytes_eq n name ≡ c → (r : Bool) → (r ≡ true → IsSome (entry_at name es)) → Gives (entry_shape base (absent_field m) n fs) (field_value m n missing)
          → Gives (if c then of_field base (absent_field m) r s else entry_shape base (absent_field m) n fs) (field_value m n missing)
      by true is true there more =
          absurd (none-some (subst (λ (o : Option Value). IsSome o) (ap (λ (k : List ℕ). entry_at k es) (sym (same_name n name is)) ∙ e) (there refl)))
      by true is false there more = both-give (Some (blurred base s)) (absent_shape (absent_field m)) (field_value m n missing) (inr (absent-gives m n))
      by false is r there more = more

  found-gives : (m : MissingKey) (n : List ℕ) (w : Value) (fs : Fields) → IsField N fs n w → Gives (entry_shape base (absent_field m) n fs) (field_value m n (found w))
  found-gives m n w no_field h = absurd h
  found-gives m n w (others s) h = both-give (Some (blurred base s)) (absent_shape (absent_field m)) (Ok w) (inl (blurred-has base N means s w h))
  found-gives m n w (field name required s fs) h = by (bytes_eq n name) refl h required (found-gives m n w fs)
    where
      by : (c : Bool) → bytes_eq n name ≡ c → IsField N (field name required s fs) n w → (r : Bool)
          → (IsField N fs n w → Gives (entry_shape base (absent_field m) n fs) (field_value m n (found w)))
          → Gives (if c then of_field base (absent_field m) r s else entry_shape base (absent_field m) n fs) (field_value m n (found w))
      by true is (inl x) true more = blurred-has base N means s w x.1
      by true is (inl x) false more = both-give (Some (blurred base s)) (absent_shape (absent_field m)) (Ok w) (inl (blurred-has base N means s w x.1))
      by true is (inr x) r more = absurd (false≢true (sym x.0 ∙ is))
      by false is (inl x) r more = absurd (false≢true (sym is ∙ x.0))
      by false is (inr x) r more = more x.1

  -- what holds of each entry holds of the one that is found
  pub at-entry : (P : List ℕ → Value → Type 0) (n : List ℕ) (w : Value) (es : Entries) → entry_at n es ≡ Some w → EachEntry P es → P n w
  at-entry P n w no_entry e h = cc
  at-entry P n w (entry k v es) e h = by (bytes_eq k n) refl e (at-entry P n w es)
    where
      by : (c : Bool) → bytes_eq k n ≡ c → (if c then Some v else entry_at n es) ≡ Some w → (entry_at n es ≡ Some w → EachEntry P es → P n w) → P n w
      by true is x more = let same : v ≡ w = cc in subst (λ (u : Value). P n u) same (subst (λ (i : List ℕ). P i v) (same_name k n is) h.0)
      by false is x more = more x h.1

  pub entry-gives : (m : MissingKey) (n : List ℕ) (fs : Fields) (es : Entries) → EachEntry (IsField N fs) es → HasRequired fs es
      → Gives (entry_shape base (absent_field m) n fs) (field_value m n (option_map_or found (entry_at n es) missing))
  entry-gives m n fs es each all = by (entry_at n es) refl
    where
      by : (o : Option Value) → entry_at n es ≡ o → Gives (entry_shape base (absent_field m) n fs) (field_value m n (option_map_or found o missing))
      by None is = missing-gives m n es is fs all
      by (Some w) is = found-gives m n w fs (at-entry (IsField N fs) n w es is each)

  field_by-gives : (i : ℕ) (m : MissingKey) (n : List ℕ) (s : Shape) (v : Value) → HasShape N s v → Gives (field_shape_by base i (absent_field m) n s) (field_value m n (field_at n v))
  field_by-gives zero m n s v h = tt
  field_by-gives (suc i) m n never v h = absurd h
  field_by-gives (suc i) m n nothings nothing h = of_nothing-gives m n
  field_by-gives (suc i) m n nothings _ h = absurd h
  field_by-gives (suc i) m n (record_of fs) (mapping es) h = entry-gives m n fs es h.1 h.2
  field_by-gives (suc i) m n (record_of fs) _ h = absurd h
  field_by-gives (suc i) m n (either s t) v h =
      both-give (field_shape_by base i (absent_field m) n s) (field_shape_by base i (absent_field m) n t) (field_value m n (field_at n v))
      (elim h [ inl x ↦ inl (field_by-gives i m n s v x) | inr x ↦ inr (field_by-gives i m n t v x) ])
  field_by-gives (suc i) m n (named y) v h = by (base.defs y) refl (λ s. field_by-gives i m n s v)
    where
      by : (o : Option Shape) → base.defs y ≡ o → ((s : Shape) → HasShape N s v → Gives (field_shape_by base i (absent_field m) n s) (field_value m n (field_at n v)))
          → Gives (option_and_then (field_shape_by base i (absent_field m) n) o) (field_value m n (field_at n v))
      by None is f = tt
      by (Some s) is f = f s (means.unfolds y s v is h)
  field_by-gives (suc i) m n _ v h = tt

  field-gives : (m : MissingKey) (n : List ℕ) (s : Shape) (v : Value) → HasShape N s v → Gives (field_shape base (absent_field m) n s) (field_value m n (field_at n v))
  field-gives m n s v h = field_by-gives base.limit m n s v h

  pub chain-gives : (m : MissingKey) (ns : List (List ℕ)) (s : Shape) (v : Value) → HasShape N s v → Gives (chain_shape base (absent_field m) ns s) (chain m ns v)
  chain-gives m [] s v h = h
  chain-gives m (n ∷ ns) s v h =
      then-gives (chain_shape base (absent_field m) ns) (chain m ns) (chain-gives m ns) (field_shape base (absent_field m) n s) (field_value m n (field_at n v)) (field-gives m n s v h)

  -- ---- narrowing

  -- fields of nothing and of null are a fault
  of_nothing-empty : (ns : List (List ℕ)) (x : Value) → chain mode.Error ns nothing ≡ Ok x → is_nothing x ≡ false → ⊥
  of_nothing-empty [] x e t = let same : nothing ≡ x = cc in false≢true (sym (ap is_nothing same ∙ t))
  of_nothing-empty (n ∷ ns) x e t = cc

  of_null-empty : (ns : List (List ℕ)) (x : Value) → chain mode.Error ns null ≡ Ok x → is_nothing x ≡ false → ⊥
  of_null-empty [] x e t = let same : null ≡ x = cc in false≢true (sym (ap is_nothing same ∙ t))
  of_null-empty (n ∷ ns) x e t = cc

  of_missing-empty : (n : List ℕ) (ns : List (List ℕ)) (es : Entries) (x : Value) → entry_at n es ≡ None → chain mode.Error (n ∷ ns) (mapping es) ≡ Ok x → ⊥
  of_missing-empty n ns es x is e = by (entry_at n es) is e
    where
      by : (o : Option Value) → o ≡ None → and_then (field_value mode.Error n (option_map_or found o missing)) (chain mode.Error ns) ≡ Ok x → ⊥
      by None is e = cc
      by (Some w) is e = cc

  blank-left : (test : Test) (s : Shape) (v : Value) → HasShape N s v → (shows_there test ≡ true → ⊥) → HasShape N (if shows_there test then never else s) v
  blank-left test s v h blank = by (shows_there test) refl
    where
      by : (b : Bool) → shows_there test ≡ b → HasShape N (if b then never else s) v
      by true e = absurd (blank e)
      by false e = h

  -- a field of another name is as it was
  other-same : (n : List ℕ) (t : Shape) (k : List ℕ) (v : Value) → bytes_eq k n ≡ false → (fs : Fields) → IsField N fs k v → IsField N (with_field n t fs) k v
  other-same n t k v apart no_field h = h
  other-same n t k v apart (others s) h = inr (apart, h)
  other-same n t k v apart (field name required s fs) h = by (bytes_eq n name) refl h (other-same n t k v apart fs)
    where
      by : (c : Bool) → bytes_eq n name ≡ c → IsField N (field name required s fs) k v → (IsField N fs k v → IsField N (with_field n t fs) k v)
          → IsField N (if c then field name true t fs else field name required s (with_field n t fs)) k v
      by true is (inl x) more =
          absurd (false≢true (sym apart ∙ subst (λ (i : List ℕ). bytes_eq k i ≡ true) (sym (same_name n name is)) x.0))
      by true is (inr x) more = inr x
      by false is (inl x) more = inl x
      by false is (inr x) more = inr (x.0, more x.1)

  entry_none : (k : List ℕ) (v : Value) (n : List ℕ) (es : Entries) → entry_at n (entry k v es) ≡ None → (bytes_eq k n ≡ false) × (entry_at n es ≡ None)
  entry_none k v n es e = by (bytes_eq k n) refl e
    where
      by : (c : Bool) → bytes_eq k n ≡ c → (if c then Some v else entry_at n es) ≡ None → (bytes_eq k n ≡ false) × (entry_at n es ≡ None)
      by true is x = cc
      by false is x = (is, x)

  others-same : (n : List ℕ) (t : Shape) (fs : Fields) (es : Entries) → entry_at n es ≡ None → EachEntry (IsField N fs) es → EachEntry (IsField N (with_field n t fs)) es
  others-same n t fs no_entry e h = tt
  others-same n t fs (entry k v es) e h =
      let p = entry_none k v n es e in (other-same n t k v p.0 fs h.0, others-same n t fs es p.1 h.1)

  each-refined : (n : List ℕ) (t : Shape) (fs : Fields) (w : Value) → (IsField N fs n w → IsField N (with_field n t fs) n w)
      → (es : Entries) → entry_at n es ≡ Some w → AreDistinct es → EachEntry (IsField N fs) es → EachEntry (IsField N (with_field n t fs)) es
  each-refined n t fs w g no_entry e d h = tt
  each-refined n t fs w g (entry k v es) e d h = by (bytes_eq k n) refl e (λ x. each-refined n t fs w g es x d.1 h.1)
    where
      by : (c : Bool) → bytes_eq k n ≡ c → (if c then Some v else entry_at n es) ≡ Some w
          → (entry_at n es ≡ Some w → EachEntry (IsField N (with_field n t fs)) es) → EachEntry (IsField N (with_field n t fs)) (entry k v es)
      by true is x more =
          let name = same_name k n is in
          let same : w ≡ v = cc in
          let one : IsField N fs n w = subst (λ (u : Value). IsField N fs n u) (sym same) (subst (λ (i : List ℕ). IsField N fs i v) name h.0) in (
            subst (λ (i : List ℕ). IsField N (with_field n t fs) i v) (sym name) (subst (λ (u : Value). IsField N (with_field n t fs) n u) same (g one)),
            others-same n t fs es (subst (λ (i : List ℕ). entry_at i es ≡ None) name d.0) h.1,
          )
      by false is x more = (other-same n t k v is fs h.0, more x)

  required-refined : (n : List ℕ) (t : Shape) (es : Entries) → IsSome (entry_at n es) → (fs : Fields) → HasRequired fs es → HasRequired (with_field n t fs) es
  required-refined n t es there no_field h = tt
  required-refined n t es there (others s) h = (λ e. there, tt)
  required-refined n t es there (field name required s fs) h = by (bytes_eq n name) refl (required-refined n t es there fs h.1)
    where
      by : (c : Bool) → bytes_eq n name ≡ c → HasRequired (with_field n t fs) es
          → HasRequired (if c then field name true t fs else field name required s (with_field n t fs)) es
      by true is more = (λ e. subst (λ (i : List ℕ). IsSome (entry_at i es)) (same_name n name is) there, h.1)
      by false is more = (h.0, more)

  -- the field of a name has the shape of that name
  at-has : (n : List ℕ) (w : Value) (s : Shape) (fs : Fields) → IsField N fs n w → shape_at n fs ≡ Some s → HasShape N s w
  at-has n w s no_field h e = absurd h
  at-has n w s (others t) h e = let same : t ≡ s = cc in subst (λ (i : Shape). HasShape N i w) same h
  at-has n w s (field name required t fs) h e = by (bytes_eq n name) refl h e (at-has n w s fs)
    where
      by : (c : Bool) → bytes_eq n name ≡ c → IsField N (field name required t fs) n w → (if c then Some t else shape_at n fs) ≡ Some s
          → (IsField N fs n w → shape_at n fs ≡ Some s → HasShape N s w) → HasShape N s w
      by true is (inl x) e more = let same : t ≡ s = cc in subst (λ (i : Shape). HasShape N i w) same x.1
      by true is (inr x) e more = absurd (false≢true (sym x.0 ∙ is))
      by false is (inl x) e more = absurd (false≢true (sym is ∙ x.0))
      by false is (inr x) e more = more x.1 e

  no-shape : (n : List ℕ) (w : Value) (fs : Fields) → IsField N fs n w → shape_at n fs ≡ None → ⊥
  no-shape n w no_field h e = h
  no-shape n w (others t) h e = cc
  no-shape n w (field name required t fs) h e = by (bytes_eq n name) refl h e (no-shape n w fs)
    where
      by : (c : Bool) → bytes_eq n name ≡ c → IsField N (field name required t fs) n w → (if c then Some t else shape_at n fs) ≡ None
          → (IsField N fs n w → shape_at n fs ≡ None → ⊥) → ⊥
      by true is h e more = cc
      by false is (inl x) e more = absurd (false≢true (sym is ∙ x.0))
      by false is (inr x) e more = more x.1 e

  with_field-has : (n : List ℕ) (t : Shape) (w : Value) → HasShape N t w → (fs : Fields) → IsField N fs n w → IsField N (with_field n t fs) n w
  with_field-has n t w g no_field h = h
  with_field-has n t w g (others s) h = inl ((bytes_eq-Decides n n).1 refl, g)
  with_field-has n t w g (field name required s fs) h = by (bytes_eq n name) refl h (with_field-has n t w g fs)
    where
      by : (c : Bool) → bytes_eq n name ≡ c → IsField N (field name required s fs) n w → (IsField N fs n w → IsField N (with_field n t fs) n w)
          → IsField N (if c then field name true t fs else field name required s (with_field n t fs)) n w
      by true is (inl y) more = inl (y.0, g)
      by true is (inr y) more = absurd (false≢true (sym y.0 ∙ is))
      by false is (inl y) more = absurd (false≢true (sym is ∙ y.0))
      by false is (inr y) more = inr (y.0, more y.1)

  field-refined : (n : List ℕ) (t : Shape) (fs : Fields) (es : Entries) (w : Value) → entry_at n es ≡ Some w → HasShape N t w
      → HasShape N (record_of fs) (mapping es) → HasShape N (with_refined n t fs) (mapping es)
  field-refined n t fs es w is g h = by (is_never t) refl
    where
      none : (s : Shape) → is_never s ≡ true → HasShape N s w → ⊥
      none never e k = k
      none _ e k = absurd (false≢true e)

      by : (b : Bool) → is_never t ≡ b → HasShape N (if b then never else record_of (with_field n t fs)) (mapping es)
      by true e = absurd (none t e g)
      by false e = (h.0, each-refined n t fs w (λ i. with_field-has n t w g fs i) es is h.0 h.1, required-refined n t es (rw is refl) fs h.2)

  -- the entry that is asked for is there, and what is at the end of the chain from it is as shown
  entry-there : (test : Test) (n : List ℕ) (ns : List (List ℕ)) (fs : Fields) (es : Entries) → HasRequired fs es → Ends test (n ∷ ns) (mapping es)
      → (shows_there test || is_required n fs) ≡ true → (w : Value) × (entry_at n es ≡ Some w)
  entry-there test n ns fs es h t e = by (entry_at n es) refl
    where
      gone : entry_at n es ≡ None → ⊥
      gone is = elim (or_cases (shows_there test) (is_required n fs) e) [
        | inl x ↦ let y = t.0 x in of_missing-empty n ns es y.0 is y.1
        | inr x ↦ none-some (subst (λ (o : Option Value). IsSome o) is (required-has n es fs x h))
      ]

      by : (o : Option Value) → entry_at n es ≡ o → (w : Value) × (entry_at n es ≡ Some w)
      by None is = absurd (gone is)
      by (Some w) is = (w, is)

  entry-ends : (test : Test) (n : List ℕ) (ns : List (List ℕ)) (es : Entries) (w : Value) → entry_at n es ≡ Some w → Ends test (n ∷ ns) (mapping es) → Ends test ns w
  entry-ends test n ns es w is t =
      let same : chain mode.Error (n ∷ ns) (mapping es) ≡ chain mode.Error ns w =
      ap (λ (o : Option Value). and_then (field_value mode.Error n (option_map_or found o missing)) (chain mode.Error ns)) is in
      (λ e. let x = t.0 e in (x.0, sym same ∙ x.1, x.2), λ x e k. t.1 x (same ∙ e) k)

  record-refined : (test : Test) (f : List (List ℕ) → Shape → Shape) (n : List ℕ) (ns : List (List ℕ)) (fs : Fields) (es : Entries)
      → HasShape N (record_of fs) (mapping es) → Ends test (n ∷ ns) (mapping es) → ((s : Shape) (w : Value) → HasShape N s w → Ends test ns w → HasShape N (f ns s) w)
      → HasShape N (refine_record base test f (n ∷ ns) fs) (mapping es)
  record-refined test f n ns fs es h t g = by (shows_there test || is_required n fs) refl
    where
      at : (w : Value) → entry_at n es ≡ Some w → (o : Option Shape) → shape_at n fs ≡ o
          → HasShape N (option_map_or (λ s. with_refined n (f ns s) fs) o never) (mapping es)
      at w is None e = absurd (no-shape n w fs (at-entry (IsField N fs) n w es is h.1) e)
      at w is (Some s) e =
          field-refined n (f ns s) fs es w is (g s w (at-has n w s fs (at-entry (IsField N fs) n w es is h.1) e) (entry-ends test n ns es w is t)) h

      by : (b : Bool) → (shows_there test || is_required n fs) ≡ b
          → HasShape N (if b then option_map_or (λ s. with_refined n (f ns s) fs) (shape_at n fs) never else record_of fs) (mapping es)
      by false e = h
      by true e = let w = entry-there test n ns fs es h.2 t e in at w.0 w.1 (shape_at n fs) refl

  -- a list has no fields, and it is its own end of no fields
  least-has : (test : Test) (ns : List (List ℕ)) (vs : Items) → Ends test ns (sequence vs) → least_of test ≤ length (values_of_items vs)
  least-has test [] vs t = t.1 (sequence vs) refl refl
  least-has (has_least l) (n ∷ ns) vs t = let x = t.0 refl in absurd (by x.0 x.1)
    where
      by : (x : Value) → chain mode.Error (n ∷ ns) (sequence vs) ≡ Ok x → ⊥
      by x e = cc
  least-has (is_among os) (n ∷ ns) vs t = omega arith
  least-has (is_apart os) (n ∷ ns) vs t = omega arith

  -- a constant that ends no chain of fields passes the test
  constant-passes : (test : Test) (c : Constant) → Ends test [] (value_of c) → lets_value test (value_of c) ≡ true
  constant-passes test (constant.Bool b) t = t.1 (boolean b) refl refl
  constant-passes test (constant.Number n) t = t.1 (number n) refl refl
  constant-passes test (constant.Text s) t = t.1 (string s) refl refl

  constant-refined : (test : Test) (ns : List (List ℕ)) (c : Constant) (v : Value) → v ≡ value_of c → Ends test ns v → HasShape N (refine_constant test ns c) v
  constant-refined test (n ∷ ns) c v same t = same
  constant-refined test [] c v same t = rw (constant-passes test c (subst (Ends test []) same t)) same

  refine_by-has : (test : Test) (i : ℕ) (ns : List (List ℕ)) (s : Shape) (v : Value) → HasShape N s v → Ends test ns v → HasShape N (refine_by base test i ns s) v
  refine_by-has test zero ns s v h t = h
  refine_by-has test (suc i) ns nothings nothing h t = blank-left test nothings nothing h (λ e. let x = t.0 e in of_nothing-empty ns x.0 x.1 x.2)
  refine_by-has test (suc i) ns nothings _ h t = absurd h
  refine_by-has test (suc i) ns nulls null h t = blank-left test nulls null h (λ e. let x = t.0 e in of_null-empty ns x.0 x.1 x.2)
  refine_by-has test (suc i) ns nulls _ h t = absurd h
  refine_by-has test (suc i) ns (exactly c) v h t = constant-refined test ns c v h t
  refine_by-has test (suc i) ns (list_of n s) (sequence vs) h t = (max-le h.0 (least-has test ns vs t), h.1)
  refine_by-has test (suc i) ns (list_of n s) _ h t = absurd h
  refine_by-has test (suc i) ns (either s u) v h t =
      join-has (refine_by base test i ns s) (refine_by base test i ns u) v (elim h [ inl y ↦ inl (refine_by-has test i ns s v y t) | inr y ↦ inr (refine_by-has test i ns u v y t) ])
  refine_by-has test (suc i) ns (named y) v h t = by (base.defs y) refl (λ s k. refine_by-has test i ns s v k t)
    where
      by : (o : Option Shape) → base.defs y ≡ o → ((s : Shape) → HasShape N s v → HasShape N (refine_by base test i ns s) v)
          → HasShape N (option_map_or (refine_by base test i ns) o (named y)) v
      by None is f = h
      by (Some s) is f = f s (means.unfolds y s v is h)
  refine_by-has test (suc i) (name ∷ ns) (record_of fs) (mapping es) h t =
      record-refined test (refine_by base test i) name ns fs es h t (λ s w k j. refine_by-has test i ns s w k j)
  refine_by-has test (suc i) (name ∷ ns) (record_of fs) _ h t = absurd h
  refine_by-has test (suc i) ns s v h t = h

  pub refine-has : (test : Test) (s : Shape) (ns : List (List ℕ)) (v : Value) → HasShape N s v → Ends test ns v → HasShape N (refine base test ns s) v
  refine-has test s ns v h t = refine_by-has test base.limit ns s v h t

  pub fill-has : (s : Shape) (v : Value) → HasShape N s v → truth v ≡ true → HasShape N (fill base s) v
  fill-has s v h t =
      let f = full-thing v t in
      refine-has (has_least 1) s [] v h (λ e. (v, refl, f.0 e), λ x e k. let same : v ≡ x = cc in subst (Passes (has_least 1)) same f.1)

  -- ---- elements

  abbrev pub Each : (Element → Type 0) → List Element → Type 0
  Each P [] = Unit {0}
  Each P (e ∷ es) = P e × Each P es

  abbrev pub IsVisit : Visit → Element → Type 0
  IsVisit v e = HasShape N v.key e.0 × HasShape N v.element e.1

  -- where shapes are computed a value may be ranged over, and its elements have the shapes
  abbrev pub Visits : Option Visit → Option (List Element) → Type 0
  Visits None o = Unit {0}
  Visits (Some v) None = ⊥
  Visits (Some v) (Some es) = Each (IsVisit v) es

  each-on : (P Q : Element → Type 0) → ((e : Element) → P e → Q e) → (es : List Element) → Each P es → Each Q es
  each-on P Q f [] h = tt
  each-on P Q f (e ∷ es) h = (f e h.0, each-on P Q f es h.1)

  both-visit : (o p : Option Visit) (es : Option (List Element)) → Visits o es ⊎ Visits p es → Visits (both_visits base o p) es
  both-visit None p es h = tt
  both-visit (Some a) None es h = tt
  both-visit (Some u) (Some w) None h = elim h [
    | inl x ↦ x
    | inr x ↦ x
  ]
  both-visit (Some u) (Some w) (Some es) h = elim h [
    | inl y ↦ each-on (IsVisit u) _ (λ e x. (join-has u.key w.key e.0 (inl x.0), join-has u.element w.element e.1 (inl x.1))) es y
    | inr y ↦ each-on (IsVisit w) _ (λ e x. (join-has u.key w.key e.0 (inr x.0), join-has u.element w.element e.1 (inr x.1))) es y
  ]

  count-visits : (is : List ℕ) → Each (IsVisit (record { key = numbers; element = numbers })) (map (λ i. (number (pos i), number (pos i))) is)
  count-visits [] = tt
  count-visits (i ∷ is) = ((tt, tt), count-visits is)

  list-visits : (s : Shape) (vs : Items) (i : ℕ) → EachItem (HasShape N s) vs
      → Each (IsVisit (record { key = numbers; element = s })) (map (λ p. (number (pos p.0), p.1)) (enumerate_from i (values_of_items vs)))
  list-visits s no_item i h = tt
  list-visits s (item v vs) i h = ((tt, h.0), list-visits s vs (i + 1) h.1)

  pub any-has : (fs : Fields) (k : List ℕ) (v : Value) → IsField N fs k v → HasShape N (any_field base fs) v
  any-has no_field k v h = h
  any-has (others s) k v h = h
  any-has (field n required s fs) k v h =
      join-has (blurred base s) (any_field base fs) v (elim h [ inl x ↦ inl (blurred-has base N means s v x.1) | inr x ↦ inr (any-has fs k v x.1) ])

  record-visits : (fs : Fields) (es : Entries) → EachEntry (IsField N fs) es → Each (IsVisit (record { key = texts; element = any_field base fs })) (elements_of_entries es)
  record-visits fs no_entry h = tt
  record-visits fs (entry k v es) h = ((tt, any-has fs k v h.0), record-visits fs es h.1)

  -- by what a range visits, which is the same with two variables but for numbers
  no-number : (c : Binding) (v : Value) → pairs v ≡ elements v → elements_visited c v ≡ elements v
  no-number (declare_pair key name) (number n) e = cc
  no-number _ v e = refl

  visit_by-gives : (i : ℕ) (c : Binding) (s : Shape) (v : Value) → HasShape N s v → Visits (visit_by base i c s) (elements_visited c v)
  visit_by-gives zero c s v h = tt
  visit_by-gives (suc i) c never v h = absurd h
  visit_by-gives (suc i) c nothings nothing h = rw (no-number c nothing refl) tt
  visit_by-gives (suc i) c nothings _ h = absurd h
  visit_by-gives (suc i) c nulls null h = rw (no-number c null refl) tt
  visit_by-gives (suc i) c nulls _ h = absurd h
  visit_by-gives (suc i) (declare_pair key name) numbers (number n) h = tt
  visit_by-gives (suc i) unbound numbers (number n) h = count-visits _
  visit_by-gives (suc i) (declare name) numbers (number n) h = count-visits _
  visit_by-gives (suc i) (assign name) numbers (number n) h = count-visits _
  visit_by-gives (suc i) c numbers _ h = absurd h
  visit_by-gives (suc i) c (exactly d) v h = visit_by-gives i c (kind_shape d) v (kind-has N d v h)
  visit_by-gives (suc i) c (list_of n s) (sequence vs) h = rw (no-number c (sequence vs) refl) (list-visits s vs 0 h.1)
  visit_by-gives (suc i) c (list_of n s) _ h = absurd h
  visit_by-gives (suc i) c (record_of fs) (mapping es) h = rw (no-number c (mapping es) refl) (record-visits fs es h.1)
  visit_by-gives (suc i) c (record_of fs) _ h = absurd h
  visit_by-gives (suc i) c (either s t) v h =
      both-visit (visit_by base i c s) (visit_by base i c t) (elements_visited c v) (elim h [ inl x ↦ inl (visit_by-gives i c s v x) | inr x ↦ inr (visit_by-gives i c t v x) ])
  visit_by-gives (suc i) c (named y) v h = by (base.defs y) refl (λ s. visit_by-gives i c s v)
    where
      by : (o : Option Shape) → base.defs y ≡ o → ((s : Shape) → HasShape N s v → Visits (visit_by base i c s) (elements_visited c v))
          → Visits (option_and_then (visit_by base i c) o) (elements_visited c v)
      by None is f = tt
      by (Some s) is f = f s (means.unfolds y s v is h)
  visit_by-gives (suc i) c _ v h = tt

  pub visit-gives : (c : Binding) (s : Shape) (v : Value) → HasShape N s v → Visits (visit_of base c s) (elements_visited c v)
  visit-gives c s v h = visit_by-gives base.limit c s v h
