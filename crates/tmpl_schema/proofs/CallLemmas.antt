-- For the law `runs_safely`: calls have the shapes that are computed.
use Rattle.std.proofs.Common.{◌≡◌, ◌∙◌, ◌||◌, ◌&&◌, ℕ, pos, Bool, true, false, not, List, [], ◌∷◌, map, Option, Some, None, Result, inl, inr, refl, sym, if◌then◌else◌, option_map, option_and_then, ok_or}
use Rattle.std.proofs.lemmas.Bool.{false≢true, and_parts, not-true}
use Rattle.std.specs.Result.{result_map_both}
use Rattle.tmpl_values.specs.Value.{Value, nothing, null, boolean, number, string, sequence, mapping}
use Rattle.tmpl_values.specs.Compare.{equality, order}
use Rattle.tmpl_values.specs.Item.{size_of}
use Rattle.tmpl_funcs.specs.Arguments.{given_for, one, two, two_or_more}
use Rattle.tmpl_funcs.specs.Compare.{at_most, comparison_answer, equal_to_one}
use Rattle.tmpl_funcs.specs.declared.func.Func.{Func}
use Rattle.tmpl_funcs.specs.declared.func.Func.TheVariants as func
use Rattle.tmpl_funcs.specs.declared.fault.CallFault.{CallFault}
use Rattle.tmpl_funcs.specs.declared.fault.CallFault.TheVariants.{WrongKind, NotComparable}
use Rattle.tmpl_meaning.specs.Fault.{Cause, call_failed}
use Rattle.tmpl_meaning.specs.Pipeline.{apply_function}
use Rattle.tmpl_shape.specs.Shape.{Shape, truths, numbers, HasShape, Names}
use Rattle.tmpl_shape.specs.computed.Means.{Means}
use Rattle.tmpl_shape.specs.declared.kind.Kind.{Kind}
use Rattle.tmpl_shape.specs.declared.kind.Kind.TheVariants.{Blank, Truth, Number, Text, Many}
use Rattle.tmpl_shape.specs.declared.kind.Kinds.{Kinds}
use Rattle.tmpl_shape.specs.computed.Shapes.{Base, has_kind, kinds_of}
use Rattle.tmpl_shape.specs.computed.Calls.{has, each_kind, clashes, comparable, comparable_to_all, only_numbers, only_texts, orderable, is_sized, one_kind, two_kinds}
use Rattle.tmpl_shape.specs.computed.Calls.{truths_if, numbers_if, equal_shape, kinds_shape, call_shape}
use Rattle.tmpl_shape.proofs.ShapeLemmas.{or_cases, neither}
use Rattle.tmpl_shape.proofs.KindLemmas.{kind_of, has_kind-has}
use Rattle.tmpl_schema.proofs.FieldLemmas.{Gives}

-- what holds of each kind holds of one
pub at-kind : (p : Kind → Bool) → each_kind p ≡ true → (k : Kind) → p k ≡ true
at-kind p e k = by k
  where
    a : (p Blank ≡ true) × ((p Truth && (p Number && (p Text && p Many))) ≡ true)
    a = and_parts (p Blank) (p Truth && (p Number && (p Text && p Many))) e

    b : (p Truth ≡ true) × ((p Number && (p Text && p Many)) ≡ true)
    b = and_parts (p Truth) (p Number && (p Text && p Many)) a.1

    c : (p Number ≡ true) × ((p Text && p Many) ≡ true)
    c = and_parts (p Number) (p Text && p Many) b.1

    d : (p Text ≡ true) × (p Many ≡ true)
    d = and_parts (p Text) (p Many) c.1

    by : (i : Kind) → p i ≡ true
    by Blank = a.0
    by Truth = b.0
    by Number = c.0
    by Text = d.0
    by Many = d.1

-- a value is of one of the kinds
abbrev pub IsAmong : Kinds → Value → Type 0
IsAmong ks v = has ks (kind_of v) ≡ true

abbrev pub AreAmong : List Kinds → List Value → Type 0
AreAmong [] [] = Unit {0}
AreAmong (ks ∷ kss) (v ∷ vs) = IsAmong ks v × AreAmong kss vs
AreAmong kss vs = ⊥

apart : (b : Bool) → b ≡ true → b ≡ false → ⊥
apart b e f = false≢true (sym f ∙ e)

-- a comparison that is made gives a truth value
abbrev Compared : Option Bool → Type 0
Compared None = ⊥
Compared (Some b) = Unit {0}

opposite : (o : Option Bool) → Compared o → Compared (option_map not o)
opposite None h = h
opposite (Some c) h = tt

-- ---- equality

-- what is compared with many is nothing or null
many : (u w : Value) (ks : Kinds) → Compared (equality u nothing) → Compared (equality u null) → IsAmong ks w
    → (ks.truth ≡ false) × ((ks.number || (ks.text || ks.many)) ≡ false) → Compared (equality u w)
many u nothing ks c d h p = c
many u null ks c d h p = d
many u (boolean b) ks c d h p = absurd (apart ks.truth h p.0)
many u (number b) ks c d h p = absurd (apart ks.number h (neither ks.number (ks.text || ks.many) p.1).0)
many u (string b) ks c d h p = absurd (apart ks.text h (neither ks.text ks.many (neither ks.number (ks.text || ks.many) p.1).1).0)
many u (sequence b) ks c d h p = absurd (apart ks.many h (neither ks.text ks.many (neither ks.number (ks.text || ks.many) p.1).1).1)
many u (mapping b) ks c d h p = absurd (apart ks.many h (neither ks.text ks.many (neither ks.number (ks.text || ks.many) p.1).1).1)

-- two values of kinds that do not clash
unclashed : (v w : Value) (ks : Kinds) → clashes (kind_of v) ks ≡ false → IsAmong ks w → Compared (equality v w)
unclashed (boolean a) (number b) ks e h = absurd (apart ks.number h (neither ks.number (ks.text || ks.many) e).0)
unclashed (boolean a) (string b) ks e h = absurd (apart ks.text h (neither ks.text ks.many (neither ks.number (ks.text || ks.many) e).1).0)
unclashed (boolean a) (sequence b) ks e h = absurd (apart ks.many h (neither ks.text ks.many (neither ks.number (ks.text || ks.many) e).1).1)
unclashed (boolean a) (mapping b) ks e h = absurd (apart ks.many h (neither ks.text ks.many (neither ks.number (ks.text || ks.many) e).1).1)
unclashed (number a) (boolean b) ks e h = absurd (apart ks.truth h (neither ks.truth (ks.text || ks.many) e).0)
unclashed (number a) (string b) ks e h = absurd (apart ks.text h (neither ks.text ks.many (neither ks.truth (ks.text || ks.many) e).1).0)
unclashed (number a) (sequence b) ks e h = absurd (apart ks.many h (neither ks.text ks.many (neither ks.truth (ks.text || ks.many) e).1).1)
unclashed (number a) (mapping b) ks e h = absurd (apart ks.many h (neither ks.text ks.many (neither ks.truth (ks.text || ks.many) e).1).1)
unclashed (string a) (boolean b) ks e h = absurd (apart ks.truth h (neither ks.truth (ks.number || ks.many) e).0)
unclashed (string a) (number b) ks e h = absurd (apart ks.number h (neither ks.number ks.many (neither ks.truth (ks.number || ks.many) e).1).0)
unclashed (string a) (sequence b) ks e h = absurd (apart ks.many h (neither ks.number ks.many (neither ks.truth (ks.number || ks.many) e).1).1)
unclashed (string a) (mapping b) ks e h = absurd (apart ks.many h (neither ks.number ks.many (neither ks.truth (ks.number || ks.many) e).1).1)
unclashed (sequence a) w ks e h = many (sequence a) w ks tt tt h (neither ks.truth (ks.number || (ks.text || ks.many)) e)
unclashed (mapping a) w ks e h = many (mapping a) w ks tt tt h (neither ks.truth (ks.number || (ks.text || ks.many)) e)
unclashed _ _ ks e h = tt

comparable-so : (a b : Kinds) (v w : Value) → IsAmong a v → IsAmong b w → comparable a b ≡ true → Compared (equality v w)
comparable-so a b v w h g e =
    let p : (not (has a (kind_of v)) || not (clashes (kind_of v) b)) ≡ true = at-kind (λ k. not (has a k) || not (clashes k b)) e (kind_of v) in
    let q : not (clashes (kind_of v) b) ≡ true = rw h at p in unclashed v w b (not-true (clashes (kind_of v) b) q) g

equal-so : (a : Kinds) (v : Value) → IsAmong a v → (bs : List Kinds) (ws : List Value) → AreAmong bs ws → comparable_to_all a bs ≡ true → Compared (equal_to_one v ws)
equal-so a v h [] [] g e = tt
equal-so a v h (b ∷ bs) (w ∷ ws) g e =
    let p = and_parts (comparable a b) (comparable_to_all a bs) e in
    by (equality v w) (comparable-so a b v w h g.0 p.0) (equal-so a v h bs ws g.1 p.1)
  where
    by : (o : Option Bool) → Compared o → Compared (equal_to_one v ws) → Compared (option_and_then (λ equal. if equal then Some true else equal_to_one v ws) o)
    by None c more = c
    by (Some true) c more = tt
    by (Some false) c more = more
equal-so a v h _ _ g e = absurd g

-- ---- order

none-of-four : (a b c d : Bool) → not (a || (b || (c || d))) ≡ true → (a ≡ false) × (b ≡ false) × (c ≡ false) × (d ≡ false)
none-of-four a b c d e =
    let p = neither a (b || (c || d)) (not-true (a || (b || (c || d))) e) in let q = neither b (c || d) p.1 in let r = neither c d q.1 in (p.0, q.0, r.0, r.1)

abbrev IsNumber : Value → Type 0
IsNumber (number n) = Unit {0}
IsNumber v = ⊥

abbrev IsText : Value → Type 0
IsText (string s) = Unit {0}
IsText v = ⊥

number-so : (ks : Kinds) (v : Value) → IsAmong ks v → only_numbers ks ≡ true → IsNumber v
number-so ks v h e = by v h (none-of-four ks.blank ks.truth ks.text ks.many e)
  where
    by : (w : Value) → IsAmong ks w → (ks.blank ≡ false) × (ks.truth ≡ false) × (ks.text ≡ false) × (ks.many ≡ false) → IsNumber w
    by nothing h p = apart ks.blank h p.0
    by null h p = apart ks.blank h p.0
    by (boolean b) h p = apart ks.truth h p.1
    by (number n) h p = tt
    by (string s) h p = apart ks.text h p.2
    by (sequence vs) h p = apart ks.many h p.3
    by (mapping es) h p = apart ks.many h p.3

text-so : (ks : Kinds) (v : Value) → IsAmong ks v → only_texts ks ≡ true → IsText v
text-so ks v h e = by v h (none-of-four ks.blank ks.truth ks.number ks.many e)
  where
    by : (w : Value) → IsAmong ks w → (ks.blank ≡ false) × (ks.truth ≡ false) × (ks.number ≡ false) × (ks.many ≡ false) → IsText w
    by nothing h p = apart ks.blank h p.0
    by null h p = apart ks.blank h p.0
    by (boolean b) h p = apart ks.truth h p.1
    by (number n) h p = apart ks.number h p.2
    by (string s) h p = tt
    by (sequence vs) h p = apart ks.many h p.3
    by (mapping es) h p = apart ks.many h p.3

two-numbers : (v w : Value) → IsNumber v → IsNumber w → Compared (order v w) × Compared (equality v w)
two-numbers (number a) (number b) h g = (tt, tt)
two-numbers (number a) _ h g = absurd g
two-numbers _ w h g = absurd h

two-texts : (v w : Value) → IsText v → IsText w → Compared (order v w) × Compared (equality v w)
two-texts (string a) (string b) h g = (tt, tt)
two-texts (string a) _ h g = absurd g
two-texts _ w h g = absurd h

ordered-so : (a b : Kinds) (v w : Value) → IsAmong a v → IsAmong b w → orderable a b ≡ true → Compared (order v w) × Compared (equality v w)
ordered-so a b v w h g e =
    elim (or_cases _ _ e) [
      | inl x ↦ let p = and_parts (only_numbers a) (only_numbers b) x in two-numbers v w (number-so a v h p.0) (number-so b w g p.1)
      | inr x ↦ let p = and_parts (only_texts a) (only_texts b) x in two-texts v w (text-so a v h p.0) (text-so b w g p.1)
    ]

at-most-so : (v w : Value) → Compared (order v w) × Compared (equality v w) → Compared (at_most v w)
at-most-so v w c = by (order v w) c.0
  where
    by : (o : Option Bool) → Compared o → Compared (option_and_then (λ below. if below then Some true else equality v w) o)
    by None h = h
    by (Some true) h = tt
    by (Some false) h = c.1

-- ---- sizes

abbrev IsSized : Option ℕ → Type 0
IsSized None = ⊥
IsSized (Some n) = Unit {0}

sized : (ks : Kinds) (v : Value) → IsAmong ks v → is_sized ks ≡ true → IsSized (size_of v)
sized ks v h e =
    let p = neither ks.blank (ks.truth || ks.number) (not-true (ks.blank || (ks.truth || ks.number)) e) in
    let q = neither ks.truth ks.number p.1 in by v h (p.0, q.0, q.1)
  where
    by : (w : Value) → IsAmong ks w → (ks.blank ≡ false) × (ks.truth ≡ false) × (ks.number ≡ false) → IsSized (size_of w)
    by nothing h p = absurd (apart ks.blank h p.0)
    by null h p = absurd (apart ks.blank h p.0)
    by (boolean b) h p = absurd (apart ks.truth h p.1)
    by (number n) h p = absurd (apart ks.number h p.2)
    by _ h p = tt

module _ (base : Base) (N : Names) (means : Means base.defs N) where
  abbrev pub HaveShapes : List Shape → List Value → Type 0
  HaveShapes [] [] = Unit {0}
  HaveShapes (s ∷ ss) (v ∷ vs) = HasShape N s v × HaveShapes ss vs
  HaveShapes ss vs = ⊥

  -- a value of a shape is of a kind of which there may be values
  pub among : (s : Shape) (v : Value) → HasShape N s v → IsAmong (kinds_of base s) v
  among s v h = by (kind_of v) ((has_kind-has base N means) s v h)
    where
      by : (k : Kind) → has_kind base k s ≡ true → has (kinds_of base s) k ≡ true
      by Blank e = e
      by _ e = e

  pub all-among : (ss : List Shape) (vs : List Value) → HaveShapes ss vs → AreAmong (map (kinds_of base) ss) vs
  all-among [] [] h = tt
  all-among (s ∷ ss) (v ∷ vs) h = (among s v h.0, all-among ss vs h.1)
  all-among _ _ h = absurd h

  abbrev told : Func → Result Value CallFault → Result Value Cause
  told f r = result_map_both (λ v. v) (call_failed f) r

  one-gives : (n : Func) (f : Kinds → Option Shape) (g : Value → Result Value CallFault) → ((a : Kinds) (v : Value) → IsAmong a v → (Gives base N means) (f a) (told n (g v)))
      → (ks : List Kinds) (vs : List Value) → AreAmong ks vs → (Gives base N means) (one_kind f ks) (told n (given_for (one g) vs))
  one-gives n f g k [] vs h = tt
  one-gives n f g k (a ∷ []) [] h = absurd h
  one-gives n f g k (a ∷ []) (v ∷ []) h = k a v h.0
  one-gives n f g k (a ∷ []) (v ∷ w ∷ vs) h = absurd h.1
  one-gives n f g k (a ∷ b ∷ ks) vs h = tt

  two-give : (n : Func) (f : Kinds → Kinds → Option Shape) (g : Value → Value → Option Bool)
      → ((a b : Kinds) (v w : Value) → IsAmong a v → IsAmong b w → (Gives base N means) (f a b) (told n (ok_or (option_map boolean (g v w)) NotComparable)))
      → (ks : List Kinds) (vs : List Value) → AreAmong ks vs → (Gives base N means) (two_kinds f ks) (told n (given_for (two (λ v w. comparison_answer (g v w))) vs))
  two-give n f g k [] vs h = tt
  two-give n f g k (a ∷ []) vs h = tt
  two-give n f g k (a ∷ b ∷ []) [] h = absurd h
  two-give n f g k (a ∷ b ∷ []) (v ∷ []) h = absurd h.1
  two-give n f g k (a ∷ b ∷ []) (v ∷ w ∷ []) h = k a b v w h.0 h.1.0
  two-give n f g k (a ∷ b ∷ []) (v ∷ w ∷ x ∷ vs) h = absurd h.1.1
  two-give n f g k (a ∷ b ∷ c ∷ ks) vs h = tt

  compared-gives : (n : Func) (o : Option Bool) → Compared o → (Gives base N means) (Some truths) (told n (ok_or (option_map boolean o) NotComparable))
  compared-gives n None h = absurd h
  compared-gives n (Some c) h = tt

  truths-if-gives : (n : Func) (a : Bool) (o : Option Bool) → (a ≡ true → Compared o) → (Gives base N means) (truths_if a) (told n (ok_or (option_map boolean o) NotComparable))
  truths-if-gives n false o h = tt
  truths-if-gives n true o h = compared-gives n o (h refl)

  eq-gives : (ks : List Kinds) (vs : List Value) → AreAmong ks vs
      → (Gives base N means) (equal_shape ks) (told func.Eq (given_for (two_or_more (λ v w ws. comparison_answer (equal_to_one v (w ∷ ws)))) vs))
  eq-gives [] vs h = tt
  eq-gives (a ∷ []) vs h = tt
  eq-gives (a ∷ b ∷ bs) [] h = absurd h
  eq-gives (a ∷ b ∷ bs) (v ∷ []) h = absurd h.1
  eq-gives (a ∷ b ∷ bs) (v ∷ w ∷ ws) h =
      truths-if-gives func.Eq (comparable_to_all a (b ∷ bs)) (equal_to_one v (w ∷ ws)) (equal-so a v h.0 (b ∷ bs) (w ∷ ws) h.1)

  size-gives : (ks : Kinds) (v : Value) → IsAmong ks v → (c : Bool) → is_sized ks ≡ c
      → (Gives base N means) (numbers_if c) (told func.Len (ok_or (option_map (λ n. number (pos n)) (size_of v)) WrongKind))
  size-gives ks v h false e = tt
  size-gives ks v h true e = by (size_of v) (sized ks v h e)
    where
      by : (o : Option ℕ) → IsSized o → (Gives base N means) (Some numbers) (told func.Len (ok_or (option_map (λ n. number (pos n)) o) WrongKind))
      by None h = h
      by (Some n) h = tt

  kinds-give : (f : Func) (ks : List Kinds) (vs : List Value) → AreAmong ks vs → (Gives base N means) (kinds_shape f ks) (apply_function f vs).result
  kinds-give func.Not ks vs h = one-gives func.Not _ _ (λ a v k. tt) ks vs h
  kinds-give func.Len ks vs h = one-gives func.Len _ _ (λ a v k. size-gives a v k (is_sized a) refl) ks vs h
  kinds-give func.Eq ks vs h = eq-gives ks vs h
  kinds-give func.Ne ks vs h =
      two-give func.Ne _ _ (λ a b v w x y. truths-if-gives func.Ne (comparable a b) _ (λ e. opposite (equality v w) (comparable-so a b v w x y e))) ks vs h
  kinds-give func.Lt ks vs h = two-give func.Lt _ _ (λ a b v w x y. truths-if-gives func.Lt (orderable a b) _ (λ e. (ordered-so a b v w x y e).0)) ks vs h
  kinds-give func.Le ks vs h =
      two-give func.Le _ _ (λ a b v w x y. truths-if-gives func.Le (orderable a b) _ (λ e. at-most-so v w (ordered-so a b v w x y e))) ks vs h
  kinds-give func.Gt ks vs h =
      two-give func.Gt _ _ (λ a b v w x y. truths-if-gives func.Gt (orderable a b) _ (λ e. opposite (at_most v w) (at-most-so v w (ordered-so a b v w x y e)))) ks vs h
  kinds-give func.Ge ks vs h =
      two-give func.Ge _ _ (λ a b v w x y. truths-if-gives func.Ge (orderable a b) _ (λ e. opposite (order v w) (ordered-so a b v w x y e).0)) ks vs h
  kinds-give _ ks vs h = tt

  pub call-gives : (f : Func) (ss : List Shape) (vs : List Value) → HaveShapes ss vs → (Gives base N means) (call_shape base f ss) (apply_function f vs).result
  call-gives f ss vs h = kinds-give f (map (kinds_of base) ss) vs (all-among ss vs h)
