-- For `refuse_second`: the second definition of a name that is found is the first there is.
use Rattle.std.proofs.Common.{◌≡◌, ◌∙◌, ℕ, ◌+◌, Bool, true, false, List, [], ◌∷◌, ◌++◌, Option, Some, None, refl, sym, ap, subst}
use Rattle.std.proofs.Common.{arith, append_assoc, append-nil, length, length-append, take, drop, get_or, map, not, ◌&&◌, ◌||◌, ◌<◌, bytes_eq}
use Rattle.std.specs.Prelude.{slice_get, Contains}
use Rattle.std.specs.Bool.{Decides}
use Rattle.std.specs.List.{HoldsAt}
use Rattle.std.specs.Option.{option_map, option_or}
use Rattle.std.proofs.lemmas.Bool.{not-true}
use Rattle.std.proofs.lemmas.Bool.Decides.{Decides-and, Decides-by_or}
use Rattle.std.proofs.lemmas.List.{drop_more, take-append-drop, get_or-take, get_or_append_left, length-take, length-map}
use lib.Seq.{get_or-append_seam}
use Rattle.std.proofs.lemmas.List.Elements.{Contains-get_or, at_from_Contains}
use Rattle.std.proofs.lemmas.Option.{slice_get_read, slice_get_within, slice_get-map, get_or_from_slice_get}
use Rattle.std.proofs.lemmas.Slice.Eq.{bytes_eq-Decides}
use Rattle.tmpl_syntax.specs.Tree.{Definition}
use Rattle.tmpl_syntax.specs.View.{nodes_in}
use Rattle.tmpl_syntax.specs.computed.Begun.{definition_at}
use Rattle.tmpl_syntax.specs.computed.View.{definition_of}
use Rattle.tmpl_syntax.specs.declared.tree.Definition as held
use Rattle.tmpl_syntax.specs.Place.Role.{Name}
use Rattle.tmpl_syntax.specs.Set.{is_blank}
use Rattle.tmpl_syntax.specs.Parse.{NoneSecond, HasSecond}
use Rattle.tmpl_syntax.specs.computed.Frames.{is_known}
use Rattle.tmpl_syntax.specs.computed.Parse.{second_if, second_from, second_in}

-- ---- a second definition, by the list before it

-- among these definitions is one of the same name as that one, and neither is blank
abbrev IsSecond : List Definition → Definition → Type 0
IsSecond earlier d =
    (first : Definition) × Contains earlier first × (first.name ≡ d.name) × (is_blank first.nodes ≡ false) × (is_blank d.nodes ≡ false)

abbrev Once : List Definition → Type 0
Once ds = (before : List Definition) (d : Definition) (after : List Definition) → ds ≡ before ++ d ∷ after → IsSecond before d → ⊥

once-none : (ds : List Definition) → Once ds → NoneSecond ds
once-none ds once i j d lt within same = by (is_blank (get_or ds i d).nodes) (is_blank (get_or ds j d).nodes) refl refl
  where
    split : ds ≡ take j ds ++ get_or ds j d ∷ drop (j + 1) ds
    split = sym (take-append-drop j ds) ∙ ap (λ es. take j ds ++ es) (drop_more ds j d within)

    earlier : Contains (take j ds) (get_or ds i d)
    earlier = subst (Contains (take j ds)) (get_or-take j ds i d lt) (Contains-get_or (take j ds) i d (omega (arith, length-take j ds)))

    by : (a b : Bool) → is_blank (get_or ds i d).nodes ≡ a → is_blank (get_or ds j d).nodes ≡ b → (a || b) ≡ true
    by true b e f = refl
    by false true e f = refl
    by false false e f = absurd (once (take j ds) (get_or ds j d) (drop (j + 1) ds) split (get_or ds i d, earlier, same, e, f))

none-apart : (before : List Definition) (d : Definition) (after : List Definition) → NoneSecond (before ++ d ∷ after) → IsSecond before d → ⊥
none-apart before d after none (first, has, same, some, new) =
    let (k, lt, at) = at_from_Contains before first has in
    let both = none k (length before) d lt (omega (arith, length-append before (d ∷ after))) in
    let pair = rw (get_or_append_left before (d ∷ after) d k lt, at d, get_or-append_seam before d after d) at both in
    let blank = rw (some, new) at pair same in cc

-- what holds of definitions holds of the first of them
none-part : (before : List Definition) (d : Definition) (after : List Definition) → NoneSecond (before ++ d ∷ after) → NoneSecond (before ++ d ∷ [])
none-part before d after none = once-none (before ++ d ∷ []) (λ bs e es are s. none-apart bs e (es ++ after)
    (subst NoneSecond (sym (append_assoc before (d ∷ []) after) ∙ ap (λ ds. ds ++ after) are ∙ append_assoc bs (e ∷ es) after) none) s)

-- ---- the names of those that are not blank

abbrev kept_if : Bool → Name → List Name → List Name
kept_if true n ns = ns
kept_if false n ns = n ∷ ns

abbrev kept : List Definition → List Name
kept [] = []
kept (d ∷ ds) = kept_if (is_blank d.nodes) d.name (kept ds)

-- a definition that is not blank has this name
abbrev Names : Name → Definition → Type 0
Names n d = (not (is_blank d.nodes) ≡ true) × (n ≡ d.name)

known-is : (n : Name) (ds : List Definition) → Decides (is_known (kept ds) n) ((k : ℕ) × (k < length ds) × HoldsAt (Names n) ds k)
known-is n ds = Decides-by_or (λ d. not (is_blank d.nodes) && bytes_eq n d.name) (Names n) (λ es. is_known (kept es) n)
    (λ d. Decides-and _ _ (λ e. e, λ e. e) (bytes_eq-Decides n d.name)) refl more ds
  where
    more : (d : Definition) (es : List Definition) → is_known (kept (d ∷ es)) n ≡ ((not (is_blank d.nodes) && bytes_eq n d.name) || is_known (kept es) n)
    more d es = by (is_blank d.nodes)
      where
        by : (b : Bool) → is_known (kept_if b d.name (kept es)) n ≡ ((not b && bytes_eq n d.name) || is_known (kept es) n)
        by true = refl
        by false = refl

known-second : (earlier : List Definition) (d : Definition) → is_blank d.nodes ≡ false → is_known (kept earlier) d.name ≡ true → IsSecond earlier d
known-second earlier d some e =
    let (k, within, at) = (known-is d.name earlier).0 e in
    (get_or earlier k d, Contains-get_or earlier k d within, sym (at d).1, not-true _ (at d).0, some)

second-known : (earlier : List Definition) (d : Definition) → IsSecond earlier d → is_known (kept earlier) d.name ≡ true
second-known earlier d s =
    let (k, within, at) = at_from_Contains earlier s.0 s.1 in
    (known-is d.name earlier).1 (k, within, λ x. subst (Names d.name) (sym (at x)) (ap not s.3, sym s.2))

-- ---- a list in two parts

-- a second definition is in the first, or in the other one, after the names of the first
abbrev Walked : List Name → List Definition → List Definition → Type 0
Walked names ds es = second_from names (ds ++ es) ≡ option_or (second_from names ds) (second_from (names ++ kept ds) es)

walk : (names : List Name) (ds es : List Definition) → Walked names ds es
walk names [] es = ap (λ ns. second_from ns es) (sym (append-nil names))
walk names (d ∷ ds) es = by (is_blank d.nodes) (is_known names d.name) (walk names ds es) (walk (names ++ d.name ∷ []) ds es)
  where
    by : (blank known : Bool) → Walked names ds es → Walked (names ++ d.name ∷ []) ds es
        → second_if blank known d.line (second_from names (ds ++ es)) (second_from (names ++ d.name ∷ []) (ds ++ es))
        ≡ option_or (second_if blank known d.line (second_from names ds) (second_from (names ++ d.name ∷ []) ds))
        (second_from (names ++ kept_if blank d.name (kept ds)) es)
    by true known e f = e
    by false true e f = refl
    by false false e f = f ∙ ap (λ ns. option_or (second_from (names ++ d.name ∷ []) ds) (second_from ns es)) (append_assoc names (d.name ∷ []) (kept ds))

-- a second definition after others
at-second : (before : List Definition) (d : Definition) (after : List Definition) → IsSecond before d
    → second_in (before ++ d ∷ after) ≡ option_or (second_in before) (Some d.line)
unfolding second_in
at-second before d after s = walk [] before (d ∷ after) ∙ rw (s.4, second-known before d s)

-- ---- what is found

none-once-in : (ds : List Definition) → second_in ds ≡ None → Once ds
none-once-in ds e before d after are s = by (second_in before) (sym (at-second before d after s) ∙ ap second_in (sym are) ∙ e)
  where
    by : (o : Option ℕ) → option_or o (Some d.line) ≡ None → ⊥
    by None n = cc
    by (Some line) n = cc

pub none-second : (ds : List Definition) → second_in ds ≡ None → NoneSecond ds
none-second ds e = once-none ds (none-once-in ds e)

-- what is found is the first one, after definitions of which none is a second one
abbrev Found : List Name → List Definition → ℕ → Type 0
Found names ds line =
    (before : List Definition) × (d : Definition) × (after : List Definition) × (ds ≡ before ++ d ∷ after)
    × (second_from names before ≡ None) × (is_blank d.nodes ≡ false) × (is_known (names ++ kept before) d.name ≡ true) × (line ≡ d.line)

found : (names : List Name) (ds : List Definition) (line : ℕ) → second_from names ds ≡ Some line → Found names ds line
found names [] line e = cc
found names (d ∷ ds) line e =
    by (is_blank d.nodes) (is_known names d.name) refl refl (found names ds line) (found (names ++ d.name ∷ []) ds line) e
  where
    by : (blank known : Bool) → is_blank d.nodes ≡ blank → is_known names d.name ≡ known → (second_from names ds ≡ Some line → Found names ds line)
        → (second_from (names ++ d.name ∷ []) ds ≡ Some line → Found (names ++ d.name ∷ []) ds line)
        → second_if blank known d.line (second_from names ds) (second_from (names ++ d.name ∷ []) ds) ≡ Some line → Found names (d ∷ ds) line
    by true known b k old new e = let f = old e in (d ∷ f.0, f.1, f.2, ap (λ es. d ∷ es) f.3, rw b f.4, f.5, rw b f.6, f.7)
    by false true b k old new e = ([], d, ds, refl, refl, b, rw append-nil k, cc)
    by false false b k old new e =
        let f = new e in (d ∷ f.0, f.1, f.2, ap (λ es. d ∷ es) f.3, rw (b, k) f.4, f.5, rw b (rw append_assoc at f.6), f.7)

pub has-second : (ds : List Definition) (line : ℕ) → second_in ds ≡ Some line → HasSecond ds line
unfolding second_in
has-second ds line e =
    let f = found [] ds line e in
    (f.0, f.1, f.2, f.3, none-second f.0 f.4, λ none. none-apart f.0 f.1 [] none (known-second f.0 f.1 f.5 f.6), f.7)

-- ---- there is one answer

pub second-none : (ds : List Definition) → NoneSecond ds → second_in ds ≡ None
second-none ds none = by (second_in ds) refl
  where
    by : (o : Option ℕ) → second_in ds ≡ o → o ≡ None
    by None e = refl
    by (Some line) e = let s = has-second ds line e in absurd (s.5 (none-part s.0 s.1 s.2 (subst NoneSecond s.3 none)))

-- the definition with which none-second no longer holds is a second one
last-second : (before : List Definition) (d : Definition) → NoneSecond before → (NoneSecond (before ++ d ∷ []) → ⊥) → IsSecond before d
unfolding second_in
last-second before d none not = by (is_blank d.nodes) (is_known (kept before) d.name) refl refl
  where
    alone : second_in (before ++ d ∷ []) ≡ second_if (is_blank d.nodes) (is_known (kept before) d.name) d.line None None
    alone = walk [] before (d ∷ []) ∙ ap (λ o. option_or o (second_from (kept before) (d ∷ []))) (second-none before none)

    by : (blank known : Bool) → is_blank d.nodes ≡ blank → is_known (kept before) d.name ≡ known → IsSecond before d
    by false true e f = known-second before d e f
    by true k e f = absurd (not (none-second (before ++ d ∷ []) (alone ∙ rw e refl)))
    by false false e f = absurd (not (none-second (before ++ d ∷ []) (alone ∙ rw (e, f) refl)))

pub second-some : (ds : List Definition) (line : ℕ) → HasSecond ds line → second_in ds ≡ Some line
second-some ds line s = simp (s.3, at-second s.0 s.1 s.2 (last-second s.0 s.1 s.4 s.5), second-none s.0 s.4, s.6)

-- ---- one after the other

pub drop-next : {A : Type 0} (xs : List A) (i : ℕ) (x : A) → slice_get xs i ≡ Some x → drop i xs ≡ x ∷ drop (i + 1) xs
drop-next xs i x at = drop_more xs i x (slice_get_within xs i x at) ∙ ap (λ y. y ∷ drop (i + 1) xs) (get_or_from_slice_get xs i x x at)

module _ (f : held.Definition → Definition) (names : List Name) (held_ds : List held.Definition) (i : ℕ) (d : held.Definition) (lt : i < length held_ds)
    (is : d ≡ get_or held_ds i d) where
  abbrev ds : List Definition
  ds = map f held_ds

  abbrev without : Option ℕ
  without = second_from names (drop (i + 1) ds)

  abbrev with_it : Option ℕ
  with_it = second_from (names ++ (f d).name ∷ []) (drop (i + 1) ds)

  -- the definition at a place decides, or what stands after it
  next : second_from names (drop i ds) ≡ second_if (is_blank (f d).nodes) (is_known names (f d).name) (f d).line without with_it
  next =
      let at : slice_get ds i ≡ Some (f d) = slice_get-map f held_ds i ∙ ap (option_map f) (slice_get_read held_ds (length held_ds) i d refl lt is) in
      ap (second_from names) (drop-next ds i (f d) at)

  blank-next : is_blank (f d).nodes ≡ true → second_from names (drop i ds) ≡ without
  blank-next blank = next ∙ rw blank

  known-next : is_blank (f d).nodes ≡ false → is_known names (f d).name ≡ true → second_from names (drop i ds) ≡ Some (f d).line
  known-next blank known = next ∙ rw (blank, known)

  new-next : is_blank (f d).nodes ≡ false → is_known names (f d).name ≡ false → second_from names (drop i ds) ≡ with_it
  new-next blank known = next ∙ rw (blank, known)

module _ (names : List Name) (held_ds : List held.Definition) (i : ℕ) (d : held.Definition) (lt : i < length held_ds) (is : d ≡ get_or held_ds i d) where
  pub next-blank : is_blank (nodes_in d.nodes.items) ≡ true
      → second_from names (drop i (map definition_of held_ds)) ≡ second_from names (drop (i + 1) (map definition_of held_ds))
  next-blank blank = blank-next definition_of names held_ds i d lt is blank

  pub next-known : is_blank (nodes_in d.nodes.items) ≡ false → is_known names d.name ≡ true
      → second_from names (drop i (map definition_of held_ds)) ≡ Some d.line
  next-known blank known = known-next definition_of names held_ds i d lt is blank known

  pub next-new : is_blank (nodes_in d.nodes.items) ≡ false → is_known names d.name ≡ false
      → second_from names (drop i (map definition_of held_ds)) ≡ second_from (names ++ d.name ∷ []) (drop (i + 1) (map definition_of held_ds))
  next-new blank known = new-next definition_of names held_ds i d lt is blank known

  -- .. and so where each has the byte at which it begins in place of its line
  pub begun-blank : is_blank (nodes_in d.nodes.items) ≡ true
      → second_from names (drop i (map definition_at held_ds)) ≡ second_from names (drop (i + 1) (map definition_at held_ds))
  begun-blank blank = blank-next definition_at names held_ds i d lt is blank

  pub begun-known : is_blank (nodes_in d.nodes.items) ≡ false → is_known names d.name ≡ true
      → second_from names (drop i (map definition_at held_ds)) ≡ Some d.start
  begun-known blank known = known-next definition_at names held_ds i d lt is blank known

  pub begun-new : is_blank (nodes_in d.nodes.items) ≡ false → is_known names d.name ≡ false
      → second_from names (drop i (map definition_at held_ds)) ≡ second_from (names ++ d.name ∷ []) (drop (i + 1) (map definition_at held_ds))
  begun-new blank known = new-next definition_at names held_ds i d lt is blank known

-- a single definition is no second one
pub few-second : (ds : List Definition) → length ds < 2 → second_in ds ≡ None
unfolding second_in
few-second [] lt = refl
few-second (d ∷ []) lt = by (is_blank d.nodes)
  where
    by : (b : Bool) → second_if b false d.line None None ≡ None
    by true = refl
    by false = refl
few-second (d ∷ e ∷ ds) lt = absurd (omega (arith, lt))

pub ruleset seconds = (next-blank, next-known, next-new, begun-blank, begun-known, begun-new, few-second, length-map)
