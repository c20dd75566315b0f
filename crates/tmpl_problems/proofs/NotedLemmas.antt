-- The variables that a survey notes are those that the pieces declare, each with whether it is used.
use Rattle.std.proofs.Common.{arith, ◌≡◌, ◌∙◌, ◌≤◌, ◌<◌, ◌+◌, ◌==◌, nat_le, ℕ, Bool, true, false, ◌&&◌, ◌||◌, cond, List, [], ◌∷◌, ◌++◌, length, map, fold, flat_map, Some, None, Bor, bytes_eq, is_some, refl, sym, ap, subst}
use Rattle.std.proofs.Common.{append_assoc}
use Rattle.std.specs.List.{AllZip, AllByRecursion, enumerate_from, list_any}
use Rattle.std.specs.Map.{lookup, set_value}
use Rattle.std.specs.Prelude.{if◌then◌else◌}
use Rattle.std.proofs.lemmas.List.{append-nil, length-map}
use Rattle.std.proofs.lemmas.List.Elements.{All-append, All-cons, All-head, All-nil, All-tail}
use Rattle.std.proofs.lemmas.List.Folds.{list_any-append}
use Rattle.std.proofs.lemmas.Slice.Eq.{bytes_eq-Decides}
use Rattle.std.proofs.lemmas.Bool.Decides.{nat_tests}
use Rattle.std.proofs.lemmas.Option.{same_Some}
use Rattle.std.proofs.lemmas.Grind.{flat_map-append}
use Rattle.indexmap.specs.IndexMap.{insert_entry}
use Rattle.tmpl_lex.specs.Begin.{BeginsAt}
use Rattle.tmpl_lex.specs.Piece.{Token, Piece, action}
use Rattle.tmpl_lex.specs.Text.{text_piece}
use Rattle.tmpl_syntax.proofs.BeginLemmas.{begins-within}
use Rattle.tmpl_syntax.specs.Column.{IsPlace}
use Rattle.tmpl_syntax.specs.declared.column.Place.{Place}
use Rattle.tmpl_problems.specs.Survey.{Declared, declared_from, declared_in, firsts, is_used, tokens_in, used_from}
use Rattle.tmpl_problems.specs.Tokens.{declared_names, used_names}
use Rattle.tmpl_problems.specs.computed.Adds.{ArePlaced, IsNoted, Passes, mark, mark_each, note, note_each}
use Rattle.tmpl_problems.specs.declared.survey.Variable.{Variable}
use Rattle.tmpl_problems.proofs.StepLemmas.{enumerate-append, zip-append}

nat_le-false : (m n : ℕ) → n < m → nat_le m n ≡ false
nat_le-false m n h = grind (arith, nat_tests)

nat_le-true : (m n : ℕ) → m ≤ n → nat_le m n ≡ true
nat_le-true m n h = grind (arith, nat_tests)

-- ---- what the calls of a map leave

pub note-absent : (name : Bor (List ℕ)) (v : Variable) (es : List (Bor (List ℕ) × Variable)) → list_any (λ e. bytes_eq name.now e.0.now) es ≡ false
    → es ++ (name, v) ∷ [] ≡ note name v es
note-absent name v es none = rw none refl

pub note-there : (name : Bor (List ℕ)) (v : Variable) (es : List (Bor (List ℕ) × Variable)) → list_any (λ e. bytes_eq name.now e.0.now) es ≡ true → es ≡ note name v es
note-there name v es there = rw there refl

pub lookup-any : {K X : Type 0} (test : K → Bool) (es : List (K × X)) → is_some (lookup test es) ≡ list_any (λ e. test e.0) es
lookup-any test [] = refl
lookup-any test (e ∷ es) = go (test e.0) (lookup-any test es)
  where
    go : (b : Bool) → is_some (lookup test es) ≡ list_any (λ e. test e.0) es → is_some (cond b (Some e.1) (lookup test es)) ≡ (b || list_any (λ e. test e.0) es)
    go true ih = refl
    go false ih = ih

pub insert-new : {K X : Type 0} (eq : K → K → Bool) (es : List (K × X)) (k : K) (v : X) → list_any (λ e. eq k e.0) es ≡ false → insert_entry eq es k v ≡ es ++ (k, v) ∷ []
insert-new eq [] k v none = refl
insert-new eq (e ∷ es) k v none = go (eq k e.0) none (insert-new eq es k v)
  where
    go : (b : Bool) → (b || list_any (λ e. eq k e.0) es) ≡ false → (list_any (λ e. eq k e.0) es ≡ false → insert_entry eq es k v ≡ es ++ (k, v) ∷ [])
        → cond b ((e.0, v) ∷ es) (e ∷ insert_entry eq es k v) ≡ e ∷ (es ++ (k, v) ∷ [])
    go true none ih = absurd (cc)
    go false none ih = ap (λ l. e ∷ l) (ih none)

-- of a test that goes by the name
module _ (test : Bor (List ℕ) → Bool) (name : List ℕ) (same : (k : Bor (List ℕ)) → test k ≡ bytes_eq name k.now) where
  pub marks-found : (es : List (Bor (List ℕ) × Variable)) (v : Variable) → lookup test es ≡ Some v → set_value test es (record { place = v.place; is_used = true }) ≡ mark name es
  marks-found [] v is = refl
  marks-found (e ∷ es) v is = go (test e.0) (same e.0) is (marks-found es v)
    where
      go : (b : Bool) → b ≡ bytes_eq name e.0.now → cond b (Some e.1) (lookup test es) ≡ Some v
          → (lookup test es ≡ Some v → set_value test es (record { place = v.place; is_used = true }) ≡ mark name es)
          → cond b ((e.0, record { place = v.place; is_used = true }) ∷ es) (e ∷ set_value test es (record { place = v.place; is_used = true })) ≡ mark name (e ∷ es)
      go true eq is ih = let it : e.1 ≡ v = same_Some e.1 v is in rw (← eq, it) refl
      go false eq is ih = rw (← eq) (ap (λ l. e ∷ l) (ih is))

  pub marks-none : (es : List (Bor (List ℕ) × Variable)) → lookup test es ≡ None → es ≡ mark name es
  marks-none [] is = refl
  marks-none (e ∷ es) is = go (test e.0) (same e.0) is (marks-none es)
    where
      go : (b : Bool) → b ≡ bytes_eq name e.0.now → cond b (Some e.1) (lookup test es) ≡ None → (lookup test es ≡ None → es ≡ mark name es) → e ∷ es ≡ mark name (e ∷ es)
      go true eq is ih = cc
      go false eq is ih = rw (← eq) (ap (λ l. e ∷ l) (ih is))

-- ---- places

fold-keeps : {A B : Type 0} (P : B → Type 0) (f : B → A → B) → ((b : B) (a : A) → P b → P (f b a)) → (xs : List A) (b : B) → P b → P (fold f b xs)
fold-keeps P f keeps [] b p = p
fold-keeps P f keeps (x ∷ xs) b p = fold-keeps P f keeps xs (f b x) (keeps b x p)

module _ (file : List ℕ) where
  note-placed : (name : Bor (List ℕ)) (v : Variable) (es : List (Bor (List ℕ) × Variable)) → IsPlace file v.place → ArePlaced file es → ArePlaced file (note name v es)
  note-placed name v es is all = go (list_any (λ e. bytes_eq name.now e.0.now) es)
    where
      go : (b : Bool) → ArePlaced file (if b then es else es ++ (name, v) ∷ [])
      go true = all
      go false = All-append (λ e. IsPlace file e.1.place) es ((name, v) ∷ []) all (All-cons (λ e. IsPlace file e.1.place) (name, v) [] is (All-nil (λ e. IsPlace file e.1.place)))

  mark-placed : (name : List ℕ) (es : List (Bor (List ℕ) × Variable)) → ArePlaced file es → ArePlaced file (mark name es)
  mark-placed name [] all = all
  mark-placed name (e ∷ es) all = go (bytes_eq name e.0.now) (All-head (λ e. IsPlace file e.1.place) e es all) (All-tail (λ e. IsPlace file e.1.place) e es all)
      (mark-placed name es (All-tail (λ e. IsPlace file e.1.place) e es all))
    where
      go : (b : Bool) → IsPlace file e.1.place → ArePlaced file es → ArePlaced file (mark name es)
          → ArePlaced file (if b then (e.0, record { place = e.1.place; is_used = true }) ∷ es else e ∷ mark name es)
      go true head tail ih = All-cons (λ e. IsPlace file e.1.place) _ es head tail
      go false head tail ih = All-cons (λ e. IsPlace file e.1.place) e (mark name es) head ih

  pub passes-placed : (opens : ℕ) (ts : List Token) (old new : List (Bor (List ℕ) × Variable)) → Passes file opens ts old new → ArePlaced file old → ArePlaced file new
  passes-placed opens ts old new p all =
      let n = p.notes in
      let noted : ArePlaced file p.noted = subst (ArePlaced file) (sym n.entries) (fold-keeps (ArePlaced file) _ (λ es x. note-placed x.1 _ es n.is_place) (enumerate_from 0 n.names) old all) in
      subst (ArePlaced file) (sym p.marks) (fold-keeps (ArePlaced file) _ (λ es name. mark-placed name es) (used_names ts) p.noted noted)

-- ---- the first of each name

known_after : List (List ℕ) → List Declared → List (List ℕ)
known_after known [] = known
known_after known (d ∷ ds) = known_after (d.name ∷ known) ds

bytes_eq-swap : (k l : List ℕ) → bytes_eq k l ≡ bytes_eq l k
bytes_eq-swap k l = by (bytes_eq k l) (bytes_eq l k) refl refl
  where
    by : (b c : Bool) → bytes_eq k l ≡ b → bytes_eq l k ≡ c → b ≡ c
    by true true p q = refl
    by true false p q = let e : k ≡ l = (bytes_eq-Decides k l).0 p in let r : bytes_eq l k ≡ true = (bytes_eq-Decides l k).1 (sym e) in sym r ∙ q
    by false true p q = let e : l ≡ k = (bytes_eq-Decides l k).0 q in let r : bytes_eq k l ≡ true = (bytes_eq-Decides k l).1 (sym e) in sym p ∙ r
    by false false p q = refl

or-swap : (a b c : Bool) → (b || (a || c)) ≡ ((a || b) || c)
or-swap true true c = refl
or-swap true false c = refl
or-swap false true c = refl
or-swap false false c = refl

or-known : (a b c : Bool) → (b ≡ false → a ≡ false) → (b || c) ≡ ((a || b) || c)
or-known true true c h = refl
or-known true false c h = absurd (let e = h refl in cc)
or-known false true c h = refl
or-known false false c h = refl

any-firsts : (n : List ℕ) (known : List (List ℕ)) (ds : List Declared)
    → (list_any (bytes_eq n) known || list_any (λ (d : Declared). bytes_eq n d.name) (firsts known ds)) ≡ list_any (bytes_eq n) (known_after known ds)
unfolding known_after
any-firsts n known [] = or-false (list_any (bytes_eq n) known)
  where
    or-false : (b : Bool) → (b || false) ≡ b
    or-false true = refl
    or-false false = refl
any-firsts n known (d ∷ ds) = go (list_any (bytes_eq d.name) known) refl ∙ any-firsts n (d.name ∷ known) ds
  where
    there : list_any (bytes_eq d.name) known ≡ true → list_any (bytes_eq n) known ≡ false → bytes_eq n d.name ≡ false
    there e f = by (bytes_eq n d.name) refl
      where
        by : (b : Bool) → bytes_eq n d.name ≡ b → b ≡ false
        by true same = let eq : n ≡ d.name = (bytes_eq-Decides n d.name).0 same in let g : list_any (bytes_eq n) known ≡ true = ap (λ m. list_any (bytes_eq m) known) eq ∙ e in absurd (let h = sym f ∙ g in cc)
        by false same = refl

    go : (b : Bool) → list_any (bytes_eq d.name) known ≡ b
        → (list_any (bytes_eq n) known || list_any (λ (d : Declared). bytes_eq n d.name) (if b then firsts (d.name ∷ known) ds else d ∷ firsts (d.name ∷ known) ds))
        ≡ (list_any (bytes_eq n) (d.name ∷ known) || list_any (λ (d : Declared). bytes_eq n d.name) (firsts (d.name ∷ known) ds))
    go true e = or-known (bytes_eq n d.name) (list_any (bytes_eq n) known) _ (there e)
    go false e = or-swap (bytes_eq n d.name) (list_any (bytes_eq n) known) _

firsts-more : (known : List (List ℕ)) (ds : List Declared) (d : Declared)
    → firsts known (ds ++ d ∷ []) ≡ (if list_any (bytes_eq d.name) (known_after known ds) then firsts known ds else firsts known ds ++ d ∷ [])
unfolding known_after
firsts-more known [] d = refl
firsts-more known (c ∷ ds) d = go (list_any (bytes_eq c.name) known) (list_any (bytes_eq d.name) (known_after (c.name ∷ known) ds)) (firsts-more (c.name ∷ known) ds d)
  where
    go : (b e : Bool) → firsts (c.name ∷ known) (ds ++ d ∷ []) ≡ (if e then firsts (c.name ∷ known) ds else firsts (c.name ∷ known) ds ++ d ∷ [])
        → (if b then firsts (c.name ∷ known) (ds ++ d ∷ []) else c ∷ firsts (c.name ∷ known) (ds ++ d ∷ []))
        ≡ (if e then (if b then firsts (c.name ∷ known) ds else c ∷ firsts (c.name ∷ known) ds)
        else (if b then firsts (c.name ∷ known) ds else c ∷ firsts (c.name ∷ known) ds) ++ d ∷ [])
    go true true ih = ih
    go true false ih = ih
    go false true ih = ap (λ l. c ∷ l) ih
    go false false ih = ap (λ l. c ∷ l) ih

-- ---- what is noted

module _ (file : List ℕ) where
  any-noted : (n : List ℕ) (uses : List (ℕ × List ℕ)) (ds : List Declared) (es : List (Bor (List ℕ) × Variable)) → AllZip (IsNoted file uses) ds es
      → list_any (λ e. bytes_eq n e.0.now) es ≡ list_any (λ (d : Declared). bytes_eq n d.name) ds
  any-noted n uses [] [] z = refl
  any-noted n uses [] (e ∷ es) z = absurd z
  any-noted n uses (d ∷ ds) [] z = absurd z
  any-noted n uses (d ∷ ds) (e ∷ es) z = let name = z.0.name in rw name (ap (λ b. bytes_eq n d.name || b) (any-noted n uses ds es z.1))

  none-after : (k : ℕ) (n : List ℕ) (uses : List (ℕ × List ℕ)) → AllByRecursion (λ u. u.0 < k) uses → list_any (λ u. nat_le k u.0 && bytes_eq n u.1) uses ≡ false
  none-after k n [] all = refl
  none-after k n (u ∷ uses) all = let apart = nat_le-false k u.0 all.0 in rw apart (none-after k n uses all.1)

  -- one more variable is declared
  note-more : (uses : List (ℕ × List ℕ)) (ds : List Declared) (es : List (Bor (List ℕ) × Variable)) (k : ℕ) (name : Bor (List ℕ)) (v : Variable)
      → AllByRecursion (λ u. u.0 < k) uses → BeginsAt file k v.place.start → IsPlace file v.place → AllZip (IsNoted file uses) (firsts [] ds) es
      → AllZip (IsNoted file uses) (firsts [] (ds ++ record { piece = k; name = name.now; is_first = v.is_used } ∷ [])) (note name v es)
  note-more uses ds es k name v before begins is z =
      let d : Declared = record { piece = k; name = name.now; is_first = v.is_used } in
      subst (λ fs. AllZip (IsNoted file uses) fs (note name v es)) (sym (firsts-more [] ds d))
      (go (list_any (bytes_eq name.now) (known_after [] ds)) (list_any (λ e. bytes_eq name.now e.0.now) es)
      (any-noted name.now uses (firsts [] ds) es z ∙ any-firsts name.now [] ds))
    where
      used : (b : Bool) → b ≡ (b || list_any (λ u. nat_le k u.0 && bytes_eq name.now u.1) uses)
      used true = refl
      used false = sym (none-after k name.now uses before)

      go : (b c : Bool) → c ≡ b
          → AllZip (IsNoted file uses) (if b then firsts [] ds else firsts [] ds ++ record { piece = k; name = name.now; is_first = v.is_used } ∷ []) (if c then es else es ++ (name, v) ∷ [])
      go true true e = z
      go true false e = absurd (cc)
      go false true e = absurd (cc)
      go false false e = zip-append (IsNoted file uses) (firsts [] ds) es (record { piece = k; name = name.now; is_first = v.is_used } ∷ []) ((name, v) ∷ []) z
          (record { name = refl; used = used v.is_used; begins = begins; place = is }, tt)

  declared_each : ℕ → ℕ → List (ℕ × Bor (List ℕ)) → List Declared
  declared_each k count xs = map (λ x. record { piece = k; name = x.1.now; is_first = count == 2 && x.0 == 0 }) xs

  note-all : (uses : List (ℕ × List ℕ)) (k count : ℕ) (place : Place) → AllByRecursion (λ u. u.0 < k) uses → BeginsAt file k place.start → IsPlace file place
      → (xs : List (ℕ × Bor (List ℕ))) (ds : List Declared) (es : List (Bor (List ℕ) × Variable)) → AllZip (IsNoted file uses) (firsts [] ds) es
      → AllZip (IsNoted file uses) (firsts [] (ds ++ declared_each k count xs))
      (fold (λ es x. note x.1 (record { place = place; is_used = count == 2 && x.0 == 0 }) es) es xs)
  unfolding declared_each
  note-all uses k count place before begins is [] ds es z = subst (λ l. AllZip (IsNoted file uses) (firsts [] l) es) (sym (append-nil ds)) z
  note-all uses k count place before begins is (x ∷ xs) ds es z =
      let v : Variable = record { place = place; is_used = count == 2 && x.0 == 0 } in
      let d : Declared = record { piece = k; name = x.1.now; is_first = count == 2 && x.0 == 0 } in
      subst (λ l. AllZip (IsNoted file uses) (firsts [] l) (fold (λ es x. note x.1 (record { place = place; is_used = count == 2 && x.0 == 0 }) es) (note x.1 v es) xs))
      (append_assoc ds (d ∷ []) (declared_each k count xs))
      (note-all uses k count place before begins is xs (ds ++ d ∷ []) (note x.1 v es) (note-more uses ds es k x.1 v before begins is z))

  -- a name is used
  used-more : (uses : List (ℕ × List ℕ)) (k : ℕ) (n : List ℕ) (d : Declared) → is_used (uses ++ (k, n) ∷ []) d ≡ (is_used uses d || (nat_le d.piece k && bytes_eq d.name n))
  used-more uses k n d =
      ap (λ b. d.is_first || b) (list_any-append (λ (u : ℕ × List ℕ). nat_le d.piece u.0 && bytes_eq d.name u.1) uses ((k, n) ∷ []))
      ∙ by d.is_first (list_any (λ (u : ℕ × List ℕ). nat_le d.piece u.0 && bytes_eq d.name u.1) uses) (nat_le d.piece k && bytes_eq d.name n)
    where
      by : (a b c : Bool) → (a || (b || (c || false))) ≡ ((a || b) || c)
      by true b c = refl
      by false true c = refl
      by false false true = refl
      by false false false = refl

  other-used : (uses : List (ℕ × List ℕ)) (k : ℕ) (n : List ℕ) (d : Declared) → bytes_eq d.name n ≡ false → is_used uses d ≡ is_used (uses ++ (k, n) ∷ []) d
  other-used uses k n d e = sym (used-more uses k n d ∙ by (is_used uses d) (nat_le d.piece k) (bytes_eq d.name n) e)
    where
      by : (a b c : Bool) → c ≡ false → (a || (b && c)) ≡ a
      by true b c e = refl
      by false true c e = e
      by false false c e = refl

  still : (uses : List (ℕ × List ℕ)) (k : ℕ) (n : List ℕ) (d : Declared) (e : Bor (List ℕ) × Variable) → bytes_eq d.name n ≡ false → IsNoted file uses d e
      → IsNoted file (uses ++ (k, n) ∷ []) d e
  still uses k n d e apart is = record { name = is.name; used = is.used ∙ other-used uses k n d apart; begins = is.begins; place = is.place }

  all-still : (uses : List (ℕ × List ℕ)) (k : ℕ) (n : List ℕ) (known : List (List ℕ)) (ds : List Declared) (es : List (Bor (List ℕ) × Variable))
      → list_any (bytes_eq n) known ≡ true → AllZip (IsNoted file uses) (firsts known ds) es → AllZip (IsNoted file (uses ++ (k, n) ∷ [])) (firsts known ds) es
  all-still uses k n known [] [] there z = tt
  all-still uses k n known [] (e ∷ es) there z = absurd z
  all-still uses k n known (d ∷ ds) es there z = go (list_any (bytes_eq d.name) known) refl es z
      (λ es z. all-still uses k n (d.name ∷ known) ds es (or-there (bytes_eq n d.name)) z)
    where
      or-there : (b : Bool) → (b || list_any (bytes_eq n) known) ≡ true
      or-there true = refl
      or-there false = there

      apart : list_any (bytes_eq d.name) known ≡ false → (b : Bool) → bytes_eq d.name n ≡ b → b ≡ false
      apart e true same = let eq : d.name ≡ n = (bytes_eq-Decides d.name n).0 same in let g : list_any (bytes_eq d.name) known ≡ true = ap (λ m. list_any (bytes_eq m) known) eq ∙ there in absurd (let h = sym e ∙ g in cc)
      apart e false same = refl

      go : (b : Bool) → list_any (bytes_eq d.name) known ≡ b → (es : List (Bor (List ℕ) × Variable))
          → AllZip (IsNoted file uses) (if b then firsts (d.name ∷ known) ds else d ∷ firsts (d.name ∷ known) ds) es
          → ((es : List (Bor (List ℕ) × Variable)) → AllZip (IsNoted file uses) (firsts (d.name ∷ known) ds) es
          → AllZip (IsNoted file (uses ++ (k, n) ∷ [])) (firsts (d.name ∷ known) ds) es)
          → AllZip (IsNoted file (uses ++ (k, n) ∷ [])) (if b then firsts (d.name ∷ known) ds else d ∷ firsts (d.name ∷ known) ds) es
      go true e es z rest = rest es z
      go false e [] z rest = absurd z
      go false e (x ∷ es) z rest = (still uses k n d x (apart e (bytes_eq d.name n) refl) z.0, rest es z.1)

  mark-more : (uses : List (ℕ × List ℕ)) (k : ℕ) (n : List ℕ) (known : List (List ℕ)) (ds : List Declared) (es : List (Bor (List ℕ) × Variable))
      → AllByRecursion (λ (d : Declared). d.piece ≤ k) ds → AllZip (IsNoted file uses) (firsts known ds) es
      → AllZip (IsNoted file (uses ++ (k, n) ∷ [])) (firsts known ds) (mark n es)
  mark-more uses k n known [] [] upto z = tt
  mark-more uses k n known [] (e ∷ es) upto z = absurd z
  mark-more uses k n known (d ∷ ds) es upto z = go (list_any (bytes_eq d.name) known) es z
      (λ es z. mark-more uses k n (d.name ∷ known) ds es upto.1 z)
    where
      true-used : (a b c : Bool) → b ≡ true → c ≡ true → true ≡ (a || (b && c))
      true-used true b c p q = refl
      true-used false b c p q = rw (p, q) refl

      or-first : (b c : Bool) → b ≡ true → (b || c) ≡ true
      or-first true c e = refl
      or-first false c e = cc

      on : (x : Bor (List ℕ) × Variable) (es : List (Bor (List ℕ) × Variable)) → IsNoted file uses d x → AllZip (IsNoted file uses) (firsts (d.name ∷ known) ds) es
          → AllZip (IsNoted file (uses ++ (k, n) ∷ [])) (firsts (d.name ∷ known) ds) (mark n es) → (b : Bool) → bytes_eq n x.0.now ≡ b
          → AllZip (IsNoted file (uses ++ (k, n) ∷ [])) (d ∷ firsts (d.name ∷ known) ds)
          (if b then (x.0, record { place = x.1.place; is_used = true }) ∷ es else x ∷ mark n es)
      on x es is z ih true e =
          let same : bytes_eq n d.name ≡ true = ap (bytes_eq n) (sym is.name) ∙ e in
          let swapped : bytes_eq d.name n ≡ true = bytes_eq-swap d.name n ∙ same in
          let le = nat_le-true d.piece k upto.0 in (
            record {
              name = is.name;
              used = true-used (is_used uses d) (nat_le d.piece k) (bytes_eq d.name n) le swapped ∙ sym (used-more uses k n d);
              begins = is.begins;
              place = is.place;
            },
            all-still uses k n (d.name ∷ known) ds es (or-first (bytes_eq n d.name) (list_any (bytes_eq n) known) same) z,
          )
      on x es is z ih false e =
          let apart : bytes_eq d.name n ≡ false = bytes_eq-swap d.name n ∙ ap (bytes_eq n) (sym is.name) ∙ e in
          (still uses k n d x apart is, ih)

      go : (b : Bool) (es : List (Bor (List ℕ) × Variable)) → AllZip (IsNoted file uses) (if b then firsts (d.name ∷ known) ds else d ∷ firsts (d.name ∷ known) ds) es
          → ((es : List (Bor (List ℕ) × Variable)) → AllZip (IsNoted file uses) (firsts (d.name ∷ known) ds) es
          → AllZip (IsNoted file (uses ++ (k, n) ∷ [])) (firsts (d.name ∷ known) ds) (mark n es))
          → AllZip (IsNoted file (uses ++ (k, n) ∷ [])) (if b then firsts (d.name ∷ known) ds else d ∷ firsts (d.name ∷ known) ds) (mark n es)
      go true es z rest = rest es z
      go false [] z rest = absurd z
      go false (x ∷ es) z rest = on x es z.0 z.1 (rest es z.1) (bytes_eq n x.0.now) refl

  mark-all : (k : ℕ) (ds : List Declared) → AllByRecursion (λ (d : Declared). d.piece ≤ k) ds → (names : List (List ℕ)) (uses : List (ℕ × List ℕ)) (es : List (Bor (List ℕ) × Variable))
      → AllZip (IsNoted file uses) (firsts [] ds) es → AllZip (IsNoted file (uses ++ map (λ name. (k, name)) names)) (firsts [] ds) (mark_each names es)
  mark-all k ds upto [] uses es z = subst (λ l. AllZip (IsNoted file l) (firsts [] ds) es) (sym (append-nil uses)) z
  mark-all k ds upto (n ∷ names) uses es z =
      subst (λ l. AllZip (IsNoted file l) (firsts [] ds) (mark_each names (mark n es))) (append_assoc uses ((k, n) ∷ []) (map (λ name. (k, name)) names))
      (mark-all k ds upto names (uses ++ (k, n) ∷ []) (mark n es) (mark-more uses k n [] ds es upto z))

  enumerate-now : (k count n : ℕ) (names : List (Bor (List ℕ)))
      → declared_each k count (enumerate_from n names) ≡ map (λ x. record { piece = k; name = x.1; is_first = count == 2 && x.0 == 0 }) (enumerate_from n (map (λ (m : Bor (List ℕ)). m.now) names))
  unfolding declared_each
  enumerate-now k count n [] = refl
  enumerate-now k count n (m ∷ names) = ap (λ l. record { piece = k; name = m.now; is_first = count == 2 && n == 0 } ∷ l) (enumerate-now k count (n + 1) names)

  upto-more : (k : ℕ) (ds : List Declared) (names : List (ℕ × List ℕ)) (count : ℕ) → AllByRecursion (λ (d : Declared). d.piece ≤ k) ds
      → AllByRecursion (λ (d : Declared). d.piece ≤ k) (ds ++ map (λ x. record { piece = k; name = x.1; is_first = count == 2 && x.0 == 0 }) names)
  upto-more k [] [] count upto = tt
  upto-more k [] (x ∷ names) count upto = (omega arith, upto-more k [] names count tt)
  upto-more k (d ∷ ds) names count upto = (upto.0, upto-more k ds names count upto.1)

  -- an action declares variables and uses names
  pub passes-noted : (uses : List (ℕ × List ℕ)) (ds : List Declared) (k opens : ℕ) (ts : List Token) (old new : List (Bor (List ℕ) × Variable)) → Passes file opens ts old new
      → BeginsAt file k opens → AllByRecursion (λ u. u.0 < k) uses → AllByRecursion (λ (d : Declared). d.piece ≤ k) ds → AllZip (IsNoted file uses) (firsts [] ds) old
      → AllZip (IsNoted file (uses ++ map (λ name. (k, name)) (used_names ts))) (firsts [] (ds ++ declared_in k (declared_names ts))) new
  passes-noted uses ds k opens ts old new p begins before upto z =
      let n = p.notes in
      let at : BeginsAt file k n.place.start = subst (BeginsAt file k) (sym (n.start (begins-within file k opens begins))) begins in
      let there : declared_each k (length n.names) (enumerate_from 0 n.names) ≡ declared_in k (declared_names ts) =
      enumerate-now k (length n.names) 0 n.names
      ∙ ap (λ c. map (λ x. record { piece = k; name = x.1; is_first = c == 2 && x.0 == 0 }) (enumerate_from 0 (map (λ (m : Bor (List ℕ)). m.now) n.names))) (sym (length-map n.names (λ (m : Bor (List ℕ)). m.now)))
      ∙ ap (declared_in k) n.names_are in
      let noted : AllZip (IsNoted file uses) (firsts [] (ds ++ declared_in k (declared_names ts))) p.noted =
      subst (λ l. AllZip (IsNoted file uses) (firsts [] (ds ++ l)) p.noted) there
      (subst (λ es. AllZip (IsNoted file uses) (firsts [] (ds ++ declared_each k (length n.names) (enumerate_from 0 n.names))) es) (sym n.entries)
      (note-all uses k (length n.names) n.place before at n.is_place (enumerate_from 0 n.names) ds old z)) in
      subst (λ es. AllZip (IsNoted file (uses ++ map (λ name. (k, name)) (used_names ts))) (firsts [] (ds ++ declared_in k (declared_names ts))) es) (sym p.marks)
      (mark-all k (ds ++ declared_in k (declared_names ts)) (upto-more k ds (enumerate_from 0 (declared_names ts)) (length (declared_names ts)) upto) (used_names ts) uses p.noted noted)

  -- what is noted stands at places of the file
  pub noted-placed : (uses : List (ℕ × List ℕ)) (ds : List Declared) (es : List (Bor (List ℕ) × Variable)) → AllZip (IsNoted file uses) ds es → ArePlaced file es
  noted-placed uses [] [] z = All-nil (λ e. IsPlace file e.1.place)
  noted-placed uses [] (e ∷ es) z = absurd z
  noted-placed uses (d ∷ ds) [] z = absurd z
  noted-placed uses (d ∷ ds) (e ∷ es) z = All-cons (λ e. IsPlace file e.1.place) e es z.0.place (noted-placed uses ds es z.1)

-- an action of no tokens leaves what is noted
pub passes-nothing : (file : List ℕ) (opens : ℕ) (old new : List (Bor (List ℕ) × Variable)) → Passes file opens [] old new → new ≡ old
passes-nothing file opens old new p = go p.notes.names p.notes.names_are p.notes.entries
  where
    go : (names : List (Bor (List ℕ))) → map (λ (name : Bor (List ℕ)). name.now) names ≡ [] → p.noted ≡ note_each p.notes.place (length names) names old → new ≡ old
    go [] e is = p.marks ∙ is
    go (name ∷ names) e is = absurd (cc)

-- ---- pieces

all-append : {A : Type 0} (P : A → Type 0) (xs ys : List A) → AllByRecursion P xs → AllByRecursion P ys → AllByRecursion P (xs ++ ys)
all-append P [] ys p q = q
all-append P (x ∷ xs) ys p q = (p.0, all-append P xs ys p.1 q)

all-weaker : {A : Type 0} (P Q : A → Type 0) (xs : List A) → ((x : A) → P x → Q x) → AllByRecursion P xs → AllByRecursion Q xs
all-weaker P Q [] next p = tt
all-weaker P Q (x ∷ xs) next p = (next x p.0, all-weaker P Q xs next p.1)

all-map : {A B : Type 0} (P : B → Type 0) (f : A → B) (xs : List A) → ((x : A) → P (f x)) → AllByRecursion P (map f xs)
all-map P f [] p = tt
all-map P f (x ∷ xs) p = (p x, all-map P f xs p)

used-before : (n : ℕ) (ps : List Piece) → AllByRecursion (λ u. u.0 < n + length ps) (used_from n ps)
used-before n [] = tt
used-before n (p ∷ ps) = all-append (λ u. u.0 < n + length (p ∷ ps)) _ (used_from (n + 1) ps)
    (all-map (λ u. u.0 < n + length (p ∷ ps)) (λ name. (n, name)) (used_names (tokens_in p)) (λ name. omega arith))
    (all-weaker _ (λ u. u.0 < n + length (p ∷ ps)) (used_from (n + 1) ps) (λ u less. omega (arith, less)) (used-before (n + 1) ps))

declared-before : (n : ℕ) (ps : List Piece) → AllByRecursion (λ (d : Declared). d.piece < n + length ps) (declared_from n ps)
declared-before n [] = tt
declared-before n (p ∷ ps) = all-append (λ (d : Declared). d.piece < n + length (p ∷ ps)) _ (declared_from (n + 1) ps)
    (all-map (λ (d : Declared). d.piece < n + length (p ∷ ps)) _ (enumerate_from 0 (declared_names (tokens_in p))) (λ x. omega arith))
    (all-weaker _ (λ (d : Declared). d.piece < n + length (p ∷ ps)) (declared_from (n + 1) ps) (λ d less. omega (arith, less)) (declared-before (n + 1) ps))

used-append : (n : ℕ) (ps qs : List Piece) → used_from n (ps ++ qs) ≡ used_from n ps ++ used_from (n + length ps) qs
used-append n ps qs =
    ap (flat_map (λ (p : ℕ × Piece). map (λ name. (p.0, name)) (used_names (tokens_in p.1)))) (enumerate-append n ps qs)
    ∙ flat_map-append (λ (p : ℕ × Piece). map (λ name. (p.0, name)) (used_names (tokens_in p.1))) (enumerate_from n ps) (enumerate_from (n + length ps) qs)

declared-append : (n : ℕ) (ps qs : List Piece) → declared_from n (ps ++ qs) ≡ declared_from n ps ++ declared_from (n + length ps) qs
declared-append n ps qs =
    ap (flat_map (λ (p : ℕ × Piece). declared_in p.0 (declared_names (tokens_in p.1)))) (enumerate-append n ps qs)
    ∙ flat_map-append (λ (p : ℕ × Piece). declared_in p.0 (declared_names (tokens_in p.1))) (enumerate_from n ps) (enumerate_from (n + length ps) qs)

-- a text neither declares nor uses a variable
pub text-declares : (ps : List Piece) (line : ℕ) (bytes : List ℕ) → declared_from 0 (ps ++ text_piece line bytes) ≡ declared_from 0 ps
text-declares ps line bytes = declared-append 0 ps (text_piece line bytes) ∙ ap (λ l. declared_from 0 ps ++ l) (none (0 + length ps) line bytes) ∙ append-nil (declared_from 0 ps)
  where
    none : (n line : ℕ) (bytes : List ℕ) → declared_from n (text_piece line bytes) ≡ []
    none n line [] = refl
    none n line (b ∷ bytes) = refl

pub text-uses : (ps : List Piece) (line : ℕ) (bytes : List ℕ) → used_from 0 (ps ++ text_piece line bytes) ≡ used_from 0 ps
text-uses ps line bytes = used-append 0 ps (text_piece line bytes) ∙ ap (λ l. used_from 0 ps ++ l) (none (0 + length ps) line bytes) ∙ append-nil (used_from 0 ps)
  where
    none : (n line : ℕ) (bytes : List ℕ) → used_from n (text_piece line bytes) ≡ []
    none n line [] = refl
    none n line (b ∷ bytes) = refl

abbrev pub AreNoted : List ℕ → List Piece → List (Bor (List ℕ) × Variable) → Type 0
AreNoted file ps es = AllZip (IsNoted file (used_from 0 ps)) (firsts [] (declared_from 0 ps)) es

pub action-noted : (file : List ℕ) (ps : List Piece) (line opens : ℕ) (ts : List Token) (old new : List (Bor (List ℕ) × Variable)) → Passes file opens ts old new
    → BeginsAt file (length ps) opens → AreNoted file ps old → AreNoted file (ps ++ action line ts ∷ []) new
action-noted file ps line opens ts old new p begins z =
    let k = length ps in
    let declared : declared_from 0 (ps ++ action line ts ∷ []) ≡ declared_from 0 ps ++ declared_in k (declared_names ts) =
    declared-append 0 ps (action line ts ∷ []) ∙ ap (λ n. declared_from 0 ps ++ declared_from n (action line ts ∷ [])) (omega arith)
    ∙ ap (λ l. declared_from 0 ps ++ l) (append-nil (declared_in k (declared_names ts))) in
    let used : used_from 0 (ps ++ action line ts ∷ []) ≡ used_from 0 ps ++ map (λ name. (k, name)) (used_names ts) =
    used-append 0 ps (action line ts ∷ []) ∙ ap (λ n. used_from 0 ps ++ used_from n (action line ts ∷ [])) (omega arith)
    ∙ ap (λ l. used_from 0 ps ++ l) (append-nil (map (λ name. (k, name)) (used_names ts))) in
    subst (λ uses. AllZip (IsNoted file uses) (firsts [] (declared_from 0 (ps ++ action line ts ∷ []))) new) (sym used)
    (subst (λ ds. AllZip (IsNoted file (used_from 0 ps ++ map (λ name. (k, name)) (used_names ts))) (firsts [] ds) new) (sym declared)
    (passes-noted file (used_from 0 ps) (declared_from 0 ps) k opens ts old new p begins
    (all-weaker _ (λ u. u.0 < k) (used_from 0 ps) (λ u less. omega (arith, less)) (used-before 0 ps))
    (all-weaker _ (λ (d : Declared). d.piece ≤ k) (declared_from 0 ps) (λ d less. omega (arith, less)) (declared-before 0 ps)) z))
