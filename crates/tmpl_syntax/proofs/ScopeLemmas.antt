-- For `one_verdict`: names in scope move with what is open, and what a further part of a control sees.
use Rattle.std.proofs.Common.{arith, ◌≡◌, ℕ, ◌+◌, ◌<◌, ◌≤◌, false, List, refl, sym, subst, Option, Some, inl, inr, ⊎_elim, ◌⊎◌, ap, ◌∙◌, None}
use Rattle.std.specs.Prelude.{slice_get, Contains}
use Rattle.std.specs.Bool.{Decides}
use Rattle.std.proofs.lemmas.Bool.{cases_lt}
use Rattle.std.proofs.lemmas.Bool.Decides.{Decides-like}
use Rattle.tmpl_grammar.specs.declared.action.Branch.{Branch}
use Rattle.tmpl_syntax.specs.Place.Open.{IsOpen, IsLast, IsElseOf, HasElse, is_template, OfOneTemplate}
use Rattle.tmpl_syntax.specs.Place.Scope.{Declares, in_action, in_header, in_else_branch, IsInScope}
use Rattle.tmpl_syntax.specs.computed.Frames.{is_known, with_names}
use Rattle.tmpl_syntax.proofs.NameLemmas.{with-Decides}
use Rattle.tmpl_syntax.proofs.PlaceLemmas.{same-piece, cut, Even, Same, opened-keeps, opened_new, same-opening, one-last}
use Rattle.tmpl_syntax.proofs.PlaceLemmas.{Alike, even-here, alike-even, alike-back, alike-opened, one-moves, one-alike, no-else}
use Rattle.tmpl_syntax.specs.Place.Opening.{Opening}
use Rattle.tmpl_syntax.specs.Place.Opening as opened
use Rattle.tmpl_grammar.specs.declared.tree.Control.TheVariants.{Range}
use Rattle.tmpl_syntax.specs.Place.Role.{Name, Names, plain, opener, else_part, Role}
use Rattle.tmpl_syntax.specs.Place.Body.{names_in}

-- an else of the opening at j stands after k and before b; or one is thought of, as of the opening that u says
abbrev pub IsCut : List Role → Option ℕ → ℕ → ℕ → ℕ → Type 0
IsCut xs u k b j = (u ≡ Some j) ⊎ ((m : ℕ) × (d : Option (Branch × Names)) × (k < m) × (m < b) × IsElseOf xs d j m)

-- .. a plain one, anywhere before a
abbrev pub IsElsed : List Role → Option ℕ → ℕ → ℕ → Type 0
IsElsed xs u a j = (u ≡ Some j) ⊎ HasElse xs j a

-- as Declares, with no else from after k to before b
pub data Reaches (xs : List Role) (u : Option ℕ) (k a b : ℕ) (name : Name) : Type 0 where
  from_action : {p : Names} → slice_get xs k ≡ Some (plain p) → Contains p.declares name
      → ((j : ℕ) → IsOpen xs j k → IsOpen xs j a × (IsCut xs u k b j → ⊥)) → Reaches xs u k a b name
  from_header : {c : Opening} {p : Names} → slice_get xs k ≡ Some (opener c p) → Contains p.declares name → IsOpen xs k a
      → (c ≡ opened.control Range → IsElsed xs u a k → ⊥) → Reaches xs u k a b name
  from_else_branch : {c : Branch} {p : Names} {j : ℕ} → IsElseOf xs (Some (c, p)) j k → Contains p.declares name → IsOpen xs j a → Reaches xs u k a b name

-- by an action before a
pub record Brought (xs : List Role) (u : Option ℕ) (a b : ℕ) (name : Name) : Type 0 where
  pub by : ℕ
  pub before : by < a
  pub template : OfOneTemplate xs by a
  pub reaches : Reaches xs u by a b name

-- the names are those that are brought
abbrev pub Sees : List Role → Option ℕ → ℕ → List Name → Type 0
Sees xs u i names = (n : Name) → Decides (is_known names n) (Brought xs u i i n)

-- the definition is this one at b = a + 1
pub to-scope : (xs : List Role) (i : ℕ) (n : Name) → Brought xs None i (i + 1) n → IsInScope xs i n
to-scope xs i n s = (s.by, s.before, s.template, go s.reaches)
  where
    go : Reaches xs None s.by i (i + 1) n → Declares xs s.by i n
    go (from_action at h f) = in_action at h (λ j o. let r = f j o in (r.0, λ m d from to t. r.1 (inr (m, d, from, omega arith, t))))
    go (from_header at h o r) = in_header at h o (λ is has. r is (inr has))
    go (from_else_branch e h o) = in_else_branch e h o

pub from-scope : (xs : List Role) (i : ℕ) (n : Name) → IsInScope xs i n → Brought xs None i (i + 1) n
from-scope xs i n s = record { by = s.0; before = s.1; template = s.2; reaches = go s.3 }
  where
    go : Declares xs s.0 i n → Reaches xs None s.0 i (i + 1) n
    go (in_action at h f) = from_action at h (λ j o. let r = f j o in (r.0, ⊎_elim (λ e. cc) (λ t. let to = t.3 in r.1 t.0 t.1 t.2 (omega arith) t.4)))
    go (in_header at h o r) = from_header at h o (λ is. ⊎_elim (λ e. cc) (r is))
    go (in_else_branch e h o) = from_else_branch e h o

-- the names that a piece declares
abbrev pub declared_at : Role → List Name
declared_at x = (names_in x).declares

-- what a piece brings it declares
pub brings : (xs : List Role) (u : Option ℕ) (k a b : ℕ) (n : Name) (x : Role) → slice_get xs k ≡ Some x → Reaches xs u k a b n → Contains (declared_at x) n
brings xs u k a b n x at r = by r (λ y e. subst (λ z. Contains (declared_at z) n) (same-piece xs k y x e at))
  where
    by : Reaches xs u k a b n → ((y : Role) → slice_get xs k ≡ Some y → Contains (declared_at y) n → Contains (declared_at x) n) → Contains (declared_at x) n
    by (from_action {p = p} e c f) same = same (plain p) e c
    by (from_header {c = d} {p = p} e c o r) same = same (opener d p) e c
    by (from_else_branch {c = d} {p = p} t c o) same = same (else_part (Some (d, p))) t.at c

-- ---- from place to place

module _ {xs : List Role} {u v : Option ℕ} where
  -- from an else of one to an else of the other: one that is thought of, and one that stands no earlier than c
  cut-moves : {k b c j : ℕ} → (v ≡ Some j → IsCut xs u k c j)
      → ((m : ℕ) (d : Option (Branch × Names)) → c ≤ m → m < b → k < m → IsElseOf xs d j m → IsCut xs u k c j) → IsCut xs v k b j → IsCut xs u k c j
  cut-moves {c = c} thought late (inl e) = thought e
  cut-moves {c = c} thought late (inr (m, d, from, to, t)) = ⊎_elim (λ lt. inr (m, d, from, lt, t)) (λ ge. late m d ge to from t) (cases_lt m c)

  else-moves : {b c j : ℕ} → (v ≡ Some j → IsElsed xs u c j) → ((m : ℕ) → c ≤ m → m < b → IsElseOf xs None j m → IsElsed xs u c j)
      → IsElsed xs v b j → IsElsed xs u c j
  else-moves thought late (inl e) = thought e
  else-moves {c = c} thought late (inr (m, to, t)) = ⊎_elim (λ lt. inr (m, lt, t)) (λ ge. late m ge to t) (cases_lt m c)

  -- what is brought moves with what is open
  brought-moves : (a b c d : ℕ) (n : Name) → Alike xs a c → (f : Brought xs u a b n) → f.by < c
      → ((q : ℕ) → q ≤ f.by → IsOpen xs q a → IsOpen xs q c)
      → ((q : ℕ) → q < f.by → IsOpen xs q a → IsCut xs v f.by d q → IsCut xs u f.by b q)
      → ((o : IsOpen xs f.by a) → o.opened ≡ opened.control Range → IsElsed xs v c f.by → IsElsed xs u a f.by) → Brought xs v c d n
  brought-moves a b c d n alike f lt o e r =
      record { by = f.by; before = lt; template = one-moves xs f.by a c alike f.template; reaches = go f.reaches }
    where
      go : Reaches xs u f.by a b n → Reaches xs v f.by c d n
      go (from_action at h g) =
          from_action at h (λ j p. let r = g j p in let lt = p.before in (o j (omega arith) r.0, λ t. r.1 (e j lt r.0 t)))
      go (from_header {c = s} at h p nr) =
          from_header at h (o f.by (omega arith) p) (λ is t. nr is (r p (same-opening xs f.by p.opened s p.at at ∙ is) t))
      go (from_else_branch {j = j} t h p) = let lt = t.belongs.is_open.before in from_else_branch t h (o j (omega arith) p)

-- where the same stands, what was brought is
module _ (xs : List Role) (u : Option ℕ) (j m : ℕ) (s : Same xs j m) where
  pub brought-same : (n : Name) → Brought xs u j j n → Brought xs u m m n
  brought-same n b =
      let lt = b.before in
      let le = s.even.le in
      brought-moves j j m m n (alike-even xs j m s.even) b (omega arith) (λ q le. s.even.keeps q)
      (λ q lt o. cut-moves (λ t. inl t) (λ h d ge to from t. absurd (s.no_else d q h ge to o t)))
      (λ o is. else-moves (λ t. inl t) (λ h ge to t. absurd (s.no_else None b.by h ge to o t)))

  pub brought-same-back : (n : Name) → (b : Brought xs u m m n) → b.by < j → Brought xs u j j n
  brought-same-back n b lt =
      let le = s.even.le in
      brought-moves m m j j n (alike-back xs j m (alike-even xs j m s.even)) b lt (λ q le. s.even.only q)
      (λ q lt o. cut-moves (λ t. inl t) (λ h d ge to from t. absurd (omega arith)))
      (λ o is. else-moves (λ t. inl t) (λ h ge to t. absurd (omega arith)))

  -- a header or an else branch between brings nothing; an action does where it stands in what is open
  pub brought-late : (n : Name) (k : ℕ) → j ≤ k → k < m → Reaches xs u k m m n
      → ((p : Names) → slice_get xs k ≡ Some (plain p) → Contains p.declares n
      → ((q : ℕ) → IsOpen xs q k → IsOpen xs q j × (u ≡ Some q → ⊥)) → ⊥) → ⊥
  brought-late n k from to (from_action {p = p} e h g) f = f p e h (λ q o. let r = g q o in (s.even.only q r.0, λ t. r.1 (inl t)))
  brought-late n k from to (from_header e h o r) f = let b = (s.even.only k o).before in omega arith
  brought-late n k from to (from_else_branch {c = c} {p = p} {j = q} t h o) f = s.no_else (Some (c, p)) q k from to (s.even.only q o) t

-- at an action that is no else, the definition is what was brought before it
pub at-place : (xs : List Role) (i : ℕ) (n : Name) → ((d : Option (Branch × Names)) (j : ℕ) → IsElseOf xs d j i → ⊥) → Brought xs None i i n → IsInScope xs i n
at-place xs i n ne b = to-scope xs i n (brought-moves i i i (i + 1) n (alike-even xs i i (even-here xs i)) b b.before (λ q le o. o)
    (λ q lt o. cut-moves (λ t. inl t) (λ m d ge to from t. let s : m ≡ i = omega arith in absurd (ne d q (subst (IsElseOf xs d q) s t)))) (λ o is t. t))

pub at-place-back : (xs : List Role) (i : ℕ) (n : Name) → IsInScope xs i n → Brought xs None i i n
at-place-back xs i n s =
    let b = from-scope xs i n s in
    brought-moves i (i + 1) i i n (alike-even xs i i (even-here xs i)) b b.before (λ q le o. o)
    (λ q lt o. cut-moves (λ t. inl t) (λ m d ge to from t. absurd (omega arith))) (λ o is t. t)

-- after an opening that is no define or block, where an else of it may be thought of
module _ (xs : List Role) (i : ℕ) (c : Opening) (p : Names) (at : slice_get xs i ≡ Some (opener c p)) (nt : is_template c ≡ false)
    (u : Option ℕ) (own : (q : ℕ) → u ≡ Some q → q ≡ i) where
  opened-old : (n : Name) → Brought xs None i i n → Brought xs u (i + 1) (i + 1) n
  opened-old n b =
      let lt = b.before in
      let none : (d : Option (Branch × Names)) (q m : ℕ) → i ≤ m → m < i + 1 → IsElseOf xs d q m → ⊥ =
      λ d q m ge to t. let s : m ≡ i = omega arith in no-else xs (opener c p) i at (λ d g. cc) d q (subst (IsElseOf xs d q) s t) in
      brought-moves i i (i + 1) (i + 1) n (alike-opened xs i c p at nt) b (omega arith) (λ q le. opened-keeps xs (opener c p) i q at refl)
      (λ q lt o. cut-moves (λ t. let e = own q t in absurd (omega arith)) (λ m d ge to from t. absurd (none d q m ge to t)))
      (λ o is. else-moves (λ t. let e = own b.by t in absurd (omega arith)) (λ m ge to t. absurd (none None b.by m ge to t)))

  -- what its header declares is seen, unless it is that of a range and an else is thought of
  abbrev IsNew : Name → Type 0
  IsNew n = Contains p.declares n × (c ≡ opened.control Range → u ≡ Some i → ⊥)

  opened-header : (n : Name) → IsNew n → Brought xs u (i + 1) (i + 1) n
  opened-header n h = record {
    by = i;
    before = omega arith;
    template = one-alike xs i (i + 1) (alike-opened xs i c p at nt);
    reaches = from_header at h.0 (opened_new xs i c p at)
        (λ r. ⊎_elim (h.1 r) (λ e. let b = e.2.belongs.is_open.before in let g = e.1 in omega arith));
  }

  opened-back : (n : Name) → Brought xs u (i + 1) (i + 1) n → Brought xs None i i n ⊎ IsNew n
  opened-back n b = ⊎_elim
      (λ lt. inl (brought-moves (i + 1) (i + 1) i i n (alike-back xs i (i + 1) (alike-opened xs i c p at nt)) b lt
      (λ q le. cut xs q i (i + 1) (omega arith) (omega arith))
      (λ q lt o. cut-moves (λ t. cc) (λ m d ge to from t. absurd (omega arith)))
      (λ o is. else-moves (λ t. cc) (λ m ge to t. absurd (omega arith)))))
      (λ ge. let g = b.before in let s : b.by ≡ i = omega arith in let r = subst (λ k. Reaches xs u k (i + 1) (i + 1) n) s b.reaches in
      inr (brings xs u i (i + 1) (i + 1) n (opener c p) at r, λ is thought. header-only is thought r))
      (cases_lt b.by i)
    where
      header-only : c ≡ opened.control Range → u ≡ Some i → Reaches xs u i (i + 1) (i + 1) n → ⊥
      header-only is thought (from_header {c = d} {p = q} e k o r) =
          let same : (opener c p) ≡ (opener d q) = same-piece xs i (opener c p) (opener d q) at e in
          let kind : d ≡ c = cc in r (kind ∙ is) (inl thought)
      header-only is thought (from_action e k f) = cc
      header-only is thought (from_else_branch e k o) = let at_else = e.at in cc

  module _ (names : List Name) (h : Sees xs None i names) where
    pub sees-opened : (c ≡ opened.control Range → u ≡ Some i → ⊥) → Sees xs u (i + 1) (with_names names p.declares)
    sees-opened free n = Decides-like (is_known (with_names names p.declares) n)
        (⊎_elim (opened-old n) (λ k. opened-header n (k, free)))
        (λ b. ⊎_elim (λ o. inl o) (λ k. inr k.0) (opened-back n b)) (with-Decides names p.declares n (h n))

    pub sees-ranged : c ≡ opened.control Range → u ≡ Some i → Sees xs u (i + 1) names
    sees-ranged range thought n =
        Decides-like (is_known names n) (opened-old n) (λ b. ⊎_elim (λ o. o) (λ k. absurd (k.1 range thought)) (opened-back n b)) (h n)

-- at an else of the opening at j, or after it: what is brought there before it is what is brought to it where one is thought of
module _ (xs : List Role) (i j a : ℕ) (b : Option (Branch × Names)) (part : IsElseOf xs b j i) (even : Even xs i a) (le : a ≤ i + 1)
    (ranged : (o : IsOpen xs j a) → o.opened ≡ opened.control Range → HasElse xs j a) (u : Option ℕ) (own : (q : ℕ) → u ≡ Some q → q ≡ j) where
  its-else : (q m : ℕ) (d : Option (Branch × Names)) → i ≤ m → m < i + 1 → IsElseOf xs d q m → Some j ≡ Some q
  its-else q m d ge to t = let s : m ≡ i = omega arith in ap (λ k. Some k) (one-last xs j q i part.belongs (subst (IsLast xs q) s t.belongs))

  pub else-sees : (n : Name) → Brought xs (Some j) i i n → Brought xs u a (i + 1) n
  else-sees n f =
      let lt = f.before in
      let ge = even.le in
      brought-moves i i a (i + 1) n (alike-even xs i a even) f (omega arith) (λ q le. even.keeps q)
      (λ q lt o. cut-moves (λ t. inl (ap (λ k. Some k) (sym (own q t)))) (λ m d ge to from t. inl (its-else q m d ge to t)))
      (λ o is. else-moves (λ t. inl (ap (λ k. Some k) (sym (own f.by t)))) (λ m ge to t. inl (its-else f.by m None ge (omega arith) t)))

  pub else-seen : (n : Name) → (f : Brought xs u a (i + 1) n) → f.by < i → Brought xs (Some j) i i n
  else-seen n f lt =
      let ge = even.le in
      brought-moves a (i + 1) i i n (alike-back xs i a (alike-even xs i a even)) f lt (λ q le. even.only q)
      (λ q lower o. cut-moves (λ t. let s : j ≡ q = cc in inr (i, b, lt, omega arith, subst (λ k. IsElseOf xs b k i) s part))
      (λ m d ge to from t. absurd (omega arith)))
      (λ o is. else-moves (λ t. let s : j ≡ f.by = cc in
      inr (subst (λ k. (o : IsOpen xs k a) → o.opened ≡ opened.control Range → HasElse xs k a) s ranged o is))
      (λ m ge to t. absurd (omega arith)))
