-- For `one_verdict`: what stands after an opening, an end, a declaration, an else, and what changes no frame.
use Rattle.std.proofs.Common.{arith, ◌≡◌, ◌≢◌, ℕ, ◌+◌, true, false, List, [], ◌∷◌, refl, sym, ◌∙◌, subst, length, take, Option, Some, inl, inr, ⊎_elim}
use Rattle.std.proofs.Common.{Bool, not, ap, None}
use Rattle.std.specs.Prelude.{slice_get, Contains, is_some}
use Rattle.std.proofs.lemmas.Bool.{cases_lt, and_parts}
use Rattle.std.proofs.Math.Seq.{take-length}
use Rattle.tmpl_grammar.specs.declared.action.Branch.{Branch}
use Rattle.tmpl_grammar.specs.Action.{control_in}
use Rattle.tmpl_syntax.specs.computed.Frames.{Frame, top, is_known, enter_opening, Known, with_inner, with_names, opened_names, else_came}
use Rattle.tmpl_syntax.specs.computed.Frames.{with_part, is_placed, closed_if}
use Rattle.tmpl_syntax.specs.Place.Open.{opens, ends, IsOpen, IsLast, is_template, IsElseOf, HasElse}
use Rattle.tmpl_syntax.proofs.NameLemmas.{IsWithin, in-nothing, take-before, with-Decides, part-low, part-high, else_names, take-part, with-longer, take-with}
use Rattle.tmpl_syntax.proofs.PlaceLemmas.{cut, Same, shut-at, same-ended, same-still, last_new, same-opening, Even, even-step}
use Rattle.tmpl_syntax.proofs.PlaceLemmas.{alike-even, one-alike, levels-else, else_before, has-before}
use Rattle.tmpl_syntax.proofs.ScopeLemmas.{Reaches, from_action, from_else_branch, Brought, Sees, declared_at, brings, brought-late, sees-opened}
use Rattle.tmpl_syntax.proofs.ScopeLemmas.{sees-ranged, else-sees, else-seen}
use Rattle.tmpl_syntax.proofs.OpenStackLemmas.{looped, Here, Stood, closed_at, Stands, here-of, stands-moves, here-control, here-template}
use Rattle.tmpl_syntax.specs.Place.Opening.{Opening}
use Rattle.tmpl_syntax.specs.Place.Opening as opened
use Rattle.tmpl_grammar.specs.declared.tree.Control.{Control}
use Rattle.tmpl_grammar.specs.declared.tree.Control.TheVariants.{If, With, Range}
use Rattle.tmpl_syntax.specs.Place.Role.{Name, Names, plain, opener, else_part, closer, Role}
use Rattle.std.specs.Bool.{Decides}
use Rattle.std.proofs.lemmas.Bool.Decides.{Decides-like}
use Rattle.std.proofs.lemmas.List.{length-take-le, take-take}
use Rattle.tmpl_grammar.specs.declared.action.Branch.TheVariants.{If as if_branch, With as with_branch}
use Rattle.tmpl_syntax.specs.Place.Body.{joins, names_in}

-- after an opening
module _ (xs : List Role) (i : ℕ) (known : Known) (p : Names) (fs : List Frame) (s : Stands xs i known fs) where
  abbrev inside : List Name
  inside = with_names known.inner p.declares

  h : Here xs i (top fs) known.inner
  h = here-of xs i known fs s

  stood-opened : (c : Opening) → slice_get xs i ≡ Some (opener c p) → (ns : List Name) → IsWithin (enter_opening c p (top fs) known.inner) (length ns)
      → (is_template c ≡ false → Sees xs (Some i) (i + 1) (take (enter_opening c p (top fs) known.inner).part ns))
      → Stood xs (i + 1) ns (enter_opening c p (top fs) known.inner) i
  stood-opened c at ns within part = record {
    names = p;
    opened = at;
    last = last_new xs i c p at;
    over = refl;
    has = (λ e. cc, λ e. let a = e.1 in let b = e.2.belongs.is_open.before in absurd (omega arith));
    around = looped xs i known fs s;
    within = within;
    part = part;
  }

  -- what the parts of a control see at first
  part-first : (d : Control) → slice_get xs i ≡ Some (opener (opened.control d) p) → (e : Control) → d ≡ e
      → Sees xs (Some i) (i + 1) (else_names e known.inner p.declares)
  part-first d at Range is = sees-ranged xs i (opened.control d) p at refl (Some i) (λ q e. cc) known.inner h.sees (ap opened.control is) refl
  part-first d at _ is = sees-opened xs i (opened.control d) p at refl (Some i) (λ q e. cc) known.inner h.sees (λ r e. cc)

  -- in a template nothing is known, and after it what is known here
  pub stands-opened : (c : Opening) → slice_get xs i ≡ Some (opener c p)
      → Stands xs (i + 1) (opened_names c p.declares known) (enter_opening c p (top fs) known.inner ∷ fs)
  stands-opened (opened.control d) at = (
    here-control xs i known.inner d p at (top fs) h,
    i,
    stood-opened (opened.control d) at inside (record { started = part-low d known.inner p.declares; parted = part-high d known.inner p.declares })
        (λ own. subst (Sees xs (Some i) (i + 1)) (sym (take-part d known.inner p.declares)) (part-first d at d refl)),
    subst (λ l. Stands xs i (with_inner known l) fs) (sym (take-before known.inner p.declares)) s,
  )
  stands-opened c at = (
    here-template xs i known.inner c p at (top fs) h refl,
    i,
    stood-opened c at [] (record { started = omega arith; parted = omega arith }) (λ none. cc),
    s,
  )

pub stands-ended : (xs : List Role) (i : ℕ) (known : Known) (f : Frame) (fs : List Frame) → slice_get xs i ≡ Some closer
    → Stands xs i known (f ∷ fs) → Stands xs (i + 1) (closed_at f known) fs
stands-ended xs i known f fs at s =
    let same = same-ended xs s.1 i s.2.last s.2.over at in
    stands-moves xs s.1 (i + 1) same (closed_at f known) [] (λ n c. in-nothing n c)
    (λ n b ge. absurd (brought-late xs None s.1 (i + 1) same n b.by ge b.before b.reaches (λ p e c f. ⊎_elim
    (λ lt. let u = b.before in let again = (f s.1 (cut xs s.1 b.by i lt (omega arith) s.2.last.is_open)).0.before in omega arith)
    (λ le. let m : b.by ≡ s.1 = omega arith in shut-at xs (plain p) s.1 i (subst (λ z. slice_get xs z ≡ Some (plain p)) m e) refl
    s.2.last.is_open)
    (cases_lt s.1 b.by))))
    fs s.3

-- after a piece that is no opening, end or else, what it declares is known
pub stands-passed : (xs : List Role) (i : ℕ) (known : Known) (x : Role) (fs : List Frame) → slice_get xs i ≡ Some x → opens x ≡ false
    → ends x ≡ false → ((b : Option (Branch × Names)) → x ≢ (else_part b)) → Stands xs i known fs
    → Stands xs (i + 1) (with_inner known (with_names known.inner (declared_at x))) fs
stands-passed xs i known x fs at o e nt s = stands-moves xs i (i + 1) same known (declared_at x) (new x at o nt)
    (λ n b ge. let u = b.before in let m : b.by ≡ i = omega arith in
    brings xs None i (i + 1) (i + 1) n x at (subst (λ k. Reaches xs None k (i + 1) (i + 1) n) m b.reaches))
    fs s
  where
    same : Same xs i (i + 1)
    same = same-still xs x i at o e nt

    new : (y : Role) → slice_get xs i ≡ Some y → opens y ≡ false → ((b : Option (Branch × Names)) → y ≢ (else_part b))
        → (n : Name) → Contains (declared_at y) n → Brought xs None (i + 1) (i + 1) n
    new (plain p) at o nt n c = record {
      by = i;
      before = omega arith;
      template = one-alike xs i (i + 1) (alike-even xs i (i + 1) same.even);
      reaches = from_action at c (λ j o. (same.even.keeps j o, ⊎_elim (λ e. cc) (λ t. let from = t.2 in let to = t.3 in omega arith)));
    }
    new (opener d p) at o nt n c = cc
    new (else_part b) at o nt n c = absurd (nt b refl)
    new _ at o nt n c = in-nothing n c

-- an else stands in a control, and one that begins with a control in such a one, which is no range
pub joins-control : (b : Branch) (c : Opening) → joins (Some b) c ≡ true → c ≡ opened.control (control_in b)
joins-control if_branch (opened.control If) e = refl
joins-control with_branch (opened.control With) e = refl
joins-control _ _ e = cc

pub joins-own : (b : Option Branch) (c : Opening) → joins b c ≡ true → is_template c ≡ false
joins-own None (opened.control d) e = refl
joins-own None _ e = cc
joins-own (Some b) c e = ap is_template (joins-control b c e)

pub joins-no-range : (b : Branch) (c : Opening) → joins (Some b) c ≡ true → c ≢ opened.control Range
joins-no-range if_branch c j e = let is = joins-control if_branch c j in cc
joins-no-range with_branch c j e = let is = joins-control with_branch c j in cc

-- a control is a level
level-there : (c : Opening) → is_template c ≡ false → c ≢ opened.define
level-there c e is = let t : false ≡ true = sym e ∙ ap is_template is in cc

-- what may take an else is a control
else-own : (b : Option (Branch × Names)) (f : Frame) → is_placed (else_part b) (Some f) ≡ true → is_template f.opening ≡ false
else-own None f e = joins-own None f.opening (and_parts (joins None f.opening) (not f.has_else) e).0
else-own (Some (b, p)) f e = joins-own (Some b) f.opening (and_parts (joins (Some b) f.opening) (not f.has_else) e).0

-- an else of a range is a plain one
ranged-else : (xs : List Role) (i j : ℕ) (b : Option (Branch × Names)) (f : Frame) → IsElseOf xs b j i → is_placed (else_part b) (Some f) ≡ true
    → f.opening ≡ opened.control Range → HasElse xs j (i + 1)
ranged-else xs i j None f part e r = (i, omega arith, part)
ranged-else xs i j (Some (b, p)) f part e r = absurd (joins-no-range b f.opening (and_parts (joins (Some b) f.opening) (not f.has_else) e).0 r)

has-came : (xs : List Role) (i j : ℕ) (b : Option (Branch × Names)) (h : Bool) → IsElseOf xs b j i → Decides h (HasElse xs j i)
    → Decides (else_came (is_some b) h) (HasElse xs j (i + 1))
has-came xs i j None h part d = (λ e. (i, omega arith, part), λ e. refl)
has-came xs i j (Some b) h part d =
    Decides-like h (else_before xs j i (i + 1) (omega arith)) (has-before xs (else_part (Some b)) i part.at (λ g. cc) j) d

-- the names that a branch declares reach what is after it
branch-reaches : (xs : List Role) (u : Option ℕ) (i j : ℕ) (b : Option (Branch × Names)) (n : Name) → IsElseOf xs b j i → IsOpen xs j (i + 1)
    → Contains (names_in (else_part b)).declares n → Reaches xs u i (i + 1) (i + 1) n
branch-reaches xs u i j None n part o c = in-nothing n c
branch-reaches xs u i j (Some (d, q)) n part o c = from_else_branch part c o

module _ (xs : List Role) (i : ℕ) (known : Known) (f : Frame) (fs : List Frame) (s : Stands xs i known (f ∷ fs)) (b : Option (Branch × Names))
    (at : slice_get xs i ≡ Some (else_part b)) (placed : is_placed (else_part b) (Some f) ≡ true) where
  abbrev names : List Name
  names = known.inner

  abbrev ds : List Name
  ds = (names_in (else_part b)).declares

  own : is_template f.opening ≡ false
  own = else-own b f placed

  abbrev part : IsElseOf xs b s.1 i
  part = record { at = at; belongs = s.2.last }

  even : Even xs i (i + 1)
  even = even-step xs (else_part b) i at refl refl

  last-after : IsLast xs s.1 (i + 1)
  last-after = record { is_open = even.keeps s.1 s.2.last.is_open; last = λ k lt o. s.2.last.last k lt (even.only k o) }

  ranged : (o : IsOpen xs s.1 (i + 1)) → o.opened ≡ opened.control Range → HasElse xs s.1 (i + 1)
  ranged o e = ranged-else xs i s.1 b f part placed (same-opening xs s.1 f.opening o.opened s.2.opened o.at ∙ e)

  -- after it, in its part and in a further one, is seen what it declares and what the part before saw
  abbrev seen : List Name
  seen = with_names (take f.part names) ds

  sees-parted : (u : Option ℕ) → ((q : ℕ) → u ≡ Some q → q ≡ s.1) → Sees xs u (i + 1) seen
  sees-parted u its n = Decides-like (is_known seen n)
      (⊎_elim (else-sees xs i s.1 (i + 1) b part even (omega arith) ranged u its n) (λ c. record {
        by = i;
        before = omega arith;
        template = one-alike xs i (i + 1) (alike-even xs i (i + 1) even);
        reaches = branch-reaches xs u i s.1 b n part last-after.is_open c;
      }))
      (λ v. ⊎_elim
      (λ lt. inl (else-seen xs i s.1 (i + 1) b part even (omega arith) ranged u its n v lt))
      (λ ge. let lt = v.before in let e : v.by ≡ i = omega arith in
      inr (brings xs u i (i + 1) (i + 1) n (else_part b) at (subst (λ k. Reaches xs u k (i + 1) (i + 1) n) e v.reaches)))
      (cases_lt v.by i))
      (with-Decides (take f.part names) ds n (s.2.part own n))

  here-parted : Here xs (i + 1) (Some (with_part (is_some b) (length seen) f)) seen
  here-parted = record {
    levels_are = levels-else xs i s.1 f.levels b even part
        (λ e. level-there f.opening own (sym (same-opening xs s.1 s.2.last.is_open.opened f.opening s.2.last.is_open.at s.2.opened) ∙ e)) s.0.levels_are;
    sees = sees-parted None (λ q e. cc);
  }

  front : length (take f.part names) ≡ f.part
  front = length-take-le f.part names s.2.within.parted

  stood-parted : Stood xs (i + 1) seen (with_part (is_some b) (length seen) f) s.1
  stood-parted = record {
    names = s.2.names;
    opened = s.2.opened;
    last = last-after;
    over = omega (arith, s.2.over, even.balance);
    has = has-came xs i s.1 b f.has_else part s.2.has;
    around = s.2.around;
    within = record { started = let a = s.2.within.started in omega (arith, front, with-longer (take f.part names) ds); parted = omega arith };
    part = λ o. subst (Sees xs (Some s.1) (i + 1)) (sym (take-length seen)) (sees-parted (Some s.1) (λ q e. cc));
  }

  pub stands-parted : Stands xs (i + 1) (with_inner known seen) (with_part (is_some b) (length seen) f ∷ fs)
  stands-parted =
      let below : take f.start seen ≡ take f.start names = take-with f.start (take f.part names) ds (let a = s.2.within.started in omega (arith, front))
      ∙ take-take f.start f.part names s.2.within.started in
      (here-parted, s.1, stood-parted, subst (λ l. Stands xs s.1 (closed_if (is_template f.opening) (with_inner known l)) fs) (sym below) s.3)
