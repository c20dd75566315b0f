-- For `one_verdict`: what stands on the stack is what is open, and the names are those in scope.
use Rattle.std.proofs.Common.{arith, ◌≡◌, ℕ, ◌+◌, ◌≤◌, true, false, List, [], ◌∷◌, refl, sym, ap, ◌∙◌, subst, length, take}
use Rattle.std.proofs.Common.{Option, Some, None, ⊎_elim, inl, inr, not, ◌||◌}
use Rattle.std.specs.Prelude.{slice_get, Contains}
use Rattle.std.specs.Bool.{Decides}
use Rattle.std.proofs.lemmas.Bool.{cases_lt}
use Rattle.std.proofs.lemmas.Bool.Decides.{Decides-like, Decides-not, Decides-or}
use Rattle.tmpl_syntax.specs.Place.Open.{IsOpen, IsLast, HasElse, is_template}
use Rattle.tmpl_syntax.specs.Place.Body.{IsLoop}
use Rattle.tmpl_syntax.specs.computed.Frames.{Frame, top, loops, in_loop, levels, is_known, enter_opening, Known, with_inner, closed_if, closed_names, with_names}
use Rattle.tmpl_syntax.proofs.NameLemmas.{IsWithin, with-longer, take-with, with-Decides}
use Rattle.tmpl_syntax.proofs.PlaceLemmas.{IsBody, Levels, ups, downs, same-opening, cut, Same, alike-last, loop-in, loop-out}
use Rattle.tmpl_syntax.proofs.PlaceLemmas.{one-alike, opened_new, template-apart, levels-same, levels-opened, InLoop, else_before, else-same}
use Rattle.tmpl_syntax.proofs.ScopeLemmas.{Brought, Sees, brought-same, brought-same-back, brought-late, sees-opened}
use Rattle.tmpl_syntax.specs.Place.Opening.{Opening}
use Rattle.tmpl_syntax.specs.Place.Opening as opened
use Rattle.tmpl_grammar.specs.declared.tree.Control.{Control}
use Rattle.tmpl_grammar.specs.declared.tree.Control.TheVariants.{Range}
use Rattle.tmpl_syntax.specs.Place.Role.{Name, Names, opener, Role}

-- what the newest frame and the names say of the place i
pub record Here (xs : List Role) (i : ℕ) (t : Option Frame) (names : List Name) : Type 0 where
  pub levels_are : Levels xs i i (levels t)
  pub sees : Sees xs None i names

-- the frame stands for the opening at j, the last one open at i
pub record Stood (xs : List Role) (i : ℕ) (seen : List Name) (f : Frame) (j : ℕ) : Type 0 where
  pub names : Names
  pub opened : slice_get xs j ≡ Some (opener f.opening names)
  pub last : IsLast xs j i
  pub over : ups xs i + downs xs (j + 1) ≡ ups xs (j + 1) + downs xs i
  pub has : Decides f.has_else (HasElse xs j i)
  pub around : Decides f.around (InLoop xs j)
  pub within : IsWithin f (length seen)
  pub part : is_template f.opening ≡ false → Sees xs (Some j) i (take f.part seen)

-- what is known again after the end of the frame
abbrev pub closed_at : Frame → Known → Known
closed_at f known = closed_names (Some f) (with_inner known (take f.start known.inner))

-- .. and the frames below it stand as they stood at j
abbrev pub Stands : List Role → ℕ → Known → List Frame → Type 0
Stands xs i known [] = ((j : ℕ) → IsOpen xs j i → ⊥) × Here xs i None known.inner
Stands xs i known (f ∷ fs) = Here xs i (Some f) known.inner × (j : ℕ) × Stood xs i known.inner f j × Stands xs j (closed_at f known) fs

pub here-of : (xs : List Role) (i : ℕ) (known : Known) (fs : List Frame) → Stands xs i known fs → Here xs i (top fs) known.inner
here-of xs i known [] s = s.1
here-of xs i known (f ∷ fs) s = s.0

-- a break may stand where the newest frame says so
pub looped : (xs : List Role) (i : ℕ) (known : Known) (fs : List Frame) → Stands xs i known fs → Decides (in_loop (top fs)) (InLoop xs i)
looped xs i known [] s = (λ e. cc, λ l. absurd (s.0 l.0 l.1.0))
looped xs i known (f ∷ fs) (h, j, s, below) = by f.opening refl
  where
    same : (o : IsOpen xs j i) → o.opened ≡ f.opening
    same o = same-opening xs j o.opened f.opening o.at s.opened

    by : (c : Opening) → f.opening ≡ c → Decides (loops c f.has_else f.around) (InLoop xs i)
    by (opened.control Range) e =
        let own = ap is_template (same s.last.is_open ∙ e) in
        Decides-like (not f.has_else || f.around)
        (⊎_elim (λ no. (
          j,
          (
            s.last.is_open,
            same s.last.is_open ∙ e,
            one-alike xs j i (alike-last xs j i s.last own),
            no,
          ),
        )) (loop-in xs j i s.last own))
        (λ l. ⊎_elim (λ k. inl (subst (λ q. IsLoop xs q i) k l.1).3) (λ k. inr k) (loop-out xs j i s.last own l))
        (Decides-or (not f.has_else) f.around (Decides-not f.has_else s.has) s.around)
    by (opened.control d) e =
        let own = ap is_template (same s.last.is_open ∙ e) in
        Decides-like f.around (loop-in xs j i s.last own)
        (λ l. ⊎_elim (λ k. let w = subst (λ q. IsLoop xs q i) k l.1 in let g = sym (same w.0) ∙ w.1 in absurd (cc)) (λ k. k) (loop-out xs j i s.last own l))
        s.around
    by c e = (
      λ k. cc,
      λ l. absurd (⊎_elim (λ gt. s.last.last l.0 gt l.1.0)
          (λ le. template-apart xs j l.0 i (record { is_open = s.last.is_open; own = ap is_template (same s.last.is_open ∙ e) }) le l.1.2)
          (cases_lt j l.0)),
    )

-- to a place where the same stands, with what was declared on the way
module _ (xs : List Role) (j m : ℕ) (s : Same xs j m) (known : Known) (ds : List Name) (new : (n : Name) → Contains ds n → Brought xs None m m n)
    (old : (n : Name) → (b : Brought xs None m m n) → j ≤ b.by → Contains ds n) where
  abbrev names : List Name
  names = known.inner

  here-moves : (t : Option Frame) → Here xs j t names → Here xs m t (with_names names ds)
  here-moves t h = record {
    levels_are = levels-same xs j m (levels t) s h.levels_are;
    sees = λ n. Decides-like (is_known (with_names names ds) n)
        (⊎_elim (brought-same xs None j m s n) (new n))
        (λ b. ⊎_elim (λ lt. inl (brought-same-back xs None j m s n b lt)) (λ ge. inr (old n b ge)) (cases_lt b.by j))
        (with-Decides names ds n (h.sees n));
  }

  stood-moves : (f : Frame) (q : ℕ) → Stood xs j names f q → Stood xs m (with_names names ds) f q
  stood-moves f q h =
      let o = h.last.is_open in
      let lt = o.before in
      let le = s.even.le in
      record {
        names = h.names;
        opened = h.opened;
        last = record { is_open = s.even.keeps q o; last = λ k qk ok. h.last.last k qk (s.even.only k ok) };
        over = omega (arith, h.over, s.even.balance);
        has = Decides-like f.has_else (else_before xs q j m le) (else-same xs q j m s o) h.has;
        around = h.around;
        within = record { started = h.within.started; parted = let p = h.within.parted in omega (arith, with-longer names ds) };
        part = λ own. subst (Sees xs (Some q) m) (sym (take-with f.part names ds h.within.parted)) (λ n. Decides-like (is_known (take f.part names) n)
            (brought-same xs (Some q) j m s n)
            (λ b. ⊎_elim (λ low. brought-same-back xs (Some q) j m s n b low) (λ ge. absurd (late n b ge)) (cases_lt b.by j)) (h.part own n));
      }
    where
      -- what is declared since then stands in the frame's opening, where an else is thought of
      late : (n : Name) → (b : Brought xs (Some q) m m n) → j ≤ b.by → ⊥
      late n b ge =
          let there = cut xs q b.by m (let lt = h.last.is_open.before in omega arith) (let lt = b.before in omega arith) (s.even.keeps q h.last.is_open) in
          brought-late xs (Some q) j m s n b.by ge b.before b.reaches (λ p e c f. (f q there).1 refl)

  pub stands-moves : (fs : List Frame) → Stands xs j known fs → Stands xs m (with_inner known (with_names names ds)) fs
  stands-moves [] h = (λ k o. h.0 k (s.even.only k o), here-moves None h.1)
  stands-moves (f ∷ fs) h =
      let w = h.2.within in
      let e : take f.start (with_names names ds) ≡ take f.start names = take-with f.start names ds (let p = w.parted in let q = w.started in omega arith) in
      (here-moves (Some f) h.0, h.1, stood-moves f h.1 h.2, subst (λ l. Stands xs h.1 (closed_if (is_template f.opening) (with_inner known l)) fs) (sym e) h.3)

-- after the opening of a control
module _ (xs : List Role) (i : ℕ) (names : List Name) (d : Control) (p : Names) (at : slice_get xs i ≡ Some (opener (opened.control d) p))
    (t : Option Frame) (h : Here xs i t names) where
  abbrev c : Opening
  c = opened.control d

  pub here-control : Here xs (i + 1) (Some (enter_opening c p t names)) (with_names names p.declares)
  here-control = record {
    levels_are = levels-opened xs i (levels t) c p at h.levels_are;
    sees = sees-opened xs i c p at refl None (λ q e. cc) names h.sees (λ r e. cc);
  }

-- in a template nothing is known
pub here-template : (xs : List Role) (i : ℕ) (names : List Name) (c : Opening) (p : Names) → slice_get xs i ≡ Some (opener c p) → (t : Option Frame)
    → Here xs i t names → is_template c ≡ true → Here xs (i + 1) (Some (enter_opening c p t names)) []
here-template xs i names c p at t h own =
    let body : IsBody xs i (i + 1) = record { is_open = opened_new xs i c p at; own = own } in
    record {
      levels_are = levels-opened xs i (levels t) c p at h.levels_are;
      sees = λ n. (λ k. cc, λ b. absurd (let lt = b.before in template-apart xs i b.by (i + 1) body (omega arith) b.template));
    }
