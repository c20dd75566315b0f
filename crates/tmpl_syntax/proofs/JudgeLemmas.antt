-- For `one_verdict`: what the tests of frames and names say of an item.
use Rattle.std.proofs.Common.{arith, ◌≡◌, ◌≢◌, ℕ, ◌≤◌, true, false, not, ◌&&◌, leb, List, [], ◌∷◌, refl, sym, ap, ◌∙◌}
use Rattle.std.proofs.Common.{subst, take, length, Bool, Option, Some, None, ◌⊎◌, inl, inr}
use Rattle.std.specs.Prelude.{slice_get, Contains}
use Rattle.std.specs.Bool.{Decides}
use Rattle.std.proofs.lemmas.Bool.{and_parts, le-leb, leb-true}
use Rattle.std.proofs.lemmas.Bool.Decides.{Decides-and, Decides-like, Decides-not, Decides-or, not_from_Decides}
use Rattle.tmpl_grammar.specs.declared.action.Branch.{Branch}
use Rattle.tmpl_syntax.specs.computed.Frames.{Frame, top, in_loop, levels, takes_else, is_placed, is_nested, is_known, knows, is_too_deep, names_at, Known}
use Rattle.tmpl_syntax.specs.Place.Open.{IsOpen, IsLast, IsElseOf, HasElse}
use Rattle.tmpl_syntax.specs.Place.Scope.{IsInScope}
use Rattle.tmpl_syntax.specs.Place.Body.{joins, TakesElse, IsLoop, IsMisplaced, names_in, AreLevels, opens_level, most_levels}
use Rattle.tmpl_syntax.proofs.NameLemmas.{Clears, clears, in-nothing, knows-clears}
use Rattle.tmpl_syntax.proofs.PlaceLemmas.{same-opening, one-last, even-here, levels-listed, levels-most, no-else, InLoop}
use Rattle.tmpl_syntax.proofs.ScopeLemmas.{to-scope, from-scope, at-place, at-place-back, else-sees, else-seen}
use Rattle.tmpl_syntax.proofs.OpenStackLemmas.{Here, Stands, here-of, looped}
use Rattle.tmpl_syntax.proofs.StepLemmas.{joins-own, joins-no-range}
use Rattle.tmpl_syntax.specs.Place.Opening as opened
use Rattle.tmpl_grammar.specs.declared.tree.Control.TheVariants.{Range}
use Rattle.tmpl_syntax.specs.Place.Role.{Name, Names, plain, opener, else_part, closer, jump, nested, Role}

-- a level more where as many stand as may, or parentheses that nest too deep
pub data IsTooDeep (xs : List Role) (i : ℕ) (x : Role) : Type 0 where
  in_levels : {ks : List ℕ} → opens_level x ≡ true → AreLevels xs i i ks → most_levels ≤ length ks → IsTooDeep xs i x
  in_parentheses : {b : Option Branch} → x ≡ nested b → IsTooDeep xs i x

-- a name used or assigned that is not in scope
abbrev pub IsUndeclared : List Role → ℕ → Role → Type 0
IsUndeclared xs i x = (name : Name) × Contains (names_in x).uses name × (IsInScope xs i name → ⊥)

-- ---- places

top-opening : (xs : List Role) (i : ℕ) (known : Known) (f : Frame) (fs : List Frame) (s : Stands xs i known (f ∷ fs)) (k : ℕ) (m : IsLast xs k i)
    → m.is_open.opened ≡ f.opening
top-opening xs i known f fs s k m =
    same-opening xs k m.is_open.opened f.opening {q = s.2.names} m.is_open.at (rw (one-last xs k s.1 i m s.2.last) s.2.opened)

takes : (xs : List Role) (i : ℕ) (known : Known) (b : Option Branch) (fs : List Frame) → Stands xs i known fs
    → Decides (takes_else b (top fs)) (TakesElse xs b i)
takes xs i known b [] s = (λ e. cc, λ t. absurd (s.0 t.0 t.1.is_open))
takes xs i known b (f ∷ fs) s = Decides-like (takes_else b (Some f))
    (λ (p : (joins b f.opening ≡ true) × (HasElse xs s.1 i → ⊥)).
    (s.1, s.2.last, ap (joins b) (top-opening xs i known f fs s s.1 s.2.last) ∙ p.0, p.1))
    (λ (t : TakesElse xs b i). (
      ap (joins b) (sym (top-opening xs i known f fs s t.0 t.1)) ∙ t.2,
      λ h. t.3 (subst (λ z. HasElse xs z i) (one-last xs s.1 t.0 i s.2.last t.1) h),
    ))
    (Decides-and (joins b f.opening) (not f.has_else) (λ e. e, λ e. e) (Decides-not f.has_else s.2.has))

-- an action is in place, or it is misplaced
pub placed : (xs : List Role) (i : ℕ) (known : Known) (fs : List Frame) (a : Role) → Stands xs i known fs → Clears (is_placed a (top fs)) (IsMisplaced xs i a)
placed xs i known [] (opener opened.define p) s = λ h. s.0 h.0 h.1
placed xs i known (f ∷ fs) (opener opened.define p) s = (s.1, s.2.last.is_open)
placed xs i known fs (else_part None) s = clears _ (takes xs i known None fs s)
placed xs i known fs (else_part (Some (b, p))) s = clears _ (takes xs i known (Some b) fs s)
placed xs i known fs (nested (Some b)) s = clears _ (takes xs i known (Some b) fs s)
placed xs i known [] closer s = s.0
placed xs i known (f ∷ fs) closer s = λ h. h s.1 s.2.last.is_open
placed xs i known fs jump s = by (in_loop (top fs)) (looped xs i known fs s)
  where
    by : (b : Bool) → Decides b (InLoop xs i) → Clears b ((j : ℕ) → IsLoop xs j i → ⊥)
    by true d = λ none. let l = d.0 refl in none l.0 l.1
    by false d = λ j l. not_from_Decides false d refl (j, l)
placed xs i known fs _ s = λ h. h

-- ---- depths

nested-Decides : (a : Role) → Decides (is_nested a) ((b : Option Branch) × (a ≡ nested b))
nested-Decides (nested b) = (λ e. (b, refl), λ h. refl)
nested-Decides _ = (λ e. cc, λ h. let e = h.1 in cc)

pub deep : (xs : List Role) (i : ℕ) (a : Role) (t : Option Frame) (names : List Name) → Here xs i t names → Decides (is_too_deep a t) (IsTooDeep xs i a)
deep xs i a t names h = Decides-like (is_too_deep a t) to back
    (Decides-or (is_nested a) (opens_level a && leb most_levels (levels t)) (nested-Decides a)
    (Decides-and (opens_level a) (leb most_levels (levels t)) (λ e. e, λ e. e) (leb-true most_levels (levels t), le-leb most_levels (levels t))))
  where
    to : ((b : Option Branch) × (a ≡ nested b)) ⊎ ((opens_level a ≡ true) × (most_levels ≤ levels t)) → IsTooDeep xs i a
    to (inl n) = in_parentheses n.1
    to (inr l) = let all = levels-listed h.levels_are i (omega arith) in in_levels l.0 all.2 (rw all.1 l.1)

    back : IsTooDeep xs i a → ((b : Option Branch) × (a ≡ nested b)) ⊎ ((opens_level a ≡ true) × (most_levels ≤ levels t))
    back (in_parentheses {b = b} is) = inl (b, is)
    back (in_levels is are le) = inr (is, omega (arith, le, levels-most h.levels_are (omega arith) are))

-- ---- names

module _ (xs : List Role) (i : ℕ) (known : Known) where
  abbrev names : List Name
  names = known.inner

  -- where an action is no else, the names that are known are those in scope
  wide : (fs : List Frame) → Stands xs i known fs → (x : Role) → slice_get xs i ≡ Some x → ((b : Option (Branch × Names)) → x ≢ (else_part b))
      → (n : Name) → Decides (is_known names n) (IsInScope xs i n)
  wide fs s x at ne n =
      let h = here-of xs i known fs s in
      Decides-like (is_known names n) (at-place xs i n (no-else xs x i at ne)) (at-place-back xs i n) (h.sees n)

  -- .. and where it is an else branch, those that its part sees
  narrow : (f : Frame) (fs : List Frame) → Stands xs i known (f ∷ fs) → (b : Branch) (p : Names) → slice_get xs i ≡ Some (else_part (Some (b, p)))
      → joins (Some b) f.opening ≡ true → (n : Name) → Decides (is_known (take f.part names) n) (IsInScope xs i n)
  narrow f fs s b p at joining n =
      let part : IsElseOf xs (Some (b, p)) s.1 i = record { at = at; belongs = s.2.last } in
      let ranged : (o : IsOpen xs s.1 i) → o.opened ≡ opened.control Range → HasElse xs s.1 i =
      λ o e. absurd (joins-no-range b f.opening joining (same-opening xs s.1 f.opening o.opened s.2.opened o.at ∙ e)) in
      let sees = else-sees xs i s.1 i (Some (b, p)) part (even-here xs i) (omega arith) ranged None (λ q e. cc) n in
      let seen = else-seen xs i s.1 i (Some (b, p)) part (even-here xs i) (omega arith) ranged None (λ q e. cc) n in
      Decides-like (is_known (take f.part names) n) (λ k. to-scope xs i n (sees k)) (λ k. let v = from-scope xs i n k in seen v v.before)
      (s.2.part (joins-own (Some b) f.opening joining) n)

  -- of the names that an action uses those are known that are in scope
  scoped : (fs : List Frame) → Stands xs i known fs → (a : Role) → slice_get xs i ≡ Some a → is_placed a (top fs) ≡ true
      → (n : Name) → Contains (names_in a).uses n → Decides (is_known (names_at a (top fs) names) n) (IsInScope xs i n)
  scoped fs s (plain q) at e n c = wide fs s (plain q) at (λ b g. cc) n
  scoped fs s (opener d q) at e n c = wide fs s (opener d q) at (λ b g. cc) n
  scoped [] s (else_part (Some (b, q))) at e n c = cc
  scoped (f ∷ fs) s (else_part (Some (b, q))) at e n c = narrow f fs s b q at (and_parts (joins (Some b) f.opening) (not f.has_else) e).0 n
  scoped fs s _ at e n c = in-nothing n c

  pub declared : (fs : List Frame) → Stands xs i known fs → (a : Role) → slice_get xs i ≡ Some a → is_placed a (top fs) ≡ true
      → Clears (knows (names_at a (top fs) names) (names_in a).uses) (IsUndeclared xs i a)
  declared fs s a at e = knows-clears (names_at a (top fs) names) (names_in a).uses (IsInScope xs i) (scoped fs s a at e)
