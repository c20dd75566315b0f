-- For `examine`: the refusals of a file, each place once; and the first is why the file is refused.
use Rattle.std.proofs.Common.{arith, ◌≡◌, ◌∙◌, ◌<◌, ℕ, ◌+◌, Bool, true, false, List, [], ◌∷◌, ◌++◌, Option, Some, refl, sym, ap, subst, map, length, drop, get_or, append_assoc}
use Rattle.std.specs.Prelude.{◌≢◌, if◌then◌else◌, Result, Ok, Err, Vec, IfOk}
use Rattle.std.specs.declared.alloc.Global.{Global}
use Rattle.std.specs.declared.alloc.AllocError.{AllocError}
use Rattle.tmpl_syntax.specs.declared.fault.ParseKind.{ParseKind}
use Rattle.tmpl_syntax.specs.declared.fault.ParseKind.TheVariants as kinds
use Rattle.std.proofs.lemmas.List.{drop_more, map-append}
use Rattle.tmpl_syntax.specs.Fault as reason
use Rattle.tmpl_syntax.specs.Fault.{Reason, reason_of}
use Rattle.tmpl_syntax.specs.Laws.{IsOfItems}
use Rattle.tmpl_syntax.specs.Parse.{Parses, ParsesUnless, IsRefusedBy}
use Rattle.tmpl_syntax.specs.computed.Parse.{IsAdded, IsReadingOf}
use Rattle.tmpl_syntax.specs.declared.fault.Refusal as held_refusal
use Rattle.tmpl_syntax.proofs.ReadingLemmas.{accepted, refusal-for}
use Rattle.tmpl_syntax.specs.Language.{every_action}
use Rattle.tmpl_syntax.specs.Refusals.{Found, HasRefusals, Shown, show, refused_seen}
use Rattle.tmpl_syntax.specs.computed.Refusals.{found_seen}
use Rattle.tmpl_syntax.specs.Set.{Template}
use Rattle.tmpl_syntax.specs.declared.refused.Refused.{Refused}
use Rattle.tmpl_syntax.proofs.FirstRefusalLemmas.{finds_refusal}
use Rattle.tmpl_syntax.specs.declared.found.Found as held_found
use Rattle.tmpl_syntax.specs.Examine.{is_at, is_unreadable, firsts_after, firsts, AreOf, Examined}

-- ---- each place once

-- what is kept so far, and what is kept of those after this place
abbrev pub Keeps : List held_found.Found → List Shown → Option ℕ → List held_found.Found → Type 0
Keeps all kept last rest = firsts (map found_seen all) ≡ kept ++ firsts_after last (map found_seen rest)

module _ (all : List held_found.Found) (i : ℕ) (r : held_found.Found) (lt : i < length all) (is : r ≡ get_or all i r) (kept : List Shown) (last : Option ℕ)
    (k : Keeps all kept last (drop i all)) where
  here : Keeps all kept last (r ∷ drop (i + 1) all)
  here = subst (λ rs. Keeps all kept last rs) (drop_more all i r lt ∙ ap (λ x. x ∷ drop (i + 1) all) (sym is)) k

  abbrev later : List Shown
  later = firsts_after (Some r.place) (map found_seen (drop (i + 1) all))

  chosen : (b u : Bool) → is_at last r.place ≡ b → is_unreadable (reason_of r.kind) ≡ u
      → firsts_after last (map found_seen (r ∷ drop (i + 1) all)) ≡ (if b then later else found_seen r ∷ (if u then [] else later))
  chosen b u e f = ap (λ c. if c then later else found_seen r ∷ (if is_unreadable (reason_of r.kind) then [] else later)) e
      ∙ ap (λ c. if b then later else found_seen r ∷ (if c then [] else later)) f

  pub keeps-same : is_at last r.place ≡ true → Keeps all kept (Some r.place) (drop (i + 1) all)
  keeps-same e = here ∙ ap (λ ss. kept ++ ss) (chosen true (is_unreadable (reason_of r.kind)) e refl)

  pub keeps-more : is_at last r.place ≡ false → is_unreadable (reason_of r.kind) ≡ false → Keeps all (kept ++ found_seen r ∷ []) (Some r.place) (drop (i + 1) all)
  keeps-more e f = here ∙ ap (λ ss. kept ++ ss) (chosen false false e f) ∙ sym (append_assoc kept (found_seen r ∷ []) later)

  -- nothing is kept after one that can't be read
  pub keeps-last : is_at last r.place ≡ false → is_unreadable (reason_of r.kind) ≡ true → kept ++ found_seen r ∷ [] ≡ firsts (map found_seen all)
  keeps-last e f = sym (here ∙ ap (λ ss. kept ++ ss) (chosen false true e f))

-- what is told, with one more
pub seen-more : (old new : List Refused) (r : Refused) (s : Shown) → new ≡ old ++ r ∷ [] → refused_seen r ≡ s
    → map refused_seen old ++ s ∷ [] ≡ map refused_seen new
seen-more old new r s n e = sym (ap (map refused_seen) n ∙ map-append refused_seen old (r ∷ []) ∙ ap (λ t. map refused_seen old ++ t ∷ []) e)

-- ---- the first

same-head : {A : Type 0} {x y : A} {xs ys : List A} → x ∷ xs ≡ y ∷ ys → x ≡ y
same-head {x = x} e = ap (λ zs. get_or zs 0 x) e

-- the first of them is the refusal of the file
first-refused_seen : (file bytes : List ℕ) (line : ℕ) (why : Reason) (rs : List Found) → IsOfItems why → IsRefusedBy every_action file bytes line why
    → HasRefusals bytes rs → (place : ℕ) × (more : List Shown) × (firsts (map show rs) ≡ (place, line, Some why) ∷ more)
first-refused_seen file bytes line why rs is r a =
    let (place, more, e) = finds_refusal file bytes line why rs is r a in
    (place, _, ap (λ fs. firsts (map show fs)) e)

module _ (old : List Template) (path bytes : List ℕ) (new : List Template) (line : ℕ) (why : Reason) (same : new ≡ old) where
  all-of : (is : IsOfItems why) → ((ss : List Shown) (rs : List Found) → HasRefusals bytes rs → ss ≡ firsts (map show rs) → AreOf bytes why ss)
      → IsRefusedBy every_action path bytes line why → Parses old path bytes (Err (line, why)) → (v : List Refused) (rs : List Found)
      → HasRefusals bytes rs → map refused_seen v ≡ firsts (map show rs) → Examined old path bytes new v
  all-of is are r parses v rs a e = by v e (first-refused_seen path bytes line why rs is r a)
    where
      by : (v : List Refused) → map refused_seen v ≡ firsts (map show rs)
          → ((place : ℕ) × (more : List Shown) × (firsts (map show rs) ≡ (place, line, Some why) ∷ more)) → Examined old path bytes new v
      by [] f (place, more, g) = absurd (let none = f ∙ g in cc)
      by (x ∷ xs) f (place, more, g) =
          let first : refused_seen x ≡ (place, line, Some why) = same-head (f ∙ g) in
          let at : x.line ≡ line = ap (λ (s : Shown). s.1) first in (
            same,
            why,
            ap (λ (s : Shown). s.2) first,
            subst (λ n. Parses old path bytes (Err (n, why))) (sym at) parses,
            are (map refused_seen (x ∷ xs)) rs a f,
          )

pub items_examined : (old : List Template) (path bytes : List ℕ) (new : List Template) (line : ℕ) (kind : ParseKind)
    → kind ≢ kinds.TooLong → kind ≢ kinds.SecondDefinition → kind ≢ kinds.OutOfMemory → new ≡ old
    → ParsesUnless old path bytes line (reason_of kind) → (v : List Refused)
    → ((rs : List Found) × HasRefusals bytes rs × (map refused_seen v ≡ firsts (map show rs))) → Examined old path bytes new v
items_examined old path bytes new line kinds.TooLong t s m same p v f = absurd (t refl)
items_examined old path bytes new line kinds.SecondDefinition t s m same p v f = absurd (s refl)
items_examined old path bytes new line kinds.OutOfMemory t s m same p v f = absurd (m refl)
items_examined old path bytes new line kinds.Unreadable t s m same p v (rs, a, e) =
    all-of old path bytes new line reason.unreadable same tt (λ ss rs a e. (rs, a, e)) p p v rs a e
items_examined old path bytes new line kinds.NotAnAction t s m same p v (rs, a, e) =
    all-of old path bytes new line reason.not_an_action same tt (λ ss rs a e. (rs, a, e)) p p v rs a e
items_examined old path bytes new line kinds.OutOfPlace t s m same p v (rs, a, e) =
    all-of old path bytes new line reason.out_of_place same tt (λ ss rs a e. (rs, a, e)) p p v rs a e
items_examined old path bytes new line kinds.NestedTooDeeply t s m same p v (rs, a, e) =
    all-of old path bytes new line reason.nested_too_deeply same tt (λ ss rs a e. (rs, a, e)) p p v rs a e
items_examined old path bytes new line kinds.UndeclaredVariable t s m same p v (rs, a, e) =
    all-of old path bytes new line reason.undeclared_variable same tt (λ ss rs a e. (rs, a, e)) p p v rs a e
items_examined old path bytes new line kinds.OpenAtEnd t s m same p v (rs, a, e) =
    all-of old path bytes new line reason.open_at_end same tt (λ ss rs a e. (rs, a, e)) p p v rs a e

pub examined_result : (old : List Template) (path bytes : List ℕ) (new : List Template) (line : ℕ) (kind : ParseKind)
    → kind ≢ kinds.TooLong → kind ≢ kinds.SecondDefinition → kind ≢ kinds.OutOfMemory → new ≡ old
    → ParsesUnless old path bytes line (reason_of kind) → (r : Result (Vec Refused Global) AllocError)
    → IfOk r (λ v. (rs : List Found) × HasRefusals bytes rs × (map refused_seen v.items ≡ firsts (map show rs)))
    → IfOk r (λ v. Examined old path bytes new v.items)
examined_result old path bytes new line kind t s m same p (Ok v) f =
    items_examined old path bytes new line kind t s m same p v.items f
examined_result old path bytes new line kind t s m same p (Err e) f = f

-- ---- what comes of a file

pub reading_of : (old : List Template) (path bytes : List ℕ) (new : List Template) (r : Result (Unit {0}) held_refusal.Refusal)
    → IsAdded old path bytes new r → IsReadingOf old path bytes new r
reading_of old path bytes new (Ok u) is = accepted old path bytes new is
reading_of old path bytes new (Err r) (same, is) = (same, refusal-for old path bytes r.line (reason_of r.kind) is)

-- one refusal alone
pub alone_examined : (old : List Template) (path bytes : List ℕ) (new : List Template) (line : ℕ) (kind : ParseKind) (why : Reason)
    → reason_of kind ≡ Some why → ((s : Shown) → AreOf bytes why (s ∷ [])) → new ≡ old → ParsesUnless old path bytes line (reason_of kind)
    → (v : List Refused) → map refused_seen v ≡ (0, line, reason_of kind) ∷ [] → Examined old path bytes new v
alone_examined old path bytes new line kind why is are same p [] e = absurd (cc)
alone_examined old path bytes new line kind why is are same p (x ∷ y ∷ ys) e = absurd (let f : length (map refused_seen (x ∷ y ∷ ys)) ≡ 1 = ap length e in omega (arith, f))
alone_examined old path bytes new line kind why is are same p (x ∷ []) e =
    let first : refused_seen x ≡ (0, line, reason_of kind) = same-head e in
    let at : x.line ≡ line = ap (λ (s : Shown). s.1) first in (
      same,
      why,
      ap (λ (s : Shown). s.2) first ∙ is,
      subst (λ n. Parses old path bytes (Err (n, why))) (sym at) (subst (ParsesUnless old path bytes line) is p),
      are (refused_seen x),
    )

pub alone_result : (old : List Template) (path bytes : List ℕ) (new : List Template) (line : ℕ) (kind : ParseKind) (why : Reason)
    → reason_of kind ≡ Some why → ((s : Shown) → AreOf bytes why (s ∷ [])) → new ≡ old → ParsesUnless old path bytes line (reason_of kind)
    → (r : Result (Vec Refused Global) AllocError) → IfOk r (λ v. map refused_seen v.items ≡ (0, line, reason_of kind) ∷ [])
    → IfOk r (λ v. Examined old path bytes new v.items)
alone_result old path bytes new line kind why is are same p (Ok v) e = alone_examined old path bytes new line kind why is are same p v.items e
alone_result old path bytes new line kind why is are same p (Err e) f = f
