-- For `first_refusal`: what is found first is why the file is refused.
use Rattle.std.proofs.Common.{arith, ◌≡◌, ◌∙◌, ◌⊎◌, inl, inr, ℕ, ◌+◌, List, [], ◌∷◌, ◌++◌, Option, Some, None, refl, sym, ap, subst, length, length-append, map, ⊎_elim}
use Rattle.std.specs.Prelude.{slice_get}
use Rattle.std.specs.Option.{option_map}
use Rattle.std.proofs.lemmas.Option.{slice_get_read, slice_get-map, same_Some}
use lib.Seq.{get_or-append_seam}
use Rattle.tmpl_lex.specs.Piece.{Piece}
use Rattle.tmpl_lex.specs.Text.{newlines}
use Rattle.tmpl_lex.specs.computed.Cut.{cut_of}
use Rattle.tmpl_syntax.specs.Fault as reason
use Rattle.tmpl_syntax.specs.Fault.{Reason}
use Rattle.tmpl_syntax.specs.Item.{Item, ItemKind, item, HasItems}
use Rattle.tmpl_syntax.specs.Language.{every_action}
use Rattle.tmpl_syntax.specs.Laws.{FindsRefusal, IsOfItems}
use Rattle.tmpl_syntax.specs.Parse.{AreRefused, IsRefusedBy}
use Rattle.tmpl_syntax.specs.Place.Body.{IsFirstRefused, IsLeftOpen}
use Rattle.tmpl_syntax.specs.Place.Role.{role_of}
use Rattle.tmpl_syntax.specs.Refusals as law
use Rattle.tmpl_syntax.specs.Refusals.{Site, Found, AreRefusals, roles_in}
use Rattle.tmpl_syntax.specs.computed.Refusals.{site_in, sites_in}
use Rattle.tmpl_syntax.proofs.SiteLemmas.{line-same, no_other_sites, role-same}
use Rattle.tmpl_syntax.specs.computed.Frames.{Verdict, fine, refused, left_open, Judged}
use Rattle.tmpl_syntax.specs.computed.Item.{item_in, items_in}
use Rattle.tmpl_syntax.specs.computed.Parse.{line_in}
use Rattle.tmpl_syntax.proofs.ItemLemmas.{no-others}
use Rattle.tmpl_syntax.proofs.VerdictLemmas.{one-verdict}

-- ---- what is found, by the verdict

abbrev FirstFor : ℕ → List Site → Verdict → List Found → Type 0
FirstFor last xs fine rs = rs ≡ []
FirstFor last xs left_open rs = rs ≡ (length xs, last, reason.open_at_end) ∷ []
FirstFor last xs (refused i why) rs = (x : Site) × (more : List Found) × (slice_get xs i ≡ Some x) × (rs ≡ (i, x.line, why) ∷ more)

at-seam : (before : List Site) (x : Site) (after : List Site) → slice_get (before ++ x ∷ after) (length before) ≡ Some x
at-seam before x after = slice_get_read (before ++ x ∷ after) (length (before ++ x ∷ after)) (length before) x refl
    (omega (arith, length-append before (x ∷ after))) (sym (get_or-append_seam before x after x))

first-for : (last : ℕ) (xs : List Site) (rs : List Found) (v : Verdict) → AreRefusals last xs rs → Judged (roles_in xs) v → FirstFor last xs v rs
first-for last xs rs v (law.none f) j = subst (λ w. FirstFor last xs w []) (one-verdict (roles_in xs) fine v f j) refl
first-for last xs rs v (law.left_open o) j =
    subst (λ w. FirstFor last xs w ((length xs, last, reason.open_at_end) ∷ [])) (one-verdict (roles_in xs) left_open v o j) refl
first-for last xs rs v (law.refused before x after {why = why} {rs = more} r a) j =
    subst (λ w. FirstFor last (before ++ x ∷ after) w ((length before, x.line, why) ∷ more))
    (one-verdict (roles_in (before ++ x ∷ after)) (refused (length before) why) v r j) (x, more, at-seam before x after, refl)

-- ---- the items of a file, and its sites

roles-same : (ps : List Piece) → roles_in (sites_in ps) ≡ map role_of (items_in ps)
roles-same [] = refl
roles-same (p ∷ ps) = ap (λ r. r ∷ roles_in (sites_in ps)) (role-same p) ∙ ap (λ rs. role_of (item_in p) ∷ rs) (roles-same ps)

lines-same : (ps : List Piece) (i line : ℕ) (x : Site) (what : ItemKind) → slice_get (sites_in ps) i ≡ Some x
    → slice_get (items_in ps) i ≡ Some (item line what) → x.line ≡ line
lines-same ps i line x what e f = by (slice_get ps i) refl
  where
    by : (o : Option Piece) → slice_get ps i ≡ o → x.line ≡ line
    by None g = absurd (let none = sym e ∙ slice_get-map site_in ps i ∙ ap (option_map site_in) g in cc)
    by (Some p) g =
        ap (λ (y : Site). y.line) (same_Some x (site_in p) (sym e ∙ slice_get-map site_in ps i ∙ ap (option_map site_in) g))
        ∙ line-same p ∙ ap line_in (ap (option_map item_in) (sym g) ∙ sym (slice_get-map item_in ps i) ∙ f)

-- ---- why a file is refused

-- it is left open at its end, or an item is the first that is refused
abbrev IsOpenOr : List ℕ → List Item → ℕ → Reason → Type 0
IsOpenOr bytes items line why = (IsLeftOpen (map role_of items) × (line ≡ newlines bytes + 1) × (why ≡ reason.open_at_end))
    ⊎ ((i : ℕ) × (what : ItemKind) × IsFirstRefused (map role_of items) i why × (slice_get items i ≡ Some (item line what)))

open-or : (file bytes : List ℕ) (items : List Item) (line : ℕ) (why : Reason) → IsOfItems why → AreRefused file bytes items line why → IsOpenOr bytes items line why
open-or file bytes items line reason.too_long is r = absurd is
open-or file bytes items line reason.second_definition is r = absurd is
open-or file bytes items line reason.open_at_end is r = inl (r.0, r.1, refl)
open-or file bytes items line reason.unreadable is r = inr r
open-or file bytes items line reason.not_an_action is r = inr r
open-or file bytes items line reason.out_of_place is r = inr r
open-or file bytes items line reason.nested_too_deeply is r = inr r
open-or file bytes items line reason.undeclared_variable is r = inr r

refused-items : (file bytes : List ℕ) (line : ℕ) (why : Reason) → IsOfItems why → IsRefusedBy every_action file bytes line why
    → (items : List Item) × HasItems every_action bytes items × IsOpenOr bytes items line why
refused-items file bytes line reason.too_long is r = absurd is
refused-items file bytes line reason.second_definition is r = absurd is
refused-items file bytes line reason.open_at_end is (short, items, has, r) = (items, has, open-or file bytes items line reason.open_at_end is r)
refused-items file bytes line reason.unreadable is (short, items, has, r) = (items, has, open-or file bytes items line reason.unreadable is r)
refused-items file bytes line reason.not_an_action is (short, items, has, r) = (items, has, open-or file bytes items line reason.not_an_action is r)
refused-items file bytes line reason.out_of_place is (short, items, has, r) = (items, has, open-or file bytes items line reason.out_of_place is r)
refused-items file bytes line reason.nested_too_deeply is (short, items, has, r) =
    (items, has, open-or file bytes items line reason.nested_too_deeply is r)
refused-items file bytes line reason.undeclared_variable is (short, items, has, r) =
    (items, has, open-or file bytes items line reason.undeclared_variable is r)

pub finds_refusal : FindsRefusal
finds_refusal file bytes line why rs is r (xs, sites, found) =
    let a = subst (λ ys. AreRefusals (newlines bytes + 1) ys rs) (no_other_sites bytes xs sites) found in
    let (items, has, o) = refused-items file bytes line why is r in
    let ps = cut_of bytes in
    let own : items ≡ items_in ps = no-others bytes items has in
    let same : map role_of items ≡ roles_in (sites_in ps) = ap (map role_of) own ∙ sym (roles-same ps) in
    ⊎_elim
    (λ l. let f = first-for (newlines bytes + 1) (sites_in ps) rs left_open a (subst IsLeftOpen same l.0) in
    (length (sites_in ps), [], rw (l.1, l.2) f))
    (λ l. let f = first-for (newlines bytes + 1) (sites_in ps) rs (refused l.0 why) a (subst (λ xs. IsFirstRefused xs l.0 why) same l.2) in
    (l.0, f.1, f.3 ∙ ap (λ n. (l.0, n, why) ∷ f.1) (lines-same ps l.0 line f.0 l.1 f.2 (subst (λ xs. slice_get xs l.0 ≡ Some (item line l.1)) own l.3))))
    o
