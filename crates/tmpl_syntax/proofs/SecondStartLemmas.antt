-- Where a second definition begins.
use Rattle.std.proofs.Common.{arith, ◌≡◌, ◌∙◌, ◌≤◌, ◌+◌, ℕ, List, [], ◌∷◌, ◌++◌, Option, Some, Result, Ok, Err, IsErrAnd, refl, sym, ap, subst, length, map, append-nil, append_assoc, if◌then◌else◌}
use Rattle.std.specs.List.{AllZip}
use Rattle.std.proofs.lemmas.List.{map-append}
use Rattle.tmpl_lex.specs.Begin.{BeginsAt}
use Rattle.tmpl_grammar.specs.declared.action.Action.TheVariants as action
use Rattle.tmpl_syntax.specs.Examine.{StartsSecond, headers_from, is_header, renumbered}
use Rattle.tmpl_syntax.specs.Parse.{HasSecond}
use Rattle.tmpl_syntax.specs.Tree.{Definition}
use Rattle.tmpl_syntax.specs.computed.Begun.{AllFrom, IsBegun, IsBegunAs, IsSecondStart, definition_at, header_start, starts_in, starts_of}
use Rattle.tmpl_syntax.specs.computed.Build as build
use Rattle.tmpl_syntax.specs.computed.Build.{nodes_from, definitions_from}
use Rattle.tmpl_syntax.specs.computed.Parse.{IsSecondFrom, all_from, checked, items_of, second_in}
use Rattle.tmpl_syntax.specs.Fault.{reason_of}
use Rattle.tmpl_syntax.specs.declared.fault.ParseKind.{ParseKind}
use Rattle.tmpl_syntax.specs.declared.fault.ParseKind.TheVariants as kind
use Rattle.tmpl_syntax.specs.computed.View.{definition_of, item_kind, item_of}
use Rattle.tmpl_syntax.specs.declared.item.Item.{Item}
use Rattle.tmpl_syntax.specs.declared.item.ItemKind.{ItemKind}
use Rattle.tmpl_syntax.specs.declared.item.ItemKind.TheVariants as held
use Rattle.tmpl_syntax.specs.declared.tree.Definition as held_definition
use Rattle.tmpl_syntax.proofs.BeginLemmas.{begins-within}
use Rattle.tmpl_syntax.proofs.ItemLemmas.{has-items}
use Rattle.tmpl_syntax.proofs.SecondLemmas.{has-second}
use Rattle.tmpl_syntax.proofs.SetInvariantLemmas.{checked-verdict}
use Rattle.tmpl_syntax.proofs.SpellingLemmas.{before-last, spells-fine}

-- ---- the headers of a file

header-begins : (file : List ℕ) (place at : ℕ) (what : ItemKind) (hs ss : List ℕ) → IsBegunAs file what place at → AllZip (BeginsAt file) hs ss
    → AllZip (BeginsAt file) (if is_header (item_kind what) then place ∷ hs else hs) (header_start what at ++ ss)
header-begins file place at (held.Action (action.Define name)) hs ss b all = (b, all)
header-begins file place at (held.Action (action.Block name p)) hs ss b all = (b, all)
header-begins file place at _ hs ss b all = all

headers-begin : (file : List ℕ) (n : ℕ) (xs : List Item) → AllFrom (IsBegun file) n xs → AllZip (BeginsAt file) (headers_from n (map item_of xs)) (starts_in xs)
headers-begin file n [] all = tt
headers-begin file n (x ∷ xs) all =
    header-begins file n x.start x.what (headers_from (n + 1) (map item_of xs)) (starts_in xs) all.0 (headers-begin file (n + 1) xs all.1)

-- ---- definitions with where they begin in place of their lines

renumbers : (ds : List held_definition.Definition) → map definition_at ds ≡ renumbered (starts_of ds) (map definition_of ds)
renumbers [] = refl
renumbers (d ∷ ds) = ap (λ es. definition_at d ∷ es) (renumbers ds)

pub starts_second : (bytes name : List ℕ) (xs : List Item) (es : List held_definition.Definition) (start : ℕ) → map item_of xs ≡ items_of bytes
    → checked bytes (items_of bytes) ≡ Ok tt → map definition_of es ≡ all_from name (items_of bytes) → starts_of es ≡ starts_in xs ++ 0 ∷ []
    → AllFrom (IsBegun bytes) 0 xs → second_in (map definition_at es) ≡ Some start → StartsSecond bytes start
starts_second bytes name xs es start read fine built starts all second =
    let items = items_of bytes in
    let same : map definition_at es ≡ renumbered (starts_in xs ++ 0 ∷ []) (all_from name items) =
    renumbers es ∙ ap (λ ss. renumbered ss (map definition_of es)) starts ∙ ap (renumbered (starts_in xs ++ 0 ∷ [])) built in (
      items,
      has-items bytes,
      definitions_from items,
      nodes_from items,
      spells-fine items (checked-verdict bytes items fine),
      name,
      starts_in xs,
      subst (λ is. AllZip (BeginsAt bytes) (headers_from 0 is) (starts_in xs)) read (headers-begin bytes 0 xs all),
      subst (λ ds. HasSecond ds start) same (has-second (map definition_at es) start second),
    )

-- ---- within the file

abbrev LinesWithin : ℕ → List Definition → Type 0
LinesWithin n [] = Unit {0}
LinesWithin n (d ∷ ds) = (d.line ≤ n) × LinesWithin n ds

within-at : (n : ℕ) (before : List Definition) (d : Definition) (rest : List Definition) → LinesWithin n (before ++ d ∷ rest) → d.line ≤ n
within-at n [] d rest all = all.0
within-at n (b ∷ bs) d rest all = within-at n bs d rest all.1

lines-within : (bytes hs ss : List ℕ) (ds : List Definition) → AllZip (BeginsAt bytes) hs ss → LinesWithin (length bytes) (renumbered (ss ++ 0 ∷ []) ds)
lines-within bytes [] [] [] all = tt
lines-within bytes [] [] (d ∷ []) all = (omega arith, tt)
lines-within bytes [] [] (d ∷ e ∷ ds) all = (omega arith, tt)
lines-within bytes (h ∷ hs) (s ∷ ss) [] all = tt
lines-within bytes (h ∷ hs) (s ∷ ss) (d ∷ ds) all = (begins-within bytes h s all.0, lines-within bytes hs ss ds all.1)
lines-within bytes _ _ _ all = absurd all

pub second-within : (bytes : List ℕ) (start : ℕ) → StartsSecond bytes start → start ≤ length bytes
second-within bytes start (items, has, ds, own, spells, name, starts, all, (before, d, rest, split, none, some, at)) =
    subst (λ n. n ≤ length bytes) (sym at) (within-at (length bytes) before d rest
    (subst (LinesWithin (length bytes)) split (lines-within bytes (headers_from 0 items) starts _ all)))

-- ---- as a refusal

pub second-right : (bytes : List ℕ) (why : ParseKind) (second : Option ℕ) (start : ℕ) → IsSecondFrom second start (reason_of why)
    → (second ≡ Some start → StartsSecond bytes start) → IsSecondStart bytes why start
second-right bytes kind.SecondDefinition second start e f = f e
second-right bytes _ second start e f = tt

-- ---- the last item, which is put first

starts-last : (xs : List Item) (x : Item) → starts_in (xs ++ x ∷ []) ≡ starts_in xs ++ header_start x.what x.start
starts-last [] x = append-nil (header_start x.what x.start)
starts-last (y ∷ ys) x = ap (λ ss. header_start y.what y.start ++ ss) (starts-last ys x)
    ∙ sym (append_assoc (header_start y.what y.start) (starts_in ys) (header_start x.what x.start))

pub starts-step : (xs old : List Item) (x : Item) (ps qs all : List ℕ) → old ≡ xs ++ x ∷ [] → qs ≡ header_start x.what x.start ++ ps
    → starts_in old ++ ps ≡ all → starts_in xs ++ qs ≡ all
starts-step xs old x ps qs all o q a =
    ap (λ ss. starts_in xs ++ ss) q ∙ sym (append_assoc (starts_in xs) (header_start x.what x.start) ps)
    ∙ ap (λ ss. ss ++ ps) (sym (ap starts_in o ∙ starts-last xs x)) ∙ a

pub parts-step : (xs old : List Item) (x : Item) (p q all : build.OpenParts) → old ≡ xs ++ x ∷ [] → q ≡ build.parts_with (item_of x) p
    → build.parts_before (map item_of old) p ≡ all → build.parts_before (map item_of xs) q ≡ all
parts-step xs old x p q all o e a =
    ap (build.parts_before (map item_of xs)) e ∙ sym (before-last (map item_of xs) (item_of x) p)
    ∙ sym (ap (λ is. build.parts_before is p) (ap (map item_of) o ∙ map-append item_of xs (x ∷ []))) ∙ a

-- what holds of an error that is passed on holds of the result
pub err-along : {T E : Type 0} (P : Result T E → Type 0) (r : Result T E) (e : E) → IsErrAnd r (λ y. y ≡ e) → P (Err e) → P r
err-along P (Ok x) e h p = absurd h
err-along P (Err y) e h p = subst (λ y. P (Err y)) (sym h) p
