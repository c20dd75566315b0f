-- For `Scope`: its cells with one more or one less, and the newest place of a name, which its map and its links keep.
use Rattle.std.proofs.Common.{arith, ◌≡◌, ◌∙◌, ◌-◌, ◌<◌, ℕ, suc, Bool, true, false, cond, List, [], ◌∷◌, ◌++◌, length, map, reverse, drop, refl, ap, sym}
use Rattle.std.proofs.Common.{Option, Some, None, Bor}
use Rattle.std.specs.Option.{unwrap_or, option_map, is_some}
use Rattle.std.specs.Str.{bytes_eq}
use Rattle.std.specs.BTreeMap as tree
use Rattle.std.specs.BTreeMap.{BTreeMap}
use Rattle.std.specs.Cmp.Lexicographic.{slice_cmp}
use Rattle.std.specs.Ordering.{nat_cmp}
use Rattle.std.proofs.lemmas.List.{length-map, length-reverse, reverse-append}
use Rattle.std.proofs.lemmas.Slice.Eq.{bytes_eq-Decides}
use Rattle.tmpl_code.specs.Layout.{Layout, is_named, found_at, slot_named}
use Rattle.tmpl_code.specs.declared.scope.ScopeCell as held
use Rattle.tmpl_code.specs.computed.Cells.{cell_seen, layout_in, link_of, link_under, links_in, links_of, place_named, place_of}

-- ---- cells

pub layout_push : (cells : List held.ScopeCell) (c : held.ScopeCell) → layout_in (cells ++ c ∷ []) ≡ cell_seen c ∷ layout_in cells
layout_push cells c = ap (map cell_seen) (reverse-append cells (c ∷ []))

pub links_push : (cells : List held.ScopeCell) (c : held.ScopeCell) → links_in (cells ++ c ∷ []) ≡ link_of c ∷ links_in cells
links_push cells c = ap (map link_of) (reverse-append cells (c ∷ []))

pub layout_length : (cells : List held.ScopeCell) → length (layout_in cells) ≡ length cells
layout_length cells = length-map (reverse cells) cell_seen ∙ length-reverse cells

pub layout_pop : (cells : List held.ScopeCell) (c : held.ScopeCell) → layout_in cells ≡ drop 1 (layout_in (cells ++ c ∷ []))
layout_pop cells c = sym (ap (drop 1) (layout_push cells c))

pub ruleset pushes = (layout_push, links_push, layout_length)

pub ruleset pops = (layout_push, links_push, layout_pop)

-- ---- the newest variable of a name

-- the place that a map has for a name
abbrev pub value_at : BTreeMap (Bor (List ℕ)) (Option ℕ) → List ℕ → Option (Option ℕ)
value_at m q = tree.get_by (λ k. slice_cmp nat_cmp q k.now) m

pub pointed : (m n : BTreeMap (Bor (List ℕ)) (Option ℕ)) (q : List ℕ) (v : Option ℕ) (b : Bool)
    → value_at n q ≡ cond b (Some v) (value_at m q) → place_of n q ≡ cond b v (place_of m q)
pointed m n q v true u = ap (λ o. unwrap_or o None) u
pointed m n q v false u = ap (λ o. unwrap_or o None) u

pub below-top : (q : List ℕ) (cells : Layout) (p : ℕ) → place_named q cells ≡ Some p → p < length cells
below-top q [] p e = cc
below-top q (c ∷ cells) p e = go (is_named q c) (below-top q cells p) e
  where
    go : (b : Bool) → (place_named q cells ≡ Some p → p < length cells) → cond b (Some (length cells)) (place_named q cells) ≡ Some p → p < suc (length cells)
    go true more e = let same : length cells ≡ p = cc in omega arith
    go false more e = let below = more e in omega (arith, below)

-- slots count from the newest cell, places from the oldest
pub slot-of-place : (q : List ℕ) (cells : Layout) → slot_named q cells ≡ option_map (λ p. length cells - 1 - p) (place_named q cells)
slot-of-place q [] = refl
slot-of-place q (c ∷ cells) = go (is_named q c) (slot-of-place q cells)
  where
    deeper : (found slot : Option ℕ) → ((p : ℕ) → found ≡ Some p → p < length cells) → slot ≡ option_map (λ p. length cells - 1 - p) found
        → option_map (λ s. suc s) slot ≡ option_map (λ p. suc (length cells) - 1 - p) found
    deeper None slot below e = ap (option_map (λ s. suc s)) e
    deeper (Some p) slot below e =
        let h = below p refl in
        let more : suc (length cells - 1 - p) ≡ suc (length cells) - 1 - p = omega (arith, h) in
        ap (option_map (λ s. suc s)) e ∙ ap (λ n. Some n) more

    go : (b : Bool) → slot_named q cells ≡ option_map (λ p. length cells - 1 - p) (place_named q cells)
        → found_at b (slot_named q cells) ≡ option_map (λ p. suc (length cells) - 1 - p) (cond b (Some (length cells)) (place_named q cells))
    go true e = let first : 0 ≡ suc (length cells) - 1 - length cells = omega arith in ap (λ n. Some n) first
    go false e = deeper (place_named q cells) (slot_named q cells) (below-top q cells) e

pub ruleset slots = (layout_length, below-top, slot-of-place)

-- a variable less
pub placed-less : (name q : List ℕ) (cells : Layout) (hidden old : Option ℕ) → hidden ≡ place_named name cells → old ≡ place_named q (Some name ∷ cells)
    → cond (bytes_eq name q) hidden old ≡ place_named q cells
placed-less name q cells hidden old link was = go (bytes_eq name q) refl was
  where
    go : (b : Bool) → bytes_eq name q ≡ b → old ≡ cond b (Some (length cells)) (place_named q cells) → cond b hidden old ≡ place_named q cells
    go true same e = link ∙ ap (λ (n : List ℕ). place_named n cells) ((bytes_eq-Decides name q).0 same)
    go false other e = e

pub is-placed : (name : List ℕ) (cells : Layout) → is_some (place_named name (Some name ∷ cells)) ≡ true
is-placed name cells = ap (λ b. is_some (cond b (Some (length cells)) (place_named name cells))) ((bytes_eq-Decides name name).1 refl)

-- where the newest cell is a variable, its link is where the newest one below it of its name is
module _ (items rest : List held.ScopeCell) (c : held.ScopeCell) (is : items ≡ rest ++ c ∷ []) where
  pub top-is : layout_in items ≡ cell_seen c ∷ layout_in rest
  top-is = ap layout_in is ∙ layout_push rest c

  links : links_in items ≡ links_of (layout_in items) → link_of c ∷ links_in rest ≡ link_under (cell_seen c) (layout_in rest) ∷ links_of (layout_in rest)
  links linked = sym (links_push rest c) ∙ sym (ap links_in is) ∙ linked ∙ ap links_of top-is

  pub link-is : links_in items ≡ links_of (layout_in items) → link_of c ≡ link_under (cell_seen c) (layout_in rest)
  link-is linked = let e = links linked in cc

  pub rest-linked : links_in items ≡ links_of (layout_in items) → links_in rest ≡ links_of (layout_in rest)
  rest-linked linked = let e = links linked in cc
