-- For the loops of `put_parted_items` and `put_parted_entries`: one text more, parted by a space.
use Rattle.std.proofs.Common.{◌≡◌, ◌∙◌, ℕ, suc, ◌+◌, ◌<◌, ◌≤◌, List, [], ◌∷◌, ◌++◌, length, get_or, take, drop, map, refl, sym, ap, append_assoc, append-nil}
use Rattle.std.proofs.Math.Numerals.{add-one}
use Rattle.std.proofs.Math.Seq.{drop-cons, take-suc}
use Rattle.std.specs.List.{flat_map, join_with_byte}
use Rattle.std.proofs.lemmas.List.{take-append-drop, map-append, take_all}
use Rattle.std.proofs.lemmas.List.Concat.{flat_map-append}
use Rattle.tmpl_values.specs.declared.data.Data.{Data}
use Rattle.tmpl_values.specs.row.View.{value_of, items_of, entries_of}
use Rattle.tmpl_values.specs.Text.{item_texts, entry_texts, inner_text}

-- the texts, parted by one space, and each with a space before it
abbrev pub parted : List (List ℕ) → List ℕ
parted = join_with_byte 32

abbrev pub spaced : List (List ℕ) → List ℕ
spaced ts = flat_map (λ t. 32 ∷ t) ts

pub parted-cons : (t : List ℕ) (ts : List (List ℕ)) → parted (t ∷ ts) ≡ t ++ spaced ts
parted-cons t [] = sym (append-nil t)
parted-cons t (u ∷ us) = ap (λ s. t ++ 32 ∷ s) (parted-cons u us)

abbrev pub item_text : Data → List ℕ
item_text d = inner_text (value_of d)

abbrev pub entry_text : List ℕ × Data → List ℕ
entry_text e = e.0 ++ 58 ∷ inner_text (value_of e.1)

pub item_texts-map : (ds : List Data) → item_texts (items_of ds) ≡ map item_text ds
item_texts-map [] = refl
item_texts-map (d ∷ ds) = ap (λ ts. item_text d ∷ ts) (item_texts-map ds)

pub entry_texts-map : (es : List (List ℕ × Data)) → entry_texts (entries_of es) ≡ map entry_text es
entry_texts-map [] = refl
entry_texts-map (e ∷ es) = ap (λ ts. entry_text e ∷ ts) (entry_texts-map es)

-- what stands before the next text
abbrev pub lead : List (List ℕ) → List ℕ
lead [] = []
lead (t ∷ ts) = 32 ∷ []

parted-split : (ps : List (List ℕ)) (t : List ℕ) (bs : List (List ℕ)) → parted (ps ++ t ∷ bs) ≡ parted ps ++ (lead ps ++ (t ++ spaced bs))
parted-split [] t bs = parted-cons t bs
parted-split (s ∷ ps) t bs =
    parted-cons s (ps ++ t ∷ bs) ∙ ap (λ u. s ++ u) (flat_map-append (λ t. 32 ∷ t) ps (t ∷ bs))
    ∙ sym (append_assoc s (spaced ps) (32 ∷ (t ++ spaced bs))) ∙ ap (λ u. u ++ 32 ∷ (t ++ spaced bs)) (sym (parted-cons s ps))

lead-more : (ps : List (List ℕ)) (t : List ℕ) → lead (ps ++ t ∷ []) ≡ 32 ∷ []
lead-more [] t = refl
lead-more (a ∷ ps) t = refl

module _ {X : Type 0} (f : X → List ℕ) (xs : List X) (i : ℕ) (x : X) (h : i < length xs) (is : x ≡ get_or xs i x) where
  take-drop_at : xs ≡ take i xs ++ x ∷ drop (suc i) xs
  take-drop_at = sym (take-append-drop i xs) ∙ ap (λ r. take i xs ++ r) (drop-cons xs i x h) ∙ ap (λ y. take i xs ++ y ∷ drop (suc i) xs) (sym is)

  take-next : take (i + 1) xs ≡ take i xs ++ x ∷ []
  take-next = ap (λ n. take n xs) (add-one i) ∙ take-suc xs i x h ∙ ap (λ y. take i xs ++ y ∷ []) (sym is)

  -- the text before x, x and the text after it are the whole
  pub parted-at : (l : List ℕ) → l ≡ lead (map f (take i xs)) → parted (map f (take i xs)) ++
      (l ++ (f x ++ spaced (map f (drop (suc i) xs)))) ≡ parted (map f xs)
  parted-at l e =
      ap (λ u. parted (map f (take i xs)) ++ (u ++ (f x ++ spaced (map f (drop (suc i) xs))))) e ∙
      sym (parted-split (map f (take i xs)) (f x) (map f (drop (suc i) xs))) ∙
      sym (ap parted (ap (map f) take-drop_at ∙ map-append f (take i xs) (x ∷ drop (suc i) xs)))

  pub parted-next : (l : List ℕ) → l ≡ lead (map f (take i xs)) → parted (map f (take i xs)) ++ (l ++ f x) ≡ parted (map f (take (i + 1) xs))
  parted-next l e =
      ap (λ u. parted (map f (take i xs)) ++ (u ++ f x)) e ∙
      sym (ap parted (ap (map f) take-next ∙ map-append f (take i xs) (x ∷ [])) ∙ parted-split (map f (take i xs)) (f x) []
      ∙ ap (λ u. parted (map f (take i xs)) ++ (lead (map f (take i xs)) ++ u)) (append-nil (f x)))

  pub lead-next : 32 ∷ [] ≡ lead (map f (take (i + 1) xs))
  lead-next = sym (ap lead (ap (map f) take-next ∙ map-append f (take i xs) (x ∷ [])) ∙ lead-more (map f (take i xs)) (f x))

pub parted-all : {X : Type 0} (f : X → List ℕ) (xs : List X) (i : ℕ) → length xs ≤ i → parted (map f (take i xs)) ≡ parted (map f xs)
parted-all f xs i h = ap (λ ys. parted (map f ys)) (take_all i xs h)
