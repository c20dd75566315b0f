-- Classes of regular expressions.
use Rattle.std.proofs.Common.{◌≡◌, ℕ, Bool, true, false, List, [], ◌∷◌, ◌++◌, refl, ap, sym, ◌∙◌, append_assoc}
use Rattle.tmpl_formats.specs.Pattern as tree
use Rattle.tmpl_formats.specs.PatternText.{HasItem, HasItems, no_item, item, begins_with, HasAtom, class, negated_class}
use Rattle.tmpl_formats.specs.declared.pattern.Span.{Span}

append_nil : {A : Type 0} (xs : List A) → xs ++ [] ≡ xs
append_nil [] = refl
append_nil (x ∷ xs) = ap (λ ys. x ∷ ys) (append_nil xs)

-- these ranges were read, and what is read next comes after them
abbrev Open : List ℕ → List ℕ → List Span → Type 0
Open text left spans = (others : List Span) (rest : List ℕ) → HasItems left others rest → HasItems text (spans ++ others) rest

pub items-more : (text before left next : List ℕ) (spans more items : List Span) → Open text before spans → left ≡ before → more ≡ spans ++ items → HasItem left items next → Open text next more
items-more text before left next spans more items known same is h others rest t = rw (← (sym (append_assoc spans items others) ∙ ap (λ ss. ss ++ others) (sym is))) (known (items ++ others) rest (item (rw same at h) t))

pub items-end : (text left next : List ℕ) (spans : List Span) → Open text left spans → left ≡ 93 ∷ next → HasItems text spans (93 ∷ next)
items-end text left next spans known e = rw (← append_nil spans) (known [] (93 ∷ next) (rw e no_item))

pub class_of : (is_negated : Bool) (text mid rest : List ℕ) (spans : List Span) → (is_negated ≡ true → text ≡ 94 ∷ mid) → (is_negated ≡ false → mid ≡ text) → is_negated ≡ begins_with 94 text
    → HasItems mid spans (93 ∷ rest) → HasAtom (91 ∷ text) (tree.One is_negated spans) rest
class_of true text mid rest spans taken kept begins h = rw (taken refl) (negated_class h)
class_of false text mid rest spans taken kept begins h = class (sym begins) (rw (kept refl) at h)
