-- What a sentence says: words after words, and the items of a list.
use Rattle.std.proofs.Common.{◌≡◌, ◌∙◌, ◌+◌, ◌<◌, ◌++◌, ◌==◌, ℕ, suc, false, List, [], ◌∷◌, Some, None, ap, append-nil, append_assoc, arith, codes, get_or, if◌then◌else◌, length, map, sym, take}
use Rattle.std.specs.List.{flat_map}
use Rattle.std.proofs.lemmas.Bool.Decides.{nat_tests}
use Rattle.std.proofs.lemmas.Grind.{flat_map-append}
use Rattle.std.proofs.lemmas.List.{length-take-le, map-append, take_more}
use Rattle.tmpl_hints.specs.Sentence.{Adds, Said}
use Rattle.tmpl_problems.specs.Json.{lines_between}

-- a whole text
pub said_whole : (said : Said) (text bytes : List ℕ) → Adds (Some []) said bytes → said ≡ Some text → text ≡ bytes
said_whole None text bytes a e = cc
said_whole (Some t) text bytes a e = cc

-- what stands before the item of this number
abbrev pub line_before : ℕ → List ℕ
line_before i = if i == 0 then codes "\n" else codes ",\n"

later : (n : ℕ) → (suc n == 0) ≡ false
later n = grind (arith, nat_tests)

-- one more item
between_more : {A : Type 0} (f : A → List ℕ) (xs : List A) (x : A) → lines_between (map f (xs ++ x ∷ [])) ≡ lines_between (map f xs) ++ (line_before (length xs) ++ f x)
between_more f [] x = append-nil (codes "\n" ++ f x)
between_more f (y ∷ ys) x =
    let here = codes "\n" ++ f y in
    ap (λ zs. here ++ flat_map (λ item. codes ",\n" ++ item) zs) (map-append f ys (x ∷ []))
    ∙ ap (λ t. here ++ t) (flat_map-append (λ item. codes ",\n" ++ item) (map f ys) (f x ∷ []))
    ∙ ap (λ t. here ++ (flat_map (λ item. codes ",\n" ++ item) (map f ys) ++ t)) (append-nil (codes ",\n" ++ f x))
    ∙ sym (append_assoc here (flat_map (λ item. codes ",\n" ++ item) (map f ys)) (codes ",\n" ++ f x))
    ∙ ap (λ t. (here ++ flat_map (λ item. codes ",\n" ++ item) (map f ys)) ++ ((if t then codes "\n" else codes ",\n") ++ f x)) (sym (later (length ys)))

pub lines_at : {A : Type 0} (f : A → List ℕ) (xs : List A) (i : ℕ) (d : A) → i < length xs
    → lines_between (map f (take i xs)) ++ (line_before i ++ f (get_or xs i d)) ≡ lines_between (map f (take (i + 1) xs))
lines_at f xs i d h =
    let len : length (take i xs) ≡ i = length-take-le i xs (omega arith) in
    ap (λ n. lines_between (map f (take i xs)) ++ (line_before n ++ f (get_or xs i d))) (sym len)
    ∙ sym (between_more f (take i xs) (get_or xs i d)) ∙ ap (λ ys. lines_between (map f ys)) (sym (take_more xs i d h))

pub lines_more : {A : Type 0} (f : A → List ℕ) (xs : List A) (i : ℕ) (x : A) → i < length xs → x ≡ get_or xs i x
    → lines_between (map f (take i xs)) ++ (line_before i ++ f x) ≡ lines_between (map f (take (i + 1) xs))
lines_more f xs i x h is = ap (λ y. lines_between (map f (take i xs)) ++ (line_before i ++ f y)) is ∙ lines_at f xs i x h
