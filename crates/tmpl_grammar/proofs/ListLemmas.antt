-- For code that goes over slices: lists through a map, the rest of a list, and how contracts see runs of tokens.
use Rattle.std.proofs.Common.{arith, ◌≡◌, ◌∙◌, ◌+◌, ◌-◌, ◌≤◌, ℕ, Bool, List, [], ◌∷◌, refl, ap, cond, map, length, take, drop, length-drop, sym}
use Rattle.std.specs.List.{list_all, prefix_len}
use Rattle.std.proofs.Math.Seq.{take-length}
use Rattle.std.proofs.lemmas.List.{drop-map}
use Rattle.std.proofs.lemmas.List.Folds.{list_all-map}
use Rattle.std.proofs.lemmas.List.Sums.{prefix_len-le-length, suffix_len-le-length}
use Rattle.tmpl_lex.specs.declared.piece.Token as held
use Rattle.tmpl_lex.specs.View.{token_of}
use Rattle.tmpl_grammar.specs.computed.Token.{is_white, is_blank}

pub prefix-map : {X Y : Type 0} (p : Y → Bool) (f : X → Y) (xs : List X) → prefix_len p (map f xs) ≡ prefix_len (λ x. p (f x)) xs
prefix-map p f [] = refl
prefix-map p f (x ∷ xs) = ap (λ n. cond (p (f x)) (1 + n) 0) (prefix-map p f xs)

-- the elements from a place on, as a slice of them to the end
pub take-rest : {X : Type 0} (xs : List X) (k n : ℕ) → k ≤ length xs → n ≡ length xs - k → take n (drop k xs) ≡ drop k xs
take-rest xs k n h e = ap (λ m. take m (drop k xs)) (let same : n ≡ length (drop k xs) = omega (arith, length-drop k xs) in same) ∙ take-length (drop k xs)

pub blank-view : (ts : List held.Token) → list_all (λ t. is_white (token_of t)) ts ≡ is_blank (map token_of ts)
blank-view ts = sym (list_all-map is_white token_of ts)

pub ruleset views = (blank-view, list_all-map)

pub ruleset fronts = (drop-map, prefix-map, take-rest)

pub ruleset runs = (prefix_len-le-length, suffix_len-le-length)
