-- What is found of the tokens that the code has is what is found of those that they stand for.
use Rattle.std.proofs.Common.{◌≡◌, ◌∙◌, ℕ, ◌+◌, Bool, true, false, not, ◌||◌, cond, List, [], ◌∷◌, length, Option, Some, None, refl, sym, ap, map, filter}
use Rattle.std.specs.List.{list_any, position, position_or_len}
use Rattle.std.specs.Prelude.{nat_lt, slice_get, if◌then◌else◌}
use Rattle.std.specs.Option.{option_and_then, option_map}
use Rattle.std.proofs.lemmas.Option.{slice_get-map}
use Rattle.tmpl_lex.specs.Piece.{Token}
use Rattle.tmpl_lex.specs.View.{token_of}
use Rattle.tmpl_lex.specs.declared.piece.Token as held
use Rattle.tmpl_hints.specs.Action.{is_among, is_blank, significant}
use Rattle.tmpl_problems.specs.Tokens.{name_after, quoted_name}
use Rattle.std.proofs.lemmas.List.{length-map}

module _ {A B : Type 0} (f : A → B) (p : B → Bool) where
  pub filter-map : (xs : List A) → filter p (map f xs) ≡ map f (filter (λ x. p (f x)) xs)
  filter-map [] = refl
  filter-map (x ∷ xs) = go (p (f x)) (filter-map xs)
    where
      go : (b : Bool) → filter p (map f xs) ≡ map f (filter (λ y. p (f y)) xs)
          → cond b (f x ∷ filter p (map f xs)) (filter p (map f xs)) ≡ map f (cond b (x ∷ filter (λ y. p (f y)) xs) (filter (λ y. p (f y)) xs))
      go true ih = ap (λ ys. f x ∷ ys) ih
      go false ih = ih

  pub list_any-map : (xs : List A) → list_any p (map f xs) ≡ list_any (λ x. p (f x)) xs
  list_any-map [] = refl
  list_any-map (x ∷ xs) = ap (λ b. p (f x) || b) (list_any-map xs)

  place-map : (xs : List A) → position_or_len p (map f xs) ≡ position_or_len (λ x. p (f x)) xs
  place-map [] = refl
  place-map (x ∷ xs) = ap (λ n. cond (not (p (f x))) (1 + n) 0) (place-map xs)

  abbrev within : ℕ → ℕ → Option ℕ
  within place count = cond (nat_lt place count) (Some place) None

  pub position-map : (xs : List A) → position p (map f xs) ≡ position (λ x. p (f x)) xs
  position-map xs = ap (λ place. within place (length (map f xs))) (place-map xs)
      ∙ ap (λ count. within (position_or_len (λ x. p (f x)) xs) count) (length-map xs f)

-- ---- names in quotes

module _ (words : List (List ℕ)) (tokens : List held.Token) where
  chosen : Option held.Token → Option held.Token → Option (List ℕ)
  chosen first second =
      option_and_then (λ t. if is_among words t.bytes.now then option_and_then (λ u. quoted_name (token_of u)) second else None) first

  of-spec : (first second : Option held.Token)
      → option_and_then (λ (t : Token). if is_among words t.bytes then option_and_then quoted_name (option_map token_of second) else None) (option_map token_of first)
      ≡ chosen first second
  unfolding chosen
  of-spec None second = refl
  of-spec (Some t) None = refl
  of-spec (Some t) (Some u) = refl

  at : (k : ℕ) → slice_get (filter (λ (t : Token). not (is_blank t.kind)) (map token_of tokens)) k ≡ option_map token_of (slice_get (significant tokens) k)
  at k = ap (λ ts. slice_get ts k) (filter-map token_of (λ (t : Token). not (is_blank t.kind)) tokens) ∙ slice_get-map token_of (significant tokens) k

  named : (first second : Option held.Token) → slice_get (significant tokens) 0 ≡ first → slice_get (significant tokens) 1 ≡ second
      → name_after words (map token_of tokens) ≡ chosen first second
  named first second p q =
      let zero = at 0 ∙ ap (option_map token_of) p in
      let one = at 1 ∙ ap (option_map token_of) q in
      ap (λ o. option_and_then (λ (t : Token). if is_among words t.bytes then option_and_then quoted_name (slice_get (filter (λ (t : Token). not (is_blank t.kind)) (map token_of tokens)) 1) else None) o) zero
      ∙ ap (λ o. option_and_then (λ (t : Token). if is_among words t.bytes then option_and_then quoted_name o else None) (option_map token_of first)) one
      ∙ of-spec first second

  pub no-first : slice_get (significant tokens) 0 ≡ None → None ≡ name_after words (map token_of tokens)
  unfolding chosen
  no-first p = sym (named None (slice_get (significant tokens) 1) p refl)

  pub other-first : (t : held.Token) → slice_get (significant tokens) 0 ≡ Some t → is_among words t.bytes.now ≡ false → None ≡ name_after words (map token_of tokens)
  unfolding chosen
  other-first t p e = sym (named (Some t) (slice_get (significant tokens) 1) p refl
      ∙ ap (λ b. if b then option_and_then (λ u. quoted_name (token_of u)) (slice_get (significant tokens) 1) else None) e)

  pub no-second : (t : held.Token) → slice_get (significant tokens) 0 ≡ Some t → slice_get (significant tokens) 1 ≡ None → None ≡ name_after words (map token_of tokens)
  unfolding chosen
  no-second t p q = sym (named (Some t) None p q ∙ same (is_among words t.bytes.now))
    where
      same : (b : Bool) → cond {A = Option (List ℕ)} b None None ≡ None
      same true = refl
      same false = refl

  pub both : (t u : held.Token) → slice_get (significant tokens) 0 ≡ Some t → is_among words t.bytes.now ≡ true → slice_get (significant tokens) 1 ≡ Some u
      → quoted_name (token_of u) ≡ name_after words (map token_of tokens)
  unfolding chosen
  both t u p e q = sym (named (Some t) (Some u) p q ∙ ap (λ b. if b then quoted_name (token_of u) else None) e)
