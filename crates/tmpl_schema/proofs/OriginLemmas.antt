-- For the law `runs_safely`: chains of fields, and the values at their ends, whatever the mode for missing keys.
use Rattle.std.proofs.Common.{◌≡◌, ◌∙◌, ◌++◌, ◌<◌, ◌⊎◌, inl, inr, Bool, true, false, List, [], ◌∷◌, length, ℕ, Some, None, IsSome, Result, Ok, Err, ap, refl, sym, subst, if◌then◌else◌}
use Rattle.std.specs.Prelude.{pos}
use Rattle.tmpl_values.specs.Elements.{values_of_items}
use Rattle.std.proofs.lemmas.Bool.{false≢true, and_parts}
use Rattle.std.specs.Str.{bytes_eq}
use Rattle.tmpl_values.specs.Value.{Value, nothing, null, number, string, sequence, mapping}
use Rattle.tmpl_values.specs.Field.{FieldValue, entry_at, found, missing, of_nothing, no_field, field_at}
use Rattle.tmpl_values.specs.Stage.{and_then}
use Rattle.tmpl_values.specs.Compare.{is_nothing}
use Rattle.tmpl_meaning.specs.Fault.{Cause}
use Rattle.tmpl_meaning.specs.Pipeline.{chain, field_value, without_null}
use Rattle.tmpl_meaning.specs.declared.missing_key.MissingKey.{MissingKey}
use Rattle.tmpl_meaning.specs.declared.missing_key.MissingKey.TheVariants as mode
use Rattle.tmpl_shape.proofs.ShapeLemmas.{same_name}
use Rattle.tmpl_schema.specs.computed.Check.{Origin, Tie, untied, valued, keyed, is_path, join_ties, key_tie, path_of, rest_of, tie_of, tie_within}

-- fields of nothing and of null are nothing or null, and so are those that are missing
nothing-ends : (m : MissingKey) (ns : List (List ℕ)) (x : Value) → chain m ns nothing ≡ Ok x → is_nothing x ≡ true
nothing-ends m [] x e = let same : nothing ≡ x = cc in sym (ap is_nothing same)
nothing-ends mode.Error (n ∷ ns) x e = cc
nothing-ends m (n ∷ ns) x e = nothing-ends m ns x e

null-ends : (m : MissingKey) (ns : List (List ℕ)) (x : Value) → chain m ns null ≡ Ok x → is_nothing x ≡ true
null-ends m [] x e = let same : null ≡ x = cc in sym (ap is_nothing same)
null-ends m (n ∷ ns) x e = cc

missing-ends : (m : MissingKey) (n : List ℕ) (ns : List (List ℕ)) (x : Value) → and_then (field_value m n missing) (chain m ns) ≡ Ok x → is_nothing x ≡ true
missing-ends mode.Error n ns x e = cc
missing-ends mode.Zero n ns x e = null-ends mode.Zero ns x e
missing-ends m n ns x e = nothing-ends m ns x e

of_nothing-ends : (m : MissingKey) (n : List ℕ) (ns : List (List ℕ)) (x : Value) → and_then (field_value m n of_nothing) (chain m ns) ≡ Ok x → is_nothing x ≡ true
of_nothing-ends mode.Error n ns x e = cc
of_nothing-ends m n ns x e = nothing-ends m ns x e

-- what has a field that is neither is neither
thing-before : (m : MissingKey) (ns : List (List ℕ)) (u x : Value) → chain m ns u ≡ Ok x → is_nothing x ≡ false → is_nothing u ≡ false
thing-before m ns nothing x e t = sym (nothing-ends m ns x e) ∙ t
thing-before m ns null x e t = sym (null-ends m ns x e) ∙ t
thing-before m ns _ x e t = refl

-- what is neither is there in each mode
pub chain-modes : (m k : MissingKey) (ns : List (List ℕ)) (u x : Value) → chain m ns u ≡ Ok x → is_nothing x ≡ false → chain k ns u ≡ Ok x
chain-modes m k [] u x e t = e
chain-modes m k (n ∷ ns) u x e t = by (field_at n u) e (λ w. chain-modes m k ns w x)
  where
    by : (f : FieldValue) → and_then (field_value m n f) (chain m ns) ≡ Ok x → ((w : Value) → chain m ns w ≡ Ok x → is_nothing x ≡ false → chain k ns w ≡ Ok x)
        → and_then (field_value k n f) (chain k ns) ≡ Ok x
    by (found w) e more = more w e t
    by no_field e more = cc
    by missing e more = absurd (false≢true (sym t ∙ missing-ends m n ns x e))
    by of_nothing e more = absurd (false≢true (sym t ∙ of_nothing-ends m n ns x e))

chain-split : (m : MissingKey) (ps ns : List (List ℕ)) (u x : Value) → chain m (ps ++ ns) u ≡ Ok x → (w : Value) × (chain m ps u ≡ Ok w) × (chain m ns w ≡ Ok x)
chain-split m [] ns u x e = (u, refl, e)
chain-split m (p ∷ ps) ns u x e = by (field_value m p (field_at p u)) e (λ w. chain-split m ps ns w x)
  where
    by : (r : Result Value Cause) → and_then r (chain m (ps ++ ns)) ≡ Ok x → ((y : Value) → chain m (ps ++ ns) y ≡ Ok x → (w : Value) × (chain m ps y ≡ Ok w) × (chain m ns w ≡ Ok x))
        → (w : Value) × (and_then r (chain m ps) ≡ Ok w) × (chain m ns w ≡ Ok x)
    by (Ok y) e more = more y e
    by (Err cause) e more = cc

chain-joined : (m : MissingKey) (ps ns : List (List ℕ)) (u w : Value) → chain m ps u ≡ Ok w → chain m (ps ++ ns) u ≡ chain m ns w
chain-joined m [] ns u w e = let same : u ≡ w = cc in ap (chain m ns) same
chain-joined m (p ∷ ps) ns u w e = by (field_value m p (field_at p u)) e (λ y. chain-joined m ps ns y w)
  where
    by : (r : Result Value Cause) → and_then r (chain m ps) ≡ Ok w → ((y : Value) → chain m ps y ≡ Ok w → chain m (ps ++ ns) y ≡ chain m ns w)
        → and_then r (chain m (ps ++ ns)) ≡ chain m ns w
    by (Ok v) e more = more v e
    by (Err cause) e more = cc

-- a value is at the end of a chain of fields from another, but for nothing and null
abbrev pub IsAt : List (List ℕ) → Value → Value → Type 0
IsAt ps u x = ((m : MissingKey) (w : Value) → chain m ps u ≡ Ok w → is_nothing w ≡ false → w ≡ x) × (is_nothing x ≡ false → (m : MissingKey) → chain m ps u ≡ Ok x)

pub at-chain : (m : MissingKey) (ps : List (List ℕ)) (u x : Value) → chain m ps u ≡ Ok x → IsAt ps u x
at-chain m ps u x h = (λ k w e t. same k w e t, λ t k. chain-modes m k ps u x h t)
  where
    same : (k : MissingKey) (w : Value) → chain k ps u ≡ Ok w → is_nothing w ≡ false → w ≡ x
    same k w e t = let both : chain m ps u ≡ Ok w = chain-modes k m ps u w e t in cc

pub at-root : (u : Value) → IsAt [] u u
at-root u = at-chain mode.Error [] u u refl

pub at-gone : (ps : List (List ℕ)) (u x : Value) → IsAt ps u x → IsAt ps u (without_null x)
at-gone ps u null h = (λ m w e t. absurd (false≢true (sym t ∙ ap is_nothing (h.0 m w e t))), λ t m. absurd (false≢true (sym t)))
at-gone ps u _ h = h

pub at-joined : (ps ns : List (List ℕ)) (top u x : Value) → IsAt ps top u → IsAt ns u x → IsAt (ps ++ ns) top x
at-joined ps ns top u x h g = (same, λ t m. chain-joined m ps ns top u (h.1 (thing-before m ns u x (g.1 t m) t) m) ∙ g.1 t m)
  where
    same : (m : MissingKey) (w : Value) → chain m (ps ++ ns) top ≡ Ok w → is_nothing w ≡ false → w ≡ x
    same m w e t =
        let s = chain-split m ps ns top w e in
        let is : s.0 ≡ u = h.0 m s.0 s.1 (thing-before m ns s.0 w s.2 t) in
        g.0 m w (subst (λ (y : Value). chain m ns y ≡ Ok w) is s.2) t

-- where the end of a longer chain is there, it is that of what is left of the chain from the end of the shorter
pub at-rest : (m : MissingKey) (ps ns : List (List ℕ)) (top u x : Value) → IsAt ps top u → chain m (ps ++ ns) top ≡ Ok x → is_nothing x ≡ false → chain m ns u ≡ Ok x
at-rest m ps ns top u x h e t =
    let s = chain-split m ps ns top x e in
    let is : s.0 ≡ u = h.0 m s.0 s.1 (thing-before m ns s.0 x s.2 t) in
    subst (λ (y : Value). chain m ns y ≡ Ok x) is s.2

pub rest_of-is : (ps ns ms : List (List ℕ)) → rest_of ps ns ≡ Some ms → ns ≡ ps ++ ms
rest_of-is [] ns ms e = cc
rest_of-is (p ∷ ps) [] ms e = cc
rest_of-is (p ∷ ps) (n ∷ ns) ms e = by (bytes_eq p n) refl e (rest_of-is ps ns ms)
  where
    by : (c : Bool) → bytes_eq p n ≡ c → (if c then rest_of ps ns else None) ≡ Some ms → (rest_of ps ns ≡ Some ms → ns ≡ ps ++ ms) → n ∷ ns ≡ p ∷ (ps ++ ms)
    by true is e more = let same : p ≡ n = same_name p n is in let rest : ns ≡ ps ++ ms = more e in cc
    by false is e more = cc

is_path-same : (ps ns : List (List ℕ)) → is_path ps ns ≡ true → ps ≡ ns
is_path-same [] [] e = refl
is_path-same (p ∷ ps) (n ∷ ns) e =
    let h = and_parts (bytes_eq p n) (is_path ps ns) e in
    let same : p ≡ n = same_name p n h.0 in
    let rest : ps ≡ ns = is_path-same ps ns h.1 in cc
is_path-same _ _ e = absurd (false≢true e)

-- .. from the data of a template
abbrev pub HasOrigin : Value → Origin → Value → Type 0
HasOrigin top None x = Unit {0}
HasOrigin top (Some ps) x = IsAt ps top x

-- ---- ties

-- what a range over a value visits it by
abbrev pub IsKeyOf : Value → Value → Type 0
IsKeyOf (sequence vs) (number (pos i)) = i < length (values_of_items vs)
IsKeyOf (mapping es) (string k) = IsSome (entry_at k es)
IsKeyOf (number n) x = Unit {0}
IsKeyOf u x = ⊥

abbrev pub HasTie : Value → Tie → Value → Type 0
HasTie top untied x = Unit {0}
HasTie top (valued ps) x = IsAt ps top x
HasTie top (keyed ps) x = (u : Value) → IsAt ps top u → is_nothing u ≡ false → IsKeyOf u x

pub tied : (top : Value) (o : Origin) (x : Value) → HasOrigin top o x → HasTie top (tie_of o) x
tied top None x h = tt
tied top (Some ps) x h = h

pub path-has : (top : Value) (t : Tie) (x : Value) → HasTie top t x → HasOrigin top (path_of t) x
path-has top untied x h = tt
path-has top (valued ps) x h = h
path-has top (keyed ps) x h = tt

pub tie_within-has : (top : Value) (t u : Tie) (x : Value) → tie_within t u ≡ true → HasTie top t x → HasTie top u x
tie_within-has top t untied x e h = tt
tie_within-has top (valued ps) (valued ns) x e h = subst (λ (qs : List (List ℕ)). IsAt qs top x) (is_path-same ps ns e) h
tie_within-has top (keyed ps) (keyed ns) x e h = subst (λ (qs : List (List ℕ)). HasTie top (keyed qs) x) (is_path-same ps ns e) h
tie_within-has top _ _ x e h = absurd (false≢true e)

-- what is known of one of two is known of both
pub ties-has : (top : Value) (t u : Tie) (x : Value) → HasTie top t x ⊎ HasTie top u x → HasTie top (join_ties t u) x
ties-has top t u x h = by (tie_within t u) refl
  where
    by : (b : Bool) → tie_within t u ≡ b → HasTie top (if b then u else untied) x
    by true e = elim h [
      | inl y ↦ tie_within-has top t u x e y
      | inr y ↦ y
    ]
    by false e = tt

-- an index or a key of a value at a chain is one of what is there
pub key-tied : (top : Value) (o : Origin) (v x : Value) → HasOrigin top o v → is_nothing v ≡ false → IsKeyOf v x → HasTie top (key_tie o) x
key-tied top None v x h t k = tt
key-tied top (Some ps) v x h t k =
    λ u at there. subst (λ (w : Value). IsKeyOf w x) (at.0 mode.Error v (h.1 t mode.Error) t) k
