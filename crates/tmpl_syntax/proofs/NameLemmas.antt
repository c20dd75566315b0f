-- For `KnownNames`, `one_verdict`, `formed` and `accepted_back`: tests and what they say, the places that a frame holds, and the names that are
-- known, as they are held, and with more after them.
use Rattle.std.proofs.Common.{arith, ◌≡◌, ℕ, zero, suc, ◌≤◌, Bool, true, false, ◌&&◌, List, [], ◌∷◌, refl, subst, None, ◌||◌, ◌++◌, sym, ap, ◌∙◌, length, take}
use Rattle.std.proofs.Common.{map, Bor, ◌⊎◌, append_assoc, append-nil, length-append, if◌then◌else◌}
use Rattle.std.specs.Prelude.{Contains}
use Rattle.std.specs.Bool.{Decides}
use Rattle.std.proofs.lemmas.Bool.Decides.{not_from_Decides, Decides-at, Decides-or}
use Rattle.std.proofs.lemmas.Map.Made.{is_member-Decides}
use Rattle.std.proofs.lemmas.Slice.Eq.{bytes_eq-Decides}
use Rattle.tmpl_syntax.specs.Place.Role.{Name}
use Rattle.tmpl_syntax.specs.computed.Frames.{Frame, is_known, knows, first_fault, part_of, with_name, with_names}
use Rattle.std.specs.List.{list_any, take-map}
use Rattle.std.specs.Str.{bytes_eq}
use Rattle.std.proofs.Math.Bool.{or-false, or_assoc}
use Rattle.std.proofs.Math.Seq.{take-length}
use Rattle.std.proofs.lemmas.Bool.{or_right}
use Rattle.std.proofs.lemmas.List.{map-append, take-append-le}
use Rattle.std.proofs.lemmas.List.Folds.{list_any-append}
use Rattle.tmpl_grammar.specs.declared.tree.Control.{Control}
use Rattle.tmpl_grammar.specs.declared.tree.Control.TheVariants.{Range}

-- the places that a frame holds are in order
pub record IsWithin (f : Frame) (count : ℕ) : Type 0 where
  pub started : f.start ≤ f.part
  pub parted : f.part ≤ count

-- a test that passes just where this does not hold
abbrev pub Clears : Bool → Type 0 → Type 0
Clears true P = P → ⊥
Clears false P = P

pub clears : {P : Type 0} (b : Bool) → Decides b P → Clears b (P → ⊥)
clears true d = λ h. h (d.0 refl)
clears false d = not_from_Decides false d refl

-- an action without a fault is in place and not too deep
pub faultless : (p d k : Bool) → first_fault p d k ≡ None → (p ≡ true) × (d ≡ false)
faultless true false true e = (refl, refl)
faultless _ _ _ e = cc

-- no name is one of none
pub in-nothing : {A : Type 0} (n : Name) → Contains {X = Name} [] n → A
in-nothing n c = let lt = c.1 in absurd (omega arith)

pub known-Decides : (names : List Name) (n : Name) → Decides (is_known names n) (Contains names n)
known-Decides names n = is_member-Decides bytes_eq-Decides names n

-- whether each of the names is known, where that is decided of each
pub knows-clears : (names uses : List Name) (P : Name → Type 0) → ((n : Name) → Contains uses n → Decides (is_known names n) (P n))
    → Clears (knows names uses) ((n : Name) × Contains uses n × (P n → ⊥))
knows-clears names [] P each = λ u. in-nothing u.0 u.1
knows-clears names (u ∷ us) P each =
    by (is_known names u) (knows names us) (each u (0, omega arith, refl)) (knows-clears names us P (λ n c. each n (later n c)))
  where
    later : (n : Name) → Contains us n → Contains (u ∷ us) n
    later n (k, lt, e) = (suc k, omega arith, e)

    by : (b c : Bool) → Decides b (P u) → Clears c ((n : Name) × Contains us n × (P n → ⊥)) → Clears (b && c) ((n : Name) × Contains (u ∷ us) n × (P n → ⊥))
    by false c d more = (u, (0, omega arith, refl), not_from_Decides false d refl)
    by true false d more = (more.0, later more.0 more.1, more.2)
    by true true d more = go
      where
        go : (n : Name) × Contains (u ∷ us) n × (P n → ⊥) → ⊥
        go (n, (zero, lt, e), hidden) = hidden (subst P e (d.0 refl))
        go (n, (suc k, lt, e), hidden) = more (n, (k, omega arith, e), hidden)

-- ---- as they are held

abbrev pub seen : List (Bor (List ℕ)) → List Name
seen keys = map (λ (k : Bor (List ℕ)). k.now) keys

abbrev is_held : List (Bor (List ℕ)) → Name → Bool
is_held keys name = list_any (λ (k : Bor (List ℕ)). bytes_eq name k.now) keys

pub known-held : (keys : List (Bor (List ℕ))) (name : Name) → is_held keys name ≡ is_known (seen keys) name
known-held [] name = refl
known-held (k ∷ keys) name = ap (λ b. bytes_eq name k.now || b) (known-held keys name)

pub with-held : (keys : List (Bor (List ℕ))) (name : Bor (List ℕ))
    → seen (if is_held keys name.now then keys else keys ++ name ∷ []) ≡ with_name (seen keys) name.now
with-held keys name =
    by (is_held keys name.now) ∙ ap (λ b. if b then seen keys else seen keys ++ name.now ∷ []) (known-held keys name.now)
  where
    by : (b : Bool) → seen (if b then keys else keys ++ name ∷ []) ≡ (if b then seen keys else seen keys ++ name.now ∷ [])
    by true = refl
    by false = map-append (λ (k : Bor (List ℕ)). k.now) keys (name ∷ [])

pub ruleset held = take-map

-- ---- names with more

-- they are those names, and others after them
with-names : (names ds : List Name) → (new : List Name) × (with_names names ds ≡ names ++ new)
with-names names [] = ([], sym (append-nil names))
with-names names (d ∷ ds) = by (is_known names d) (with-names (with_name names d) ds)
  where
    by : (b : Bool) → (new : List Name) × (with_names (with_name names d) ds ≡ (if b then names else names ++ d ∷ []) ++ new)
        → (new : List Name) × (with_names (with_name names d) ds ≡ names ++ new)
    by true m = m
    by false m = (d ∷ m.0, m.1 ∙ append_assoc names (d ∷ []) m.0)

pub with-longer : (names ds : List Name) → length names ≤ length (with_names names ds)
with-longer names ds = let m = with-names names ds in omega (arith, ap length m.1, length-append names m.0)

pub take-with : (k : ℕ) (names ds : List Name) → k ≤ length names → take k (with_names names ds) ≡ take k names
take-with k names ds le = let m = with-names names ds in ap (take k) m.1 ∙ take-append-le k names m.0 le

pub take-before : (names ds : List Name) → take (length names) (with_names names ds) ≡ names
take-before names ds = take-with (length names) names ds (omega arith) ∙ take-length names

pub one-known : (names : List Name) (d x : Name) → is_known (with_name names d) x ≡ (is_known names x || bytes_eq x d)
one-known names d x = by (is_known names d) refl
  where
    there : (b : Bool) → bytes_eq x d ≡ b → is_known names d ≡ true → is_known names x ≡ (is_known names x || b)
    there true e k = ap (is_known names) ((bytes_eq-Decides x d).0 e) ∙ k ∙ sym (or_right (is_known names x) true refl)
    there false e k = sym (or-false (is_known names x))

    by : (b : Bool) → is_known names d ≡ b → is_known (if b then names else names ++ d ∷ []) x ≡ (is_known names x || bytes_eq x d)
    by true k = there (bytes_eq x d) refl k
    by false k = list_any-append (bytes_eq x) names (d ∷ []) ∙ ap (λ b. is_known names x || b) (or-false (bytes_eq x d))

with-known : (names ds : List Name) (x : Name) → is_known (with_names names ds) x ≡ (is_known names x || is_known ds x)
with-known names [] x = sym (or-false (is_known names x))
with-known names (d ∷ ds) x =
    with-known (with_name names d) ds x ∙ ap (λ b. b || is_known ds x) (one-known names d x) ∙ or_assoc (is_known names x) (bytes_eq x d) (is_known ds x)

-- known with more is what was known, and what is more
pub with-Decides : {P : Type 0} (names ds : List Name) (n : Name) → Decides (is_known names n) P
    → Decides (is_known (with_names names ds) n) (P ⊎ Contains ds n)
with-Decides names ds n d = Decides-at _ _ (with-known names ds n) (Decides-or (is_known names n) (is_known ds n) d (known-Decides ds n))

-- an else part sees no fewer names than there were before the header, and no more than there are in the body
pub part-low : (c : Control) (names ds : List Name) → length names ≤ part_of c (length names) (length (with_names names ds))
part-low Range names ds = omega arith
part-low _ names ds = with-longer names ds

pub part-high : (c : Control) (names ds : List Name) → part_of c (length names) (length (with_names names ds)) ≤ length (with_names names ds)
part-high Range names ds = with-longer names ds
part-high _ names ds = omega arith

-- what an else part sees: a range's own names are not among it
abbrev pub else_names : Control → List Name → List Name → List Name
else_names Range names ds = names
else_names _ names ds = with_names names ds

pub take-part : (c : Control) (names ds : List Name)
    → take (part_of c (length names) (length (with_names names ds))) (with_names names ds) ≡ else_names c names ds
take-part Range names ds = take-before names ds
take-part _ names ds = take-length (with_names names ds)
