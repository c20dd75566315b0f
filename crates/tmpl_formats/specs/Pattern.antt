-- Regular expressions and what they match. A text is a list of code points.
use Rattle.std.specs.Prelude.{◌≡◌, ◌⊎◌, ℕ, zero, suc, Bool, true, not, ◌&&◌, nat_le, List, [], ◌∷◌, ◌++◌, if◌then◌else◌}
use Rattle.std.specs.List.{list_any}
use Rattle.tmpl_formats.specs.declared.pattern.Span.{Span}

abbrev pub is_in : Span → ℕ → Bool
is_in span code = nat_le span.first code && nat_le code span.last

-- a set of code points: those in the spans, or all others
abbrev pub in_class : Bool → List Span → ℕ → Bool
in_class is_negated spans code = if is_negated then not (list_any (λ s. is_in s code) spans) else list_any (λ s. is_in s code) spans

pub data Tree : Type 0 where
  Empty : Tree
  One : (is_negated : Bool) (spans : List Span) → Tree
  Begin : Tree
  End : Tree
  Both : Tree → Tree → Tree
  Either : Tree → Tree → Tree
  Many : Tree → Tree

-- a part of a text, with what stands before and after it
abbrev pub Part : Type 1
Part = (before part after : List ℕ) → Type 0

-- this many parts, one after another
abbrev pub Turns : Part → ℕ → Part
Turns Turn zero before part after = part ≡ []
Turns Turn (suc n) before part after =
    (turn turns : List ℕ) × (part ≡ turn ++ turns) × Turn before turn (turns ++ after) × Turns Turn n (before ++ turn) turns after

-- the part is a match
abbrev pub Has : Tree → Part
Has Empty before part after = part ≡ []
Has (One is_negated spans) before part after = (code : ℕ) × (part ≡ code ∷ []) × (in_class is_negated spans code ≡ true)
Has Begin before part after = (part ≡ []) × (before ≡ [])
Has End before part after = (part ≡ []) × (after ≡ [])
Has (Both one other) before part after =
    (p q : List ℕ) × (part ≡ p ++ q) × Has one before p (q ++ after) × Has other (before ++ p) q after
Has (Either one other) before part after = Has one before part after ⊎ Has other before part after
Has (Many turn) before part after = (n : ℕ) × Turns (Has turn) n before part after

-- some part of the text is a match
abbrev pub Finds : Tree → List ℕ → Type 0
Finds tree text = (before part after : List ℕ) × (text ≡ before ++ (part ++ after)) × Has tree before part after
