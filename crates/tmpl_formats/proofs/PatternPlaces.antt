-- Matches by what holds after them: at a place in a text, so that no part of the text has to be named.
use Rattle.std.proofs.Common.{◌≡◌, ◌⊎◌, inl, inr, ℕ, zero, suc, true, List, [], ◌∷◌, ◌++◌, refl, ap, sym, ◌∙◌, append_assoc}
use Rattle.tmpl_formats.specs.Pattern.{Tree, Empty, One, Begin, End, Both, Either, Many, Part, Turns, Has, Finds, in_class}

pub case_of : {A B C : Type 0} → A ⊎ B → (A → C) → (B → C) → C
case_of (inl a) f g = f a
case_of (inr b) f g = g b

-- what may hold of a place: of what stands before it, and of what follows
abbrev pub Place : Type 1
Place = List ℕ → List ℕ → Type 0

abbrev pub Any : Place
Any b s = Unit {0}

-- this many turns, and then `next`
abbrev pub Rounds : (Place → Place) → Place → ℕ → Place
Rounds turn next zero before text = next before text
Rounds turn next (suc n) before text = turn (Rounds turn next n) before text

-- at this place there is a match of the tree after which `next` holds
abbrev pub Leads : Tree → Place → Place
Leads Empty next before text = next before text
Leads (One is_negated spans) next before text =
    (code : ℕ) × (rest : List ℕ) × (text ≡ code ∷ rest) × (in_class is_negated spans code ≡ true) × next (before ++ code ∷ []) rest
Leads Begin next before text = (before ≡ []) × next before text
Leads End next before text = (text ≡ []) × next before text
Leads (Both first second) next before text = Leads first (Leads second next) before text
Leads (Either one other) next before text = Leads one next before text ⊎ Leads other next before text
Leads (Many turn) next before text = (n : ℕ) × Rounds (Leads turn) next n before text

pub append_nil : (b : List ℕ) → b ++ [] ≡ b
append_nil [] = refl
append_nil (x ∷ b) = ap (λ c. x ∷ c) (append_nil b)

-- ---- the part that is a match

abbrev Split : Part → Place → Place
Split Is next b s = (part after : List ℕ) × (s ≡ part ++ after) × Is b part after × next (b ++ part) after

abbrev Twice : Part → Part → Part
Twice Is_one Is_other before part after = (p q : List ℕ) × (part ≡ p ++ q) × Is_one before p (q ++ after) × Is_other (before ++ p) q after

no_part : (next : Place) (b s : List ℕ) → next b s → next (b ++ []) s
no_part next b s h = rw (append_nil b) h

two_parts : (Is_one Is_other : Part) (next : Place) (b s p rest q after : List ℕ) → s ≡ p ++ rest → rest ≡ q ++ after → Is_one b p rest → Is_other (b ++ p) q after → next (b ++ p ++ q) after
    → Split (Twice Is_one Is_other) next b s
two_parts Is_one Is_other next b s p rest q after e f first second h =
    (p ++ q, after, e ∙ (ap (λ r. p ++ r) f ∙ sym (append_assoc p q after)), (p, q, refl, (rw f at first), second), (rw (append_assoc b p q) at h))

parts_of_rounds : (Is : Part) (has : Place → Place) (next : Place) → ((next : Place) (b s : List ℕ) → has next b s → Split Is next b s) → (n : ℕ) (b s : List ℕ) → Rounds has next n b s
    → Split (Turns Is n) next b s
parts_of_rounds Is has next known zero b s h = ([], s, refl, refl, no_part next b s h)
parts_of_rounds Is has next known (suc n) b s h =
    let r = known (Rounds has next n) b s h in
    let t = parts_of_rounds Is has next known n (b ++ r.0) r.1 r.4 in
    two_parts Is (Turns Is n) next b s r.0 r.1 t.0 t.1 r.2 t.2 r.3 t.3 t.4

part_of : (p : Tree) (next : Place) (b s : List ℕ) → Leads p next b s → Split (Has p) next b s
part_of Empty next b s h = ([], s, refl, refl, no_part next b s h)
part_of (One is_negated spans) next b s h = (h.0 ∷ [], h.1, h.2, (h.0, refl, h.3), h.4)
part_of Begin next b s h = ([], s, refl, (refl, h.0), no_part next b s h.1)
part_of End next b s h = ([], s, refl, (refl, h.0), no_part next b s h.1)
part_of (Both x y) next b s h =
    let r = part_of x (Leads y next) b s h in
    let t = part_of y next (b ++ r.0) r.1 r.4 in
    two_parts (Has x) (Has y) next b s r.0 r.1 t.0 t.1 r.2 t.2 r.3 t.3 t.4
part_of (Either x y) next b s h =
    case_of h
    (λ g. let r = part_of x next b s g in (r.0, r.1, r.2, inl r.3, r.4))
    (λ g. let r = part_of y next b s g in (r.0, r.1, r.2, inr r.3, r.4))
part_of (Many x) next b s h =
    let r = parts_of_rounds (Has x) (Leads x) next (part_of x) h.0 b s h.1 in (r.0, r.1, r.2, (h.0, r.3), r.4)

-- ---- .. and the other way

from_no_part : (next : Place) (b part after : List ℕ) → part ≡ [] → next (b ++ part) after → next b (part ++ after)
from_no_part next b part after e h = rw (e, ← append_nil b, ← e) h

joined : (next other : Place) (has : Place → Place) (Is_one Is_other : Part) (b part after : List ℕ)
    → ((b part after : List ℕ) → Is_one b part after → other (b ++ part) after → has other b (part ++ after))
    → ((b part after : List ℕ) → Is_other b part after → next (b ++ part) after → other b (part ++ after))
    → Twice Is_one Is_other b part after → next (b ++ part) after → has other b (part ++ after)
joined next other has Is_one Is_other b part after first second h k =
    let later = second (b ++ h.0) h.1 after h.4 (rw (h.2, ← append_assoc b h.0 h.1) at k) in
    rw (ap (λ r. r ++ after) h.2 ∙ append_assoc h.0 h.1 after) (first b h.0 (h.1 ++ after) h.3 later)

rounds_of_parts : (Is : Part) (has : Place → Place) (next : Place)
    → ((next : Place) (b part after : List ℕ) → Is b part after → next (b ++ part) after → has next b (part ++ after))
    → (n : ℕ) (b part after : List ℕ) → Turns Is n b part after → next (b ++ part) after → Rounds has next n b (part ++ after)
rounds_of_parts Is has next known zero b part after h k = from_no_part next b part after h k
rounds_of_parts Is has next known (suc n) b part after h k =
    joined next (Rounds has next n) has Is (Turns Is n) b part after (known (Rounds has next n)) (rounds_of_parts Is has next known n) h k

leads_of : (p : Tree) (next : Place) (b part after : List ℕ) → Has p b part after → next (b ++ part) after → Leads p next b (part ++ after)
leads_of Empty next b part after h k = from_no_part next b part after h k
leads_of (One is_negated spans) next b part after h k = (h.0, after, ap (λ p. p ++ after) h.1, h.2, (rw h.1 at k))
leads_of Begin next b part after h k = (h.1, from_no_part next b part after h.0 k)
leads_of End next b part after h k = (ap (λ p. p ++ after) h.0 ∙ h.1, from_no_part next b part after h.0 k)
leads_of (Both x y) next b part after h k = joined next (Leads y next) (Leads x) (Has x) (Has y) b part after (leads_of x (Leads y next)) (leads_of y next) h k
leads_of (Either x y) next b part after h k = case_of h (λ g. inl (leads_of x next b part after g k)) (λ g. inr (leads_of y next b part after g k))
leads_of (Many x) next b part after h k = (h.0, rounds_of_parts (Has x) (Leads x) next (leads_of x) h.0 b part after h.1 k)

-- ---- a text with a match

pub finds-leads : (p : Tree) (text : List ℕ) → Finds p text → (before rest : List ℕ) × (text ≡ before ++ rest) × Leads p Any before rest
finds-leads p text h = (h.0, h.1 ++ h.2, h.3, leads_of p Any h.0 h.1 h.2 h.4 tt)

pub leads-finds : (p : Tree) (text before rest : List ℕ) → text ≡ before ++ rest → Leads p Any before rest → Finds p text
leads-finds p text before rest e h =
    let r = part_of p Any before rest h in (before, r.0, r.1, e ∙ ap (λ s. before ++ s) r.2, r.3)
