-- For `Set::outline`: templates without their nodes are those of a set, one by one, and have the same numbers.
use Rattle.std.proofs.Common.{◌≡◌, ◌∙◌, ℕ, ◌+◌, suc, List, [], ◌∷◌, ◌++◌, None, refl, ap, sym, map, cond, Some, arith}
use Rattle.std.proofs.Common.{Option, length, nat_lt, not, slice_get, take}
use Rattle.std.proofs.lemmas.List.{length-map, map-append}
use Rattle.std.specs.List.{position_or_len}
use Rattle.std.proofs.Math.Seq.{take-suc}
use Rattle.std.proofs.lemmas.Option.{get_or_from_slice_get, slice_get_within}
use Rattle.std.specs.Prelude.{find}
use Rattle.std.specs.Option.{option_map}
use Rattle.std.specs.Str.{bytes_eq}
use Rattle.tmpl_syntax.specs.Kept.{AreKept, HaveOwnNames, IsSet}
use Rattle.tmpl_syntax.specs.Set.{Template, defined_each, number_of, without_nodes, tree_named}
use Rattle.tmpl_syntax.specs.computed.Set.{has_name}
use Rattle.tmpl_syntax.specs.View.{template_of}
use Rattle.tmpl_syntax.proofs.SameSetLemmas.{each-stays, not-first}
use Rattle.tmpl_syntax.proofs.SetLemmas.{Entry}

kept-outline : (ts : List Template) → AreKept ts → AreKept (map without_nodes ts)
kept-outline [] h = tt
kept-outline (t ∷ ts) h = (h.0, record { formed = refl; printable = tt; need = omega arith }, kept-outline ts h.2)

unnamed-outline : (name : List ℕ) (ts : List Template) → tree_named name ts ≡ None → tree_named name (map without_nodes ts) ≡ None
unnamed-outline name [] none = refl
unnamed-outline name (t ∷ ts) none =
    let apart = not-first name t ts none in
    ap (λ b. option_map (λ (u : Template). u.1) (cond b (Some (without_nodes t)) (find (has_name name) (map without_nodes ts)))) apart.0
    ∙ unnamed-outline name ts apart.1

own-outline : (ts : List Template) → HaveOwnNames ts → HaveOwnNames (map without_nodes ts)
own-outline [] h = tt
own-outline (t ∷ ts) h = (unnamed-outline t.0 ts h.0, own-outline ts h.1)

-- what they are added to, where that is nothing
pub outline_each : (ts : List Template) → IsSet ts → defined_each [] (map without_nodes ts) ≡ map without_nodes ts
outline_each ts h = each-stays (map without_nodes ts) (own-outline ts h.1)

pub outline_kept : (ts : List Template) → IsSet ts → AreKept (map without_nodes ts)
outline_kept ts h = kept-outline ts h.0

-- one more of them
pub outline_more : (ts : List Template) (i : ℕ) (t : Template) (old new : List Entry) (e : Entry) → slice_get ts i ≡ Some t → template_of e ≡ without_nodes t
    → new ≡ old ++ e ∷ [] → map template_of old ≡ map without_nodes (take i ts) → map template_of new ≡ map without_nodes (take (i + 1) ts)
outline_more ts i t old new e at is put so =
    let next : i + 1 ≡ suc i = omega arith in
    let more : take (i + 1) ts ≡ take i ts ++ t ∷ [] =
    ap (λ n. take n ts) next ∙ take-suc ts i t (slice_get_within ts i t at) ∙ ap (λ u. take i ts ++ u ∷ []) (get_or_from_slice_get ts i t t at) in
    ap (map template_of) put ∙ map-append template_of old (e ∷ []) ∙ (λ j. so j ++ is j ∷ [])
    ∙ sym (map-append without_nodes (take i ts) (t ∷ [])) ∙ ap (map without_nodes) (sym more)

-- ---- by number

place-outline : (name : List ℕ) (ts : List Template) → position_or_len (has_name name) (map without_nodes ts) ≡ position_or_len (has_name name) ts
place-outline name [] = refl
place-outline name (t ∷ ts) = ap (λ n. cond (not (bytes_eq name t.0)) (1 + n) 0) (place-outline name ts)

abbrev within : ℕ → ℕ → Option ℕ
within place count = cond (nat_lt place count) (Some place) None

pub outline_number : (name : List ℕ) (ts : List Template) → number_of name (map without_nodes ts) ≡ number_of name ts
outline_number name ts =
    ap (λ place. within place (length (map without_nodes ts))) (place-outline name ts)
    ∙ ap (λ count. within (position_or_len (has_name name) ts) count) (length-map ts without_nodes)
