-- For what puts several texts, as `put_quoted`: puts one after another are one put of the joined text.
use Rattle.std.proofs.Common.{◌≡◌, ◌∙◌, ℕ, List, [], ◌++◌, Option, Some, None, Result, Ok, Err, refl, sym, ap, append_assoc, append-nil, arith, subst}
use Rattle.std.specs.Prelude.{OnErr, length, take}
use Rattle.std.specs.Result.{IsErr}
use Rattle.std.proofs.Math.Seq.{take-append_seam}
use Rattle.tmpl_values.specs.Put.{Puts, append_bytes, IsPut}
use Rattle.tmpl_values.specs.computed.Put.{Took}

-- bytes that may not be told, and others after them
pub append_bytes-append : (old : Option (List ℕ)) (a b : List ℕ) → append_bytes (append_bytes old a) b ≡ append_bytes old (a ++ b)
append_bytes-append None a b = refl
append_bytes-append (Some t) a b = ap Some (append_assoc t a b)

pub append_bytes-nil : (old : Option (List ℕ)) → old ≡ append_bytes old []
append_bytes-nil None = refl
append_bytes-nil (Some t) = ap Some (sym (append-nil t))

Took-append : {F : Type 0} (r : Result (Unit {0}) F) (old mid new : Option (List ℕ)) (a b : List ℕ) → mid ≡ append_bytes old a → Took r mid new b
    → Took r old new (a ++ b)
Took-append (Ok u) old mid new a b first second = second ∙ ap (λ t. append_bytes t b) first ∙ append_bytes-append old a b
Took-append (Err e) old mid new a b first second = (
  a ++ second.0,
  second.1,
  ap (λ t. a ++ t) second.2 ∙ sym (append_assoc a second.0 second.1),
  second.3 ∙ ap (λ t. append_bytes t second.0) first ∙ append_bytes-append old a second.0,
)

-- nothing is put
pub IsPut-nil : {F : Type 0} (p : Puts) → IsPut {F = F} (Ok tt) p p []
IsPut-nil p = record { count = omega arith; bytes = append_bytes-nil p.bytes; through = refl }

-- a text is put after another
pub IsPut-append : {F : Type 0} {old mid new : Puts} {a b : List ℕ} {r : Result (Unit {0}) F} → IsPut {F = F} (Ok tt) old mid a → IsPut r mid new b
    → IsPut r old new (a ++ b)
IsPut-append {old = old} {mid = mid} {new = new} {a = a} {b = b} {r = r} first second = record {
  count = omega (arith, first.count, second.count);
  bytes = Took-append r old.bytes mid.bytes new.bytes a b first.bytes second.bytes;
  through = second.through ∙ first.through;
}

-- the put of the first of two texts fails
pub IsPut-stop : {F : Type 0} {r : Result (Unit {0}) F} {old new : Puts} {a : List ℕ} {e : F} (b : List ℕ) → IsErr r → IsPut {F = F} (Err e) old new a
    → IsPut r old new (a ++ b)
IsPut-stop {r = Ok u} b err h = cc
IsPut-stop {r = Err f} {old = old} {a = a} b err h =
    let begins = h.bytes in
    record { count = h.count; bytes = (begins.0, begins.1 ++ b, ap (λ t. t ++ b) begins.2 ∙ append_assoc begins.0 begins.1 b, begins.3); through = h.through }

pub IsPut-along : {F : Type 0} {r : Result (Unit {0}) F} {old new : Puts} {a b : List ℕ} → IsPut r old new a → a ≡ b → IsPut r old new b
IsPut-along {F} {r} {old} {new} h e = subst (IsPut r old new) e h

-- where a put fails that takes told bytes, these begin with those that were there
pub kept_front : {F : Type 0} (r : Result (Unit {0}) F) (p q : Puts) (old new text : List ℕ) → p.bytes ≡ Some old → q.bytes ≡ Some new → IsPut r p q text
    → OnErr r (take (length old) new ≡ old)
kept_front (Ok u) p q old new text was is h = tt
kept_front (Err e) p q old new text was is h =
    let begins = h.bytes in
    let both : Some new ≡ Some (old ++ begins.0) = sym is ∙ begins.3 ∙ ap (λ o. append_bytes o begins.0) was in
    let same : new ≡ old ++ begins.0 = cc in
    ap (take (length old)) same ∙ take-append_seam old begins.0
