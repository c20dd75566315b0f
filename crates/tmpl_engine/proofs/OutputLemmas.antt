-- For all that put to a piece: what a sink took and what waits, put together, and the texts of values in parts.
use Rattle.std.proofs.Common.{arith, lt_of_not-le, ◌≡◌, ◌∙◌, ◌+◌, ◌*◌, ◌≤◌, ◌<◌, ℕ, List, [], ◌++◌, take, drop, add-zero, Option, Some, Result, Ok, Err}
use Rattle.std.proofs.Common.{refl, sym, subst, ap, append_assoc, append-nil}
use Rattle.std.proofs.lemmas.List.{take-append-drop}
use Rattle.std.proofs.lemmas.Nat.{mul-le}
use Rattle.tmpl_values.specs.Item.{bytes_of}
use Rattle.tmpl_values.specs.Put.{Puts, append_bytes}
use Rattle.tmpl_values.specs.computed.Put.{Took}
use Rattle.tmpl_values.specs.Text.{text_of}
use Rattle.tmpl_values.specs.Value.{Value}
use Rattle.tmpl_meaning.specs.Sink.{IsPut, Told, as_puts, with_bytes}
use Rattle.tmpl_values.proofs.PutLemmas.{IsPut-append, append_bytes-append, append_bytes-nil}
use Rattle.tmpl_engine.specs.computed.Output.{Grew, Grows, both, given_of, told_since}
use Rattle.tmpl_engine.specs.declared.piece.LentPiece.{LentPiece}

pub grows-same : (a : Told) → Grows a a
grows-same a = ([], append_bytes-nil a.bytes)

-- .. of what two sinks took
abbrev Extends : Option (List ℕ) → Option (List ℕ) → Type 0
Extends a b = (more : List ℕ) × (b ≡ append_bytes a more)

pub grows-on : (a b c : Option (List ℕ)) → Extends a b → Extends b c → Extends a c
grows-on a b c first second = (first.0 ++ second.0, second.1 ∙ ap (λ t. append_bytes t second.0) first.1 ∙ append_bytes-append a first.0 second.0)

-- a put, whatever it comes to
pub grows-put : {F : Type 0} (r : Result (Unit {0}) F) (a b : Told) (text : List ℕ) → IsPut r (as_puts a) (as_puts b) text → Grows a b
grows-put (Ok u) a b text h = (text, h.bytes)
grows-put (Err e) a b text h = (h.bytes.0, h.bytes.3)

-- so much waits after what a sink took
abbrev pub beyond : Told → List ℕ → ℕ → Puts
beyond t waiting name = record { bytes = append_bytes t.bytes waiting; failures = t.failures; through = name }

part-given : (known : Option (List ℕ)) (rest : List ℕ) (count : ℕ)
    → append_bytes (append_bytes known (take count rest)) (drop count rest) ≡ append_bytes (append_bytes known rest) []
part-given known rest count = grind (arith, append_assoc, take-append-drop {A = ℕ}, append-nil)

-- the sink takes some of what waits, and the others wait
pub given-on : {F : Type 0} (a b : Told) (rest shown next : List ℕ) (count name : ℕ) → b ≡ with_bytes (take count shown) a → shown ≡ rest
    → next ≡ drop count rest
    → IsPut {F = F} (Ok tt) (beyond a rest name) (beyond b next name) []
given-on a b rest shown next count name e same left = record {
  count = ap (λ (t : Told). t.failures) e ∙ sym (add-zero a.failures);
  bytes = grind (arith, part-given a.bytes rest count);
  through = refl;
}

-- a put to a sink after which nothing waits
pub put-after-none : {F : Type 0} (r : Result (Unit {0}) F) (a b : Told) (text waiting : List ℕ) (name : ℕ) → waiting ≡ []
    → IsPut r (as_puts a) (as_puts b) text
    → IsPut r (beyond a waiting name) (beyond b waiting name) text
put-after-none r a b text waiting name e h = subst (λ l. IsPut r (beyond a l name) (beyond b l name) text) (sym e) (record {
  count = h.count;
  bytes = subst (λ x. Took r x (append_bytes b.bytes []) text) (append_bytes-nil a.bytes) (subst (λ y. Took r a.bytes y text) (append_bytes-nil b.bytes) h.bytes);
  through = refl;
})

-- the text of a value that has bytes
pub text_of_bytes : (v : Value) (bytes : List ℕ) → Some bytes ≡ bytes_of v → text_of v ≡ bytes
text_of_bytes v bytes h = grind arith

-- ---- a piece and a sink as one that takes bytes

pub grows-by : (a b c : Told) → a ≡ c → Grew c b → Grows a b
grows-by a b c e h = subst (λ (t : Told). Grows t b) (sym e) (told_since c.bytes b.bytes, h)

-- a square and no more than its root are below the next square
root-le : (s t a b : ℕ) → b ≤ t → s * s + a ≡ t * t + b → s ≤ t
root-le s t a b within e =
    let less : s < t + 1 = lt_of_not-le (λ (above : t + 1 ≤ s). absurd (omega (arith, mul-le (t + 1) (t + 1) s s above above, e, within))) in
    omega (arith, less)

pub both-one : (a b c d : ℕ) → both a b ≡ both c d → (a ≡ c) × (b ≡ d)
both-one a b c d e =
    let sums : a + b ≡ c + d = omega (arith, root-le (a + b) (c + d) b d (omega arith) e, root-le (c + d) (a + b) d b (omega arith) (sym e)) in
    let squares : (a + b) * (a + b) ≡ (c + d) * (c + d) = ap (λ n. n * n) sums in
    let same : b ≡ d = omega (arith, squares, e) in
    (omega (arith, sums, same), same)

-- what was put through two references is what stands after them at their ends
pub put-back : {F : Type 0} (r : Result (Unit {0}) F) (old now told : Told) (p q kept : LentPiece) (m n : ℕ) (text : List ℕ) → told ≡ now → kept ≡ q
    → IsPut r (record (given_of old p) { through = m }) (record (given_of now q) { through = n }) text → IsPut r (given_of old p) (given_of told kept) text
put-back r old now told p q kept m n text told-is kept-is h =
    subst (λ (t : Told). IsPut r (given_of old p) (given_of t kept) text) (sym told-is)
    (subst (λ (w : LentPiece). IsPut r (given_of old p) (given_of now w) text) (sym kept-is) (record { count = h.count; bytes = h.bytes; through = refl }))

pub ruleset putting = (put-after-none, IsPut-append)
