-- What a put leaves of the bytes.
use Rattle.std.specs.Prelude.{◌≡◌, ℕ, List, Option, Result, MatchResult}
use Rattle.tmpl_values.specs.Put.{append_bytes, Begins}

-- all of the text was put, or after a failure a beginning of it
abbrev pub Took : {F : Type 0} → Result (Unit {0}) F → Option (List ℕ) → Option (List ℕ) → List ℕ → Type 0
Took r old new text = MatchResult r (λ u. new ≡ append_bytes old text) (λ e. Begins old new text)
