-- What a run puts out, through a piece of memory in which bytes wait for the sink.
use Rattle.std.specs.Prelude.{◌≡◌, ◌+◌, ◌*◌, ℕ, List, [], Option, Some, drop, length}
use Rattle.std.specs.List.{between}
use Rattle.tmpl_values.specs.Put.{Puts, append_bytes}
use Rattle.tmpl_meaning.specs.Sink.{Told}
use Rattle.tmpl_engine.specs.declared.piece.LentPiece.{LentPiece}

-- the bytes that wait in a piece, the oldest first
abbrev pub waiting : LentPiece → List ℕ
waiting p = between p.start p.end p.bytes.now

-- what a sink took, by what it tells of itself, and after it what waits
abbrev pub given_of : Told → LentPiece → Puts
given_of told p =
    record { bytes = append_bytes told.bytes (waiting p); failures = told.failures; through = 0 }

-- what a sink had taken before begins what it has taken now
abbrev pub Grows : Told → Told → Type 0
Grows before now = (more : List ℕ) × (now.bytes ≡ append_bytes before.bytes more)

-- the bytes that were taken since, where what was taken is told
abbrev pub told_since : Option (List ℕ) → Option (List ℕ) → List ℕ
told_since (Some before) (Some now) = drop (length before) now
told_since _ _ = []

-- `Grows` as an equation, which a struct can hold
abbrev pub Grew : Told → Told → Type 0
Grew before now = now.bytes ≡ append_bytes before.bytes (told_since before.bytes now.bytes)

-- two ghost names in one number
abbrev pub both : ℕ → ℕ → ℕ
both a b = (a + b) * (a + b) + b
