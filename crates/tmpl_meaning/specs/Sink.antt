-- What a sink has taken, where it tells that, and how often it has failed. How a text is put is said by `IsPut` of
-- tmpl_values, for sinks as for anything else that takes bytes.
use Rattle.std.specs.Prelude.{◌≡◌, ◌+◌, ℕ, List, Option, Ok, Err}
use Rattle.tmpl_values.specs.Put.{Begins}
pub use Rattle.tmpl_values.specs.Put.{Puts, IsPut, append_bytes}
use Rattle.tmpl_meaning.specs.declared.sink.SinkFault.{SinkFault}

pub record Told : Type 0 where
  pub bytes : Option (List ℕ)
  pub failures : ℕ

-- .. with these bytes taken too
abbrev pub with_bytes : List ℕ → Told → Told
with_bytes bytes t = record t { bytes = append_bytes t.bytes bytes }

-- .. with one more failure
abbrev pub with_failure : Told → Told
with_failure t = record t { failures = t.failures + 1 }

-- as what is put; no reference stands between a sink and what it takes
abbrev pub as_puts : Told → Puts
as_puts t = record { bytes = t.bytes; failures = t.failures; through = 0 }

-- a sink before and after
pub record Sunk : Type 0 where
  pub before : Puts
  pub after : Puts

abbrev pub sunk : Told → Told → Sunk
sunk before after = record { before = as_puts before; after = as_puts after }

-- the sink took the whole text and did not fail
abbrev pub Whole : List ℕ → Sunk → Type 0
Whole text s = IsPut {F = SinkFault} (Ok tt) s.before s.after text

-- the sink failed once, and took a beginning of the text
abbrev pub Cut : List ℕ → Sunk → Type 0
Cut text s = IsPut {F = SinkFault} (Err (record {})) s.before s.after text

-- the sink did not fail, and took a beginning of the text
abbrev pub Begun : List ℕ → Sunk → Type 0
Begun text s = (s.after.failures ≡ s.before.failures) × Begins s.before.bytes s.after.bytes text

-- the sink was not touched, as far as it tells
abbrev pub Untouched : Sunk → Type 0
Untouched s = (s.after.failures ≡ s.before.failures) × (s.after.bytes ≡ s.before.bytes)
