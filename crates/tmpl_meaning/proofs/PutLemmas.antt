-- For `put_all`, and for all above that put to a sink: texts one after the other, and that a put fails once.
use Rattle.std.proofs.Common.{◌≡◌, ◌∙◌, ◌+◌, ℕ, List, Result, Ok, Err, add-zero, inl, inr, ◌⊎◌}
use Rattle.tmpl_meaning.specs.Sink.{Cut, IsPut, Puts, Sunk, Whole}
use Rattle.tmpl_meaning.specs.declared.sink.SinkFault.{SinkFault}

-- a put that failed has counted one failure, and one that did not has counted none
pub counts_once : (r : Result (Unit {0}) SinkFault) (old new : Puts) (text : List ℕ) → IsPut r old new text
    → (new.failures ≡ old.failures) ⊎ (new.failures ≡ old.failures + 1)
counts_once (Ok u) old new text h = inl (h.count ∙ add-zero old.failures)
counts_once (Err e) old new text h = inr h.count

-- the text was put whole, or cut
pub whole_or_cut : (r : Result (Unit {0}) SinkFault) (s : Sunk) (text : List ℕ) → IsPut r s.before s.after text
    → Whole text s ⊎ Cut text s
whole_or_cut (Ok u) s text h = inl h
whole_or_cut (Err e) s text h = inr h
