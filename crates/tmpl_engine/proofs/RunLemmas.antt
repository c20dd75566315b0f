-- For `run`: what it comes to, by what the loop came to and what its output then gave.
use Rattle.std.proofs.Common.{inl, inr, ◌≡◌, ◌∙◌, ◌++◌, add-zero, ℕ, List, [], refl, ap, sym, subst, Option, Some, None, Result, Ok, Err, append-nil}
use Rattle.std.proofs.Common.{append_assoc}
use Rattle.std.proofs.lemmas.List.{append_cancel_left}
use Rattle.tmpl_values.specs.Put.{Begins, IsPut, Puts, append_bytes}
use Rattle.tmpl_values.proofs.PutLemmas.{IsPut-along, IsPut-append, append_bytes-nil}
use Rattle.tmpl_meaning.specs.Meaning.{Ran}
use Rattle.tmpl_meaning.specs.Sink.{Cut, Told, Whole, sunk}
use Rattle.tmpl_meaning.specs.declared.sink.SinkFault.{SinkFault}
use Rattle.tmpl_engine.specs.computed.Came.{Aim, Came, Closed, Flushed, IsLeft, ended_by}
use Rattle.tmpl_engine.specs.computed.Output.{Grows}
use Rattle.tmpl_engine.specs.Run.{IsRun}
use Rattle.tmpl_engine.specs.State.{Plan, State}
use Rattle.tmpl_engine.specs.declared.flow.Flow.{Flow}
use Rattle.tmpl_engine.specs.declared.flow.Flow.TheVariants as flow
use Rattle.tmpl_engine.specs.declared.fault.RunError.{RunError}
use Rattle.tmpl_engine.specs.declared.fault.RunError.TheVariants as error
use Rattle.tmpl_engine.proofs.OutputLemmas.{beyond}

-- what was taken is what was there and more; with what waits it is what was there and the front of the text
begun-by : (known : Option (List ℕ)) (more rest front beyond text : List ℕ) → append_bytes (append_bytes known more) rest ≡ append_bytes (append_bytes known []) front
    → text ≡ front ++ beyond → Begins known (append_bytes known more) text
begun-by None more rest front beyond text e is = ([], text, refl, refl)
begun-by (Some l) more rest front beyond text e is = (more, rest ++ beyond, is ∙ ap (λ q. q ++ beyond) (sym parts) ∙ append_assoc more rest beyond, refl)
  where
    parts : more ++ rest ≡ front
    parts = append_cancel_left l (more ++ rest) front (let both : Some ((l ++ more) ++ rest) ≡ Some ((l ++ []) ++ front) = e in
        sym (append_assoc l more rest) ∙ (let inner : (l ++ more) ++ rest ≡ (l ++ []) ++ front = cc in inner) ∙ ap (λ q. q ++ front) (append-nil l))

module _ (end : Ran) (before after : Told) (rest : List ℕ) (name : ℕ) (grows : Grows before after) where
  first : Puts
  first = beyond before [] name

  last : ℕ → Puts
  last n = beyond after rest n

  begins : (front beyond : List ℕ) → end.text ≡ front ++ beyond → append_bytes after.bytes rest ≡ append_bytes (append_bytes before.bytes []) front
      → Begins before.bytes after.bytes end.text
  begins front beyond is e = subst (λ k. Begins before.bytes k end.text) (sym grows.1)
      (begun-by before.bytes grows.0 rest front beyond end.text (ap (λ k. append_bytes k rest) (sym grows.1) ∙ e) is)

  whole : (n : ℕ) → rest ≡ [] → IsPut {F = SinkFault} (Ok tt) (beyond before [] name) (beyond after rest n) end.text → Whole end.text (sunk before after)
  whole n none h = record {
    count = h.count;
    bytes = append_bytes-nil after.bytes ∙ ap (λ l. append_bytes after.bytes l) (sym none) ∙ h.bytes ∙ ap (λ k. append_bytes k end.text) (sym (append_bytes-nil before.bytes));
    through = refl;
  }

  cut : (n : ℕ) → IsPut {F = SinkFault} (Err (record {})) (beyond before [] name) (beyond after rest n) end.text → Cut end.text (sunk before after)
  cut n h = record { count = h.count; bytes = begins h.bytes.0 h.bytes.1 h.bytes.2 h.bytes.3; through = refl }

  flushed : (n : ℕ) (was r : Result (Unit {0}) RunError) (mid : Puts) → IsPut {F = SinkFault} (Ok tt) (beyond before [] name) mid end.text
      → Flushed was r mid (beyond after rest n) rest
      → (Whole end.text (sunk before after) → IsRun end (sunk before after) was) → IsRun end (sunk before after) r
  flushed n was r mid given (inl f) done =
      subst (λ x. IsRun end (sunk before after) x) (sym f.0) (done (whole n f.2 (IsPut-along (IsPut-append given f.1) (append-nil end.text))))
  flushed n was r mid given (inr f) done =
      subst (λ x. IsRun end (sunk before after) x) (sym f.0) (cut n (IsPut-along (IsPut-append given f.1) (append-nil end.text)))

  pub comes-to : (n : ℕ) (e r : Result (Unit {0}) RunError) (mid : Puts) → Came end (beyond before [] name) mid e → Closed e r mid (beyond after rest n) rest
      → IsRun end (sunk before after) r
  comes-to n (Ok u) r mid came closed = flushed n (Ok u) r mid came.0 closed (λ w. (w, came.1))
  comes-to n (Err (error.Fault fault)) r mid came closed = flushed n (Err (error.Fault fault)) r mid came.0 closed (λ w. (w, came.1))
  comes-to n (Err error.WriteFailed) r mid came closed =
      subst (λ x. IsRun end (sunk before after) x) (sym closed.0)
      (cut n (subst (λ (p : Puts). IsPut {F = SinkFault} (Err (record {})) (beyond before [] name) p end.text) (sym closed.1) came))
  comes-to n (Err error.OutOfMemory) r mid came closed =
      let put = subst (λ (p : Puts). IsPut {F = SinkFault} (Ok tt) (beyond before [] name) p came.0) (sym closed.1) came.2 in
      subst (λ x. IsRun end (sunk before after) x) (sym closed.0)
      ((put.count ∙ add-zero before.failures, begins came.0 came.1.0 came.1.1 put.bytes), came.3)

-- no put failed in the loop, or that is told
pub counts-so : (end : Ran) (old new : Puts) (r : Result (Unit {0}) RunError) → Came end old new r
    → (r ≡ Err error.WriteFailed → ⊥) → new.failures ≡ old.failures
counts-so end old new (Err error.WriteFailed) came h = absurd (h refl)
counts-so end old new (Err error.OutOfMemory) came h = came.2.count ∙ add-zero old.failures
counts-so end old new _ came h = came.0.count ∙ add-zero old.failures

-- how a run ended that does not go on
pub left-came : (plan : Plan) (aim : Aim) (s : State) (Plain : Type 0) (now : Puts) (r : Result Flow RunError) → IsLeft plan aim s Plain now r
    → (r ≡ Ok flow.On → ⊥) → Came aim.end aim.before now (ended_by r)
left-came plan aim s Plain now (Ok flow.On) left never = absurd (never refl)
left-came plan aim s Plain now (Ok flow.Over) left never = left
left-came plan aim s Plain now (Err e) left never = left
