-- For `render_named` and `tell_end`: a render of the template of a name, as the definition of the command has it.
use Rattle.std.proofs.Common.{◌≡◌, ◌∙◌, ℕ, [], Option, Some, None, Ok, Err, refl, subst, sym, inl, inr}
use Rattle.std.specs.Option.{ok_or}
use Rattle.tmpl_values.specs.Put.{IsPut, Puts}
use Rattle.tmpl_values.proofs.PutLemmas.{append_bytes-nil}
use Rattle.tmpl_meaning.specs.Meaning.{Ran}
use Rattle.tmpl_meaning.specs.Sink.{Sunk, Told, Untouched, Whole, as_puts, sunk}
use Rattle.tmpl_meaning.specs.declared.sink.SinkFault.{SinkFault}
use Rattle.tmpl_engine.specs.Render.{IsRender}
use Rattle.tmpl_engine.specs.declared.error.RenderError.{RenderError}
use Rattle.tmpl_engine.specs.declared.error.RenderError.TheVariants.{NoTemplate, OutOfMemory}
use Rattle.tmpl_tool.specs.Outcome.{Outcome, Says, memory_line}
use Rattle.tmpl_tool.specs.Source.{Bytes}
use Rattle.tmpl_tool.specs.Tool as tool
use Rattle.tmpl_tool.specs.Tool.{answer_of, stop_answer}
use Rattle.tmpl_tool.proofs.MessageLemmas.{nothing_put}

-- a sink that was not touched took the whole of nothing
untouched-whole : (before after : Told) → Untouched (sunk before after) → Whole [] (sunk before after)
untouched-whole before after h =
    let same : as_puts after ≡ as_puts before = λ i. record { bytes = h.1 i; failures = h.0 i; through = 0 } in
    subst (λ (p : Puts). IsPut {F = SinkFault} (Ok tt) (as_puts before) p []) (sym same) (nothing_put before)

-- there is no template of the name, and that is said
pub says_unnamed : (r : Option Ran) (name : Bytes) (before after : Told) (err : Sunk) (code : ℕ) (e : RenderError) → IsRender r (sunk before after) (Err e)
    → e ≡ NoTemplate → code ≡ 4 → Says (stop_answer (tool.unnamed name)).line err
    → Outcome (answer_of (ok_or r (tool.unnamed name))) (sunk before after) err code
says_unnamed None name before after err code NoTemplate h same is says = inl (untouched-whole before after h.1, is, says)
says_unnamed (Some r) name before after err code NoTemplate h same is says = absurd h
says_unnamed _ _ _ _ _ _ _ h same is says = cc

-- memory was refused, before the run or in it, and that is said
pub says_refused : (r : Option Ran) (name : Bytes) (before after : Told) (err : Sunk) (code : ℕ) (e : RenderError) → IsRender r (sunk before after) (Err e)
    → e ≡ OutOfMemory → code ≡ 7 → Says memory_line err → Outcome (answer_of (ok_or r (tool.unnamed name))) (sunk before after) err code
says_refused None name before after err code OutOfMemory h same is says = let wrong = h.0 in cc
says_refused (Some r) name before after err code OutOfMemory (inl run) same is says = inr (inr (rw run.1 run.0, is, says))
says_refused (Some r) name before after err code OutOfMemory (inr untouched) same is says =
    inr (inr ((untouched.0, ([], _, refl, untouched.1 ∙ append_bytes-nil before.bytes)), is, says))
says_refused _ _ _ _ _ _ _ h same is says = cc
