-- For what a call does stage by stage: what a stage comes to, the whole comes to.
use Rattle.std.proofs.Common.{◌≡◌, ◌∙◌, ℕ, Bool, true, false, List, [], Option, Some, None, Ok, Err, IfSome, codes, inl, refl, subst, sym}
use Rattle.std.specs.Prelude.{option_map}
use Rattle.std.specs.Str.{IsUtf8}
use Rattle.std.proofs.lemmas.Option.{IfSome_then}
use Rattle.std.proofs.lemmas.Str.{is_utf8-from_IsUtf8}
use Rattle.tmpl_values.specs.Value.{Value}
use Rattle.tmpl_syntax.specs.Fault.{Reason, reason_of}
use Rattle.tmpl_syntax.specs.Set.{Template}
use Rattle.tmpl_syntax.specs.Print.Printed.{printed_set}
use Rattle.tmpl_syntax.specs.computed.Parse.{IsRefusal, parsed}
use Rattle.tmpl_syntax.specs.declared.fault.ParseFault.{ParseFault}
use Rattle.tmpl_meaning.specs.Meaning.{Rules}
use Rattle.tmpl_meaning.specs.Sink.{Told, Sunk, Whole, sunk}
use Rattle.tmpl_tool.specs.Inputs.{said_of}
use Rattle.tmpl_tool.specs.Outcome.{Answer, Outcome, Says}
use Rattle.tmpl_tool.specs.Source.{Bytes}
use Rattle.tmpl_tool.specs.Tool as tool
use Rattle.tmpl_tool.specs.Tool.{IsParse, Parse, Early, add_file, answer_of, named_run, only_text, stop_answer}
use Rattle.tmpl_tool.specs.declared.stop.Stop.TheVariants as stop
use Rattle.tmpl_tool.proofs.MessageLemmas.{nothing_out, nothing_put}
use Rattle.tmpl_tool.proofs.ParseLemmas.{for_each}
use Rattle.tmpl_c.specs.Passed.{data_passed, each_added, render_answer, with_passed}
use Rattle.tmpl_c.specs.computed.Load.{halt_seen}
use Rattle.tmpl_c.specs.declared.load.Halt.{Halt}
use Rattle.tmpl_c.specs.declared.load.Halt.TheVariants as halt

-- ---- one file

-- a file whose name is a text
pub text_added : (old : List Template) (f : Bytes × Bytes) (name : Bytes) → name ≡ f.0 → IsUtf8 f.0 → with_passed parsed old f ≡ add_file parsed old name f.1
text_added old f name same is = rw (is_utf8-from_IsUtf8 f.0 is, same) refl

module _ (old : List Template) (f : Bytes × Bytes) (name : Bytes) where
  pub file_added : (new : List Template) → with_passed parsed old f ≡ add_file parsed old name f.1 → parsed old name f.1 ≡ Ok new → with_passed parsed old f ≡ Ok new
  file_added new same is = same ∙ rw is refl

  pub file_refused : (fault : ParseFault) (why : Option Reason) → fault.file.now ≡ name → with_passed parsed old f ≡ add_file parsed old name f.1
      → IsRefusal (parsed old name f.1) fault.line why
      → IfSome (option_map (λ r. tool.refused fault.file.now (fault.line, r)) why) (λ s. with_passed parsed old f ≡ Err s)
  file_refused fault None named same is = tt
  file_refused fault (Some r) named same is = same ∙ rw (is, named) refl

-- ---- nothing is put out where nothing is run

refusal_quiet : (f : ParseFault) (why : Option Reason)
    → IfSome (option_map (λ r. tool.refused f.file.now (f.line, r)) why) (λ s. (stop_answer s).text ≡ [])
refusal_quiet f None = tt
refusal_quiet f (Some r) = refl

quiet : (h : Halt) → IfSome (halt_seen h) (λ s. (stop_answer s).text ≡ [])
quiet halt.NotText = refl
quiet (halt.Stop (stop.NotFound m)) = refl
quiet (halt.Stop (stop.Failed m)) = refl
quiet (halt.Stop (stop.Template f)) = refusal_quiet f (reason_of f.kind)
quiet (halt.Stop (stop.NotJson m)) = refl
quiet (halt.Stop (stop.NotWhole m)) = refl
quiet (halt.Stop stop.OutOfMemory) = tt

module _ (a : Answer) (t : Told) (err : Sunk) (code : ℕ) where
  stop_outcome : (o : Option Early) → IfSome o (λ s. (stop_answer s).text ≡ []) → IfSome o (λ s. a ≡ stop_answer s) → code ≡ (said_of o).status
      → Says (said_of o).line err → Outcome a (sunk t t) err code
  stop_outcome None empty is status says = nothing_out a t err code status says
  stop_outcome (Some s) empty is status says =
      subst (λ (x : Answer). Outcome x (sunk t t) err code) (sym is)
      (inl (subst (λ (x : Bytes). Whole x (sunk t t)) (sym empty) (nothing_put t), status, says))

module _ (rules : Rules) (print : Bool) (files : List (Bytes × Bytes)) (name input : Bytes) where
  -- by any function that keeps the rules
  pub by_any : (out err : Sunk) (code : ℕ) → Outcome (render_answer parsed rules print files name input) out err code
      → (parse : Parse) → IsParse parse → Outcome (render_answer parse rules print files name input) out err code
  by_any out err code h parse is = for_each (λ (p : Parse). Outcome (render_answer p rules print files name input) out err code) h parse is

  module _ (t : Told) (err : Sunk) (code : ℕ) where
    -- a file stops it
    pub file_stops : (old : List Template) → old ≡ [] → (why : Halt) → IfSome (halt_seen why) (λ s. each_added parsed old files ≡ Err s)
        → code ≡ (said_of (halt_seen why)).status → Says (said_of (halt_seen why)).line err
        → (parse : Parse) → IsParse parse → Outcome (render_answer parse rules print files name input) (sunk t t) err code
    file_stops old none why h status says =
        by_any (sunk t t) err code (stop_outcome (render_answer parsed rules print files name input) t err code (halt_seen why) (quiet why)
        (IfSome_then (halt_seen why) (rw none at h) (λ s e. rw e refl)) status says)

  module _ (old set : List Template) (none : old ≡ []) (loads : each_added parsed old files ≡ Ok set) where
    -- the set is to be printed
    pub printed_out : (out err : Sunk) (code : ℕ) → print ≡ true → Outcome (only_text (printed_set set)) out err code
        → (parse : Parse) → IsParse parse → Outcome (render_answer parse rules print files name input) out err code
    printed_out out err code is h =
        by_any out err code (let add_file = rw none at loads in rw (add_file, is) h)

    module _ (runs : print ≡ false) where
      -- the data stops it
      pub data_stops : (t : Told) (err : Sunk) (code : ℕ) (why : Halt) → IfSome (halt_seen why) (λ s. data_passed (codes "data") input ≡ Err s)
          → code ≡ (said_of (halt_seen why)).status → Says (said_of (halt_seen why)).line err
          → (parse : Parse) → IsParse parse → Outcome (render_answer parse rules print files name input) (sunk t t) err code
      data_stops t err code why h status says =
          by_any (sunk t t) err code (stop_outcome (render_answer parsed rules print files name input) t err code (halt_seen why) (quiet why)
          (IfSome_then (halt_seen why) h (λ s e. let add_file = rw none at loads in rw (add_file, runs, e) refl)) status says)

      -- nothing stops it
      pub goes_on : (out err : Sunk) (code : ℕ) (value found : Option Value) → data_passed (codes "data") input ≡ Ok value → found ≡ value
          → Outcome (answer_of (named_run rules name set found)) out err code
          → (parse : Parse) → IsParse parse → Outcome (render_answer parse rules print files name input) out err code
      goes_on out err code value found is same h =
          by_any out err code (let add_file = rw none at loads in rw (add_file, runs, is, sym same) h)
