-- For all that say a line: its pieces one after the other, and that a line is said whole or cut once.
use Rattle.std.proofs.Common.{◌≡◌, ◌∙◌, ◌++◌, ◌+◌, ◌<◌, ℕ, List, [], ◌∷◌, Result, refl, ap, sym, drop, get_or, length}
use Rattle.std.proofs.Common.{append-nil, codes, inr}
use Rattle.std.proofs.Common.{Option, Some, None}
use Rattle.std.specs.Prelude.{decimal, option_map}
use Rattle.std.proofs.lemmas.List.{at_drop_more}
use Rattle.tmpl_syntax.specs.Fault.{Reason}
use Rattle.tmpl_values.proofs.PutLemmas.{IsPut-nil}
use Rattle.tmpl_meaning.specs.Sink.{IsPut, Told, Sunk, Whole, as_puts, sunk}
use Rattle.tmpl_meaning.specs.declared.sink.SinkFault.{SinkFault}
use Rattle.tmpl_meaning.proofs.PutLemmas.{counts_once, whole_or_cut}
use Rattle.tmpl_tool.specs.Outcome.{Answer, Once, Outcome, Says, line, memory_line}
use Rattle.tmpl_tool.specs.Tool as tool
use Rattle.tmpl_tool.specs.Tool.{reason_text}
use Rattle.tmpl_tool.specs.Inputs.{said_of}
use Rattle.tmpl_tool.specs.Source.{Bytes}
use Rattle.tmpl_tool.specs.computed.View.{part_bytes, parts_bytes}
use Rattle.tmpl_tool.specs.declared.messages.part.LinePart.{LinePart}

-- one part, and then others
parts-cons : (p : LinePart) (ps : List LinePart) → parts_bytes (p ∷ ps) ≡ part_bytes p ++ parts_bytes ps
parts-cons p [] = sym (append-nil (part_bytes p))
parts-cons p (q ∷ ps) = refl

-- one more of the parts
pub parts-more : (parts : List LinePart) (i : ℕ) (d : LinePart) → i < length parts
    → parts_bytes (drop i parts) ≡ part_bytes (get_or parts i d) ++ parts_bytes (drop (i + 1) parts)
parts-more parts i d lt = at_drop_more parts_bytes parts i d lt ∙ parts-cons (get_or parts i d) (drop (i + 1) parts)

-- what was put is said
module _ (before after : Told) (text : Bytes) (r : Result (Unit {0}) SinkFault) (put : IsPut r (as_puts before) (as_puts after) text) where
  pub put_once : Once before.failures after.failures
  put_once = counts_once r (as_puts before) (as_puts after) text put

  pub put_says : Says text (sunk before after)
  put_says = whole_or_cut r (sunk before after) text put

pub ruleset said = (put_once, put_says)

-- nothing is put
pub nothing_put : (t : Told) → Whole [] (sunk t t)
nothing_put t = IsPut-nil (as_puts t)

-- memory was refused, and nothing was put
pub nothing_out : (e : Answer) (t : Told) (err : Sunk) (code : ℕ) → code ≡ 7 → Says memory_line err → Outcome e (sunk t t) err code
nothing_out e t err code is says = inr (inr ((refl, ([], _, refl, (nothing_put t).bytes)), is, says))

-- a template file that is refused for a reason, which is told in words
pub refusal-line : (file : Bytes) (at : ℕ) (why : Option Reason) (text : Bytes) → Some text ≡ option_map reason_text why
    → (said_of (option_map (λ r. tool.refused file (at, r)) why)).line
    ≡ line (file ++ (codes ":" ++ (decimal at ++ (codes ": " ++ text))))
refusal-line file at None text is = cc
refusal-line file at (Some r) text is =
    let same : text ≡ reason_text r = cc in
    ap (λ (t : Bytes). line (file ++ (codes ":" ++ (decimal at ++ (codes ": " ++ t))))) (sym same)
