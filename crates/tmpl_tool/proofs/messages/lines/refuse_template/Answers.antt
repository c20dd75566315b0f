use Rattle.std.proofs.Common.{◌≡◌, ◌∙◌, List, Some, Bor, ap, sym, subst}
use Rattle.std.specs.Prelude.{option_map}
use Rattle.tmpl_syntax.specs.Fault.{reason_of}
use Rattle.tmpl_meaning.specs.Sink.{sunk}
use Rattle.tmpl_tool.specs.Outcome.{Says, line}
use Rattle.tmpl_tool.specs.Source.{Bytes}
use Rattle.tmpl_tool.specs.Tool.{reason_text}
use Rattle.tmpl_tool.specs.computed.View.{parts_bytes}
use Rattle.tmpl_tool.specs.declared.messages.part.LinePart.{LinePart}
use Rattle.tmpl_tool.proofs.MessageLemmas.{refusal-line}
use Rattle.tmpl_tool.proofs.messages.lines.refuse_template.Goals as goal

pub returns-clause-line : goal.returns-clause-line
returns-clause-line g c =
    let fault = c.args.fault.now in
    let err = sunk (g.E.Sink.so_far c.args.err.now) (g.E.Sink.so_far c.say.new.err) in
    let told : Some c.in-Some.text.now ≡ option_map reason_text (reason_of fault.kind) =
    sym (ap (option_map (λ (t : Bor Bytes). t.now)) c.in-Some.is) ∙ c.reason_text.ensures in
    subst (λ l. Says l err)
    (ap (λ (ps : List LinePart). line (parts_bytes ps)) c.as_slice.ensures
    ∙ sym (refusal-line fault.file.now fault.line (reason_of fault.kind) c.in-Some.text.now told)) c.say.ensures.line
