use Rattle.std.proofs.Common.{ap, refl}
use Rattle.tmpl_syntax.specs.Fault as reason
use Rattle.tmpl_syntax.specs.Fault.{reason_of}
use Rattle.tmpl_syntax.specs.View.{set_view}
use Rattle.tmpl_syntax.proofs.ExamineLemmas.{alone_result, examined_result}
use Rattle.tmpl_syntax.proofs.examine.examine_file.Goals as goal

pub returns-in-TooLong-clause-examined : goal.returns-in-TooLong-clause-examined
returns-in-TooLong-clause-examined c =
    alone_result (set_view c.args.set.now) c.args.file.now c.args.bytes.now _ c.in-Err.refusal.line c.in-Err.refusal.kind reason.too_long
    (ap reason_of c.in-TooLong.is) (λ s. (s, refl)) c.in-Err.ensures.reading.0 c.in-Err.ensures.reading.1 c.alone.result c.alone.ensures.same

pub returns-in-SecondDefinition-clause-examined : goal.returns-in-SecondDefinition-clause-examined
returns-in-SecondDefinition-clause-examined c =
    alone_result (set_view c.args.set.now) c.args.file.now c.args.bytes.now _ c.in-Err.refusal.line c.in-Err.refusal.kind reason.second_definition
    (ap reason_of c.in-SecondDefinition.is) (λ s. (s, refl)) c.in-Err.ensures.reading.0 c.in-Err.ensures.reading.1 c.alone-in-SecondDefinition.result c.alone-in-SecondDefinition.ensures.same

pub returns-in_default-clause-examined : goal.returns-in_default-clause-examined
returns-in_default-clause-examined c =
    examined_result (set_view c.args.set.now) c.args.file.now c.args.bytes.now _ c.in-Err.refusal.line c.in-Err.refusal.kind c.in_default.not-TooLong
    c.in_default.not-SecondDefinition c.in_default.not-OutOfMemory c.in-Err.ensures.reading.0 c.in-Err.ensures.reading.1 c.all_refused.result
    c.all_refused.ensures.refused
