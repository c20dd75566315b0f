use Rattle.std.proofs.Common.{◌∙◌, ◌∷◌, ap, arith}
use Rattle.tmpl_values.specs.View.{val_of}
use Rattle.tmpl_funcs.specs.View.{values_of}
use Rattle.tmpl_funcs.specs.computed.Directive.{printed}
use Rattle.tmpl_funcs.specs.computed.View.{form_seen}
use Rattle.tmpl_funcs.specs.printf.Format.{formatted}
use Rattle.tmpl_funcs.specs.computed.Format.{IsSegmentAdded}
use Rattle.tmpl_funcs.proofs.FormatLemmas.{formatted-no_form, formatted-form_alone}
use Rattle.tmpl_funcs.proofs.AddedLemmas.{IsErrAnd-along, values_of-nil, IsSegmentAdded-refused, formatted-form_added, formatted-form_none}
use Rattle.tmpl_funcs.proofs.printf.format.add_form.Goals as goal

pub returns-in_default : goal.returns-in_default
returns-in_default c =
    formatted-no_form c.args.spelled.now c.requires.some c.requires.other (values_of c.args.operands.now) c.in_default.ensures

pub returns-in-empty : goal.returns-in-empty
returns-in-empty c =
    let read = c.in-Some.ensures in
    ap (formatted (37 ∷ c.args.spelled.now)) (values_of-nil c.args.operands.now (omega arith))
    ∙ formatted-form_alone c.args.spelled.now c.requires.some c.requires.other read.0 read.1

pub returns-in_err-add_printed-in-len1-up : goal.returns-in_err-add_printed-in-len1-up
returns-in_err-add_printed-in-len1-up c =
    let bs = c.args.spelled.now in
    let read = c.in-Some.ensures in
    let x = c.operand-item in
    IsErrAnd-along (IsSegmentAdded (37 ∷ bs)
    (values_of c.args.operands.now) c.args.bytes.now.items c.add_printed.new.bytes.items) c.from_residual.result _ c.from_residual.ensures.1
    (IsSegmentAdded-refused (printed (form_seen c.in-Some.form) (val_of x.result.val)) c.args.bytes.now.items c.add_printed.new.bytes.items (37 ∷ bs)
    (values_of c.args.operands.now) _ c.in_err-add_printed-in-len1-up.ensures
    (formatted-form_none bs c.requires.some c.requires.other c.args.operands.now x.result c.in-len1-up.len_at_least x.is (form_seen c.in-Some.form)
    c.in-Some.after.now read.0 read.1 read.2 read.3))

pub returns-in_ok-add_printed-in-len1-up : goal.returns-in_ok-add_printed-in-len1-up
returns-in_ok-add_printed-in-len1-up c =
    let read = c.in-Some.ensures in
    let x = c.operand-item in
    formatted-form_added c.args.spelled.now c.requires.some c.requires.other c.args.operands.now x.result c.in-len1-up.len_at_least x.is
    (form_seen c.in-Some.form) c.in-Some.after.now read.0 read.1 read.2 read.3 c.args.bytes.now.items c.add_printed.new.bytes.items
    c.in_ok-add_printed-in-len1-up.ensures
