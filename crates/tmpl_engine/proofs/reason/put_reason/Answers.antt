use Rattle.std.proofs.Common.{◌≡◌, ◌∙◌, ◌++◌, ap, codes, sym}
use Rattle.tmpl_values.proofs.PutLemmas.{IsPut-along, IsPut-append, IsPut-stop}
use Rattle.tmpl_funcs.specs.Func.{name_of}
use Rattle.tmpl_meaning.specs.View.{cause_of}
use Rattle.tmpl_meaning.specs.declared.fault.RunFaultKind.{RunFaultKind}
use Rattle.tmpl_engine.specs.Reason.{call_text, cause_text}
use Rattle.tmpl_engine.proofs.reason.put_reason.Goals as goal

-- the text of a kind that is known
text-of : (kind was : RunFaultKind) → kind ≡ was → cause_text (cause_of was) ≡ cause_text (cause_of kind)
text-of kind was is = ap (λ k. cause_text (cause_of k)) (sym is)

pub returns-in_err-put_limit-in-StepsSpent : goal.returns-in_err-put_limit-in-StepsSpent
returns-in_err-put_limit-in-StepsSpent g c =
    IsPut-along (IsPut-stop (codes " steps") c.from_residual.ensures.0 c.in_err-put_limit-in-StepsSpent.ensures) (text-of _ _ c.in-StepsSpent.is)

pub returns-in_ok-put_limit-in-StepsSpent : goal.returns-in_ok-put_limit-in-StepsSpent
returns-in_ok-put_limit-in-StepsSpent g c =
    IsPut-along (IsPut-append c.in_ok-put_limit-in-StepsSpent.ensures c.put.ensures) (text-of _ _ c.in-StepsSpent.is)

pub returns-in_err-put_named-in-NoField : goal.returns-in_err-put_named-in-NoField
returns-in_err-put_named-in-NoField g c =
    IsPut-along (IsPut-stop (codes " here") c.from_residual-in_err-put_named-in-NoField.ensures.0 c.in_err-put_named-in-NoField.ensures)
    (text-of _ _ c.in-NoField.is)

pub returns-in_ok-put_named-in-NoField : goal.returns-in_ok-put_named-in-NoField
returns-in_ok-put_named-in-NoField g c =
    IsPut-along (IsPut-append c.in_ok-put_named-in-NoField.ensures c.put-in-NoField.ensures) (text-of _ _ c.in-NoField.is)

pub returns-in-NotARange : goal.returns-in-NotARange
returns-in-NotARange g c = IsPut-along c.put-in-NotARange.ensures (text-of _ _ c.in-NotARange.is)

pub returns-in_err-put-in-Call : goal.returns-in_err-put-in-Call
returns-in_err-put-in-Call g c =
    IsPut-along (IsPut-stop (codes ": " ++ call_text c.in-Call.why) c.from_residual-in_err-put-in-Call.ensures.0 c.in_err-put-in-Call.ensures)
    (ap (λ n. n ++ (codes ": " ++ call_text c.in-Call.why)) (c.as_bytes.ensures.value ∙ c.name.ensures) ∙ text-of _ _ c.in-Call.is)

pub returns-in_err-put-in-Call-2 : goal.returns-in_err-put-in-Call-2
returns-in_err-put-in-Call-2 g c =
    IsPut-along
    (IsPut-append c.in_ok-put-in-Call.ensures
    (IsPut-stop (call_text c.in-Call.why) c.from_residual-in_err-put-in-Call-2.ensures.0 c.in_err-put-in-Call-2.ensures))
    (ap (λ n. n ++ (codes ": " ++ call_text c.in-Call.why)) (c.as_bytes.ensures.value ∙ c.name.ensures) ∙ text-of _ _ c.in-Call.is)

pub returns-in_ok-put-in-Call-2 : goal.returns-in_ok-put-in-Call-2
returns-in_ok-put-in-Call-2 g c =
    let name : c.as_bytes.result.now ≡ name_of c.in-Call.func = c.as_bytes.ensures.value ∙ c.name.ensures in
    let why : c.as_bytes-in-Call.result.now ≡ call_text c.in-Call.why = c.as_bytes-in-Call.ensures.value ∙ c.call_text.ensures in
    IsPut-along (IsPut-append c.in_ok-put-in-Call.ensures (IsPut-append c.in_ok-put-in-Call-2.ensures c.put-in-Call-3.ensures))
    (ap (λ n. n ++ (codes ": " ++ c.as_bytes-in-Call.result.now)) name ∙ ap (λ w. name_of c.in-Call.func ++ (codes ": " ++ w)) why
    ∙ text-of _ _ c.in-Call.is)
