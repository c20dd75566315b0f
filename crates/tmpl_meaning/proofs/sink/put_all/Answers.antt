use Rattle.std.proofs.Common.{◌∙◌, List, [], ℕ, take, drop, Ok, arith, refl, length-drop, ap, sym, add-zero}
use Rattle.std.proofs.lemmas.List.{take-append-drop, take_rest}
use Rattle.std.proofs.Math.Seq.{take-add}
use Rattle.tmpl_values.proofs.PutLemmas.{IsPut-along, IsPut-nil, IsPut-append}
use Rattle.tmpl_meaning.specs.Sink.{IsPut, as_puts}
use Rattle.tmpl_meaning.specs.declared.sink.SinkFault.{SinkFault}
use Rattle.tmpl_meaning.proofs.ToldLemmas.{err_up}
use Rattle.tmpl_meaning.proofs.sink.put_all.Goals as goal

pub loop-taken-preserved : goal.loop-taken-preserved
loop-taken-preserved g c =
    let rest = take_rest c.args.text.now c.loop-taken.taken in
    let put = c.in_ok-taken.ensures in
    let n = c.in_ok-taken.field-0 in
    let here = as_puts (g.S.Sink.so_far c.loop-taken.sink) in
    let next = as_puts (g.S.Sink.so_far c.put.new.self) in
    let more : IsPut {F = SinkFault} (Ok tt) here next (take n (drop c.loop-taken.taken c.args.text.now)) = record {
      count = ap (λ t. t.failures) put.taken ∙ sym (add-zero here.failures);
      bytes = ap (λ t. t.bytes) (rw rest at put.taken);
      through = refl;
    } in
    record {
      within = let count = rw rest at put.count.1 in omega (arith, length-drop {A = ℕ}, count);
      put = IsPut-along (IsPut-append c.loop-taken.invariant.put more) (sym (take-add c.loop-taken.taken n c.args.text.now));
    }

pub returns-in_err-taken : goal.returns-in_err-taken
returns-in_err-taken g c =
    let text = c.args.text.now in
    let taken = c.loop-taken.taken in
    let here = as_puts (g.S.Sink.so_far c.loop-taken.sink) in
    let next = as_puts (g.S.Sink.so_far c.put.new.self) in
    let put = c.in_err-taken.ensures in
    let rest : List ℕ = drop taken text in
    let nothing = IsPut-nil {F = SinkFault} here in
    let failed = err_up (λ r. IsPut r here next rest) c.from_residual.result _ c.from_residual.ensures.1
    (record { count = ap (λ t. t.failures) put.failed; bytes = ([], rest, refl, ap (λ t. t.bytes) put.failed ∙ nothing.bytes); through = refl }) in
    IsPut-along (IsPut-append c.loop-taken.invariant.put failed) (take-append-drop taken text)
