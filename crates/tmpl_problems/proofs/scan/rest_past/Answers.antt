use Rattle.std.proofs.Common.{arith, ◌≡◌, ◌∙◌, ◌++◌, ap, sym, take, drop, append_assoc}
use Rattle.std.proofs.lemmas.List.{take-append-drop}
use Rattle.tmpl_problems.proofs.scan.rest_past.Goals as goal

pub returns : goal.returns
returns c =
    let front = c.requires.ends.front in
    let bytes = c.args.rest.bytes.now in
    let taken = take c.args.count bytes in
    let parts : c.args.file.now ≡ (front ++ taken) ++ drop c.args.count bytes =
    c.requires.ends.is ∙ ap (λ l. front ++ l) (sym (take-append-drop c.args.count bytes))
    ∙ sym (append_assoc front taken (drop c.args.count bytes)) in (
      record {
        ends = record { front = front ++ taken; is = parts ∙ ap (λ l. (front ++ taken) ++ l) (sym c.split_at.ensures.back) };
        lines = omega arith;
      },
      omega arith,
    )
