use Rattle.std.proofs.Common.{arith, ◌∙◌, ◌++◌, ap, sym, take}
use Rattle.std.proofs.lemmas.List.{take-append-drop}
use Rattle.tmpl_problems.proofs.explain.rest_from.Goals as goal

pub returns : goal.returns
returns c =
    let bytes = c.args.bytes.now in
    let count = c.min.result in
    record {
      ends = record { front = take count bytes; is = sym (take-append-drop count bytes) ∙ ap (λ l. take count bytes ++ l) (sym c.split_at.ensures.back) };
      lines = omega arith;
    }
