use Rattle.std.proofs.Common.{◌∙◌, ap, drop, map, sym, take}
use Rattle.std.specs.List.{drop-map, take-map}
use Rattle.tmpl_code.specs.View.{letters_at}
use Rattle.tmpl_code.proofs.tables.Tables.names.Goals as goal

pub returns : goal.returns
returns c =
    let f = letters_at c.args.self.now.letters.items in
    let all = c.args.self.now.spans.items in
    (λ k. map (letters_at (c.as_slice.ensures.value k)) (c.spans_at.ensures k)) ∙ ap (λ ss. map f (take c.args.span.count (drop c.args.span.start ss))) c.as_slice-2.ensures.value
    ∙ sym (take-map f c.args.span.count (drop c.args.span.start all)) ∙ ap (take c.args.span.count) (sym (drop-map f c.args.span.start all))
