use Rattle.std.proofs.Common.{◌∙◌, ap, sym, subst, arith, length, min}
use Rattle.std.specs.Str.{IsUtf8}
use Rattle.std.proofs.lemmas.List.{length-take}
use Rattle.tmpl_values.proofs.RuneLemmas.{first_rune-known, first_rune-ill_formed}
use Rattle.tmpl_values.proofs.rune.first_char.Goals as goal

pub returns-in-Ok : goal.returns-in-Ok
returns-in-Ok c =
    let b = c.in-Ok.ensures.cases in
    let same = c.chars.ensures.rest ∙ b.0 in
    first_rune-known c.args.bytes.now c.chars.result.rest.now c.next.new.self.rest.now c.min-n.result c.next.result _ (subst IsUtf8 (sym same) b.1) same
    (omega (arith, length-take c.min-n.result c.args.bytes.now, ap length same, c.min-n.ensures, c.char_len.ensures)) c.next.ensures.steps.0

pub returns-in-Err : goal.returns-in-Err
returns-in-Err c =
    first_rune-ill_formed c.args.bytes.now c.min-n.result (c.min-n.ensures
    ∙ ap (λ k. min k (length c.args.bytes.now)) c.char_len.ensures) c.in-Err.ensures.cases.0
