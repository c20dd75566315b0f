use Rattle.std.proofs.Common.{arith, rules, ◌-◌}
use Rattle.std.proofs.lemmas.Fmt.{length-decimal-le}
use Rattle.std.specs.Fmt.{decimal}
use Rattle.tmpl_engine.proofs.PieceLemmas.{first-beyond, first-part}
use Rattle.tmpl_engine.proofs.piece.copy_number.Goals as goal

pub write_digits-start-requires : goal.write_digits-start-requires
write_digits-start-requires c = search (rules, length-decimal-le 20)

pub returns-clause-copied : goal.returns-clause-copied
returns-clause-copied c =
    let start = c.write_digits-start.result in
    let ends = c.write_digits-start.ensures.start in
    first-beyond c.args.end (20 - start) c.args.all.now c.copy_after.new.all _ (decimal c.args.number) _ (omega (arith, c.requires)) (omega (arith, ends))
    (first-part _ (decimal c.args.number) _ _ (omega (arith, ends)) c.write_digits-start.ensures.written) c.copy_after.ensures.copied
