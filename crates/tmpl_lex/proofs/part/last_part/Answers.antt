use Rattle.std.proofs.Common.{arith, false, refl, sym, [], append-nil}
use Rattle.std.proofs.lemmas.Grind.{common_steps}
use Rattle.tmpl_lex.proofs.FirstPartLemmas.{last-cuts, without_trailing-unmarked}
use Rattle.tmpl_lex.proofs.PlaceLemmas.{StandsAt-trimmed}
use Rattle.tmpl_lex.proofs.part.last_part.Goals as goal

pub returns-clause-cuts : goal.returns-clause-cuts
returns-clause-cuts c = grind (arith, common_steps, last-cuts)

pub returns-clause-placed : goal.returns-clause-placed
returns-clause-placed c =
    let bs = c.args.rest.bytes.now in
    let kept = c.split_leading.result.1.now in
    StandsAt-trimmed c.args.file.now bs bs [] c.split_leading.result.0.now kept kept c.args.rest.trims false _ c.requires.left.ends (sym (append-nil bs))
    c.split_leading.ensures.taken c.split_leading.ensures.kept (without_trailing-unmarked kept) refl
