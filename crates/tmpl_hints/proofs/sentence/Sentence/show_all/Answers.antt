use Rattle.std.proofs.Common.{◌∙◌, subst}
use Rattle.tmpl_hints.specs.Sentence.{Adds}
use Rattle.tmpl_hints.proofs.SentenceLemmas.{readable_text, readable_other}
use Rattle.tmpl_hints.proofs.sentence.Sentence.show_all.Goals as goal

pub returns-in-Ok : goal.returns-in-Ok
returns-in-Ok c =
    let cases = c.in-Ok.ensures.cases in
    subst (λ xs. Adds c.args.self c.say.result xs) (cases.0 ∙ readable_text c.args.bytes.now cases.1) c.say.ensures

pub returns-in-Err : goal.returns-in-Err
returns-in-Err c =
    subst (λ xs. Adds c.args.self c.show_ascii.result xs) (readable_other c.args.bytes.now c.in-Err.ensures.cases.0) c.show_ascii.ensures
